-- Why a network is not mapped.
use Rattle.std.specs.Prelude.{List, Option, Some, ⊤}
use Rattle.lw_fixed.specs.declared.micro.Micro.{Micro}
use Rattle.lw_net.specs.Networks.{NetworkParts}
use Rattle.lw_genlib.specs.Cells.{CellParts}
use Rattle.lw_form.specs.declared.fault.FormFault.{FormFault}
use Rattle.lw_form.specs.declared.fault.FormFault.TheVariants as form
use Rattle.lw_assoc.specs.declared.fault.GraphFault.{GraphFault}
use Rattle.lw_assoc.specs.declared.fault.GraphFault.TheVariants as graph
use Rattle.lw_map.specs.declared.choices.Choices.{Choices}
use Rattle.lw_map.specs.declared.fault.MapFault.{MapFault}
use Rattle.lw_map.specs.declared.fault.MapFault.TheVariants.{Forms, Splits, NoCover, Points, Memory}
use Rattle.lw_map.specs.Options.{Options, plain_options}
use Rattle.lw_map.specs.Mapped.{HasTooManyForms, HasTooManySplits, LacksCover}
use Rattle.lw_map.specs.Trading.{HasTooManyPoints}
use Rattle.lw_curves.specs.declared.point.CurveFault.{CurveFault}
use Rattle.lw_curves.specs.declared.point.CurveFault.TheVariants as curve

abbrev pub form_fault : FormFault → MapFault
form_fault form.Limit = Forms
form_fault form.Memory = Memory

abbrev pub graph_fault : GraphFault → MapFault
graph_fault graph.Limit = Splits
graph_fault graph.Memory = Memory

abbrev pub curve_fault : CurveFault → MapFault
curve_fault curve.Limit = Points
curve_fault curve.Memory = Memory

-- Too many forms, or else too many splits. Running out of memory needs no reason.
abbrev pub IsChoiceFault : Options → NetworkParts → MapFault → Type 0
IsChoiceFault options net Forms = HasTooManyForms options net
IsChoiceFault options net Splits = HasTooManySplits options net
IsChoiceFault options net (NoCover name) = ⊥
IsChoiceFault options net Points = ⊥
IsChoiceFault options net Memory = ⊤

-- The first output without a cover. Running out of memory needs no reason.
abbrev pub IsCoverFault : List CellParts → NetworkParts → List Micro → Choices → MapFault → Type 0
IsCoverFault cells net starts c (NoCover name) = LacksCover (plain_options c.options) cells net starts name
IsCoverFault cells net starts c Memory = ⊤
IsCoverFault cells net starts c other = ⊥

-- The first output without a cover, or else too many points. Running out of memory needs no reason.
abbrev pub IsTradeFault : List CellParts → NetworkParts → List Micro → Choices → Option Micro → MapFault → Type 0
IsTradeFault cells net starts c deadline (NoCover name) = LacksCover (plain_options c.options) cells net starts name
IsTradeFault cells net starts c (Some deadline) Points =
    HasTooManyPoints (plain_options c.options) cells net starts deadline
IsTradeFault cells net starts c deadline Memory = ⊤
IsTradeFault cells net starts c deadline other = ⊥

-- What keeps a command from its answer, whatever the choices are.

-- Too many forms or splits, or the first output without a cover. Running out of memory needs no reason.
abbrev pub IsMapFault : Options → List CellParts → NetworkParts → List Micro → MapFault → Type 0
IsMapFault options cells net starts (NoCover name) = LacksCover options cells net starts name
IsMapFault options cells net starts other = IsChoiceFault options net other

-- Why a trade has no netlist: as for a mapping, or there are too many points by the deadline. Without a deadline no
-- points are counted.
abbrev pub IsTradingFault : Option Micro → Options → List CellParts → NetworkParts → List Micro → MapFault → Type 0
IsTradingFault (Some deadline) options cells net starts Points = HasTooManyPoints options cells net starts deadline
IsTradingFault deadline options cells net starts other = IsMapFault options cells net starts other
