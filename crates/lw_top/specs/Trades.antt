-- What a library of cells and a network come to by a deadline: a text of a netlist of least area, or why there is none.
use Rattle.std.specs.Prelude.{ℕ, ◌≡◌, List, Option, Some, None, Ok, Err}
use Rattle.lw_fixed.specs.declared.micro.Micro.{Micro}
use Rattle.lw_net.specs.Networks.{NetworkParts}
use Rattle.lw_genlib.specs.Cells.{CellParts}
use Rattle.lw_blif.specs.declared.parsed.Parsed.{Parsed}
use Rattle.lw_netlist.specs.Netlists.{NetlistParts}
use Rattle.lw_mapped.specs.Texts.{mapped_text}
use Rattle.lw_map.specs.Options.{Options}
use Rattle.lw_map.specs.Mapped.{IsWithinLimits}
use Rattle.lw_map.specs.Trading.{IsTradeable, IsTradedNetlist, HasTooManyPoints}
use Rattle.lw_top.specs.declared.refusal.Refusal.{Refusal}
use Rattle.lw_top.specs.declared.refusal.Refusal.TheVariants.{Points}
use Rattle.lw_top.specs.Steps.{Step}
use Rattle.lw_top.specs.Maps.{LacksMapping}

-- the text is that of a netlist of least area by the deadline, with the model's frame and its starts
pub record IsTradedText (deadline : Option Micro) (options : Options) (cells : List CellParts) (model : Parsed)
    (text : List ℕ) : Type 0 where
  pub within : IsWithinLimits options model.network
  pub tradeable : IsTradeable options cells model.network model.starts deadline
  pub netlist : NetlistParts
  pub traded : IsTradedNetlist options cells model.network model.starts deadline netlist
  pub written : text ≡ mapped_text cells netlist model.frame model.starts None

-- without a deadline no points are counted
abbrev pub LacksPoints : Options → List CellParts → NetworkParts → List Micro → Option Micro → Type 0
LacksPoints options cells net starts None = ⊥
LacksPoints options cells net starts (Some deadline) = HasTooManyPoints options cells net starts deadline

-- why there is no such netlist
abbrev pub LacksTrade : Option Micro → Options → List CellParts → NetworkParts → List Micro → Refusal → Type 0
LacksTrade deadline options cells net starts Points = LacksPoints options cells net starts deadline
LacksTrade deadline options cells net starts other = LacksMapping options cells net starts other

-- What the cells and the model come to, whatever the files. Several netlists may have the least area, so that there may
-- be several texts.
abbrev pub Trades : Option Micro → Options → List CellParts → Parsed → Step (List ℕ)
Trades deadline options cells model files (Ok text) = IsTradedText deadline options cells model text
Trades deadline options cells model files (Err r) = LacksTrade deadline options cells model.network model.starts r
