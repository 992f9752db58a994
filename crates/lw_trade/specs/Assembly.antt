-- From the gates of a walk to a netlist.
use Rattle.std.specs.Prelude.{ℕ, ◌≡◌, List, length}
use Rattle.lw_backtrace.specs.declared.targets.Targets.{Targets}
use Rattle.lw_backtrace.specs.declared.trail.Walk.{Walk}
use Rattle.lw_curves.specs.CurveTables.{CurveLists}
use Rattle.lw_choices.specs.Tasks.{Task}
use Rattle.lw_netlist.specs.Netlists.{NetlistParts}
use Rattle.lw_genlib.specs.Cells.{IsLibrary}
use Rattle.lw_backtrace.specs.Targets.{AreCurvesFor, AreTargets}
use Rattle.lw_trade.specs.Traded.{IsTraded}
use Rattle.lw_backtrace.specs.Sites.{Site}
use Rattle.lw_backtrace.specs.Walks.{IsWalk}

-- the gates are those of a walk for some task with so many inputs
abbrev pub MayAssemble : ℕ → Walk → Targets → Type 0
MayAssemble inputs w t =
    (s : Task) × (curves : CurveLists) × (c : AreCurvesFor s t curves) × (sites : List Site) × AreTargets s.graph t
    × (length s.graph.leaves ≡ inputs)
    × IsWalk s curves.choices c.ways.held sites t.roots t.times w.cells.items w.pins.items w.nets.items

-- the netlist is what is wanted of each such task
abbrev pub AssemblesTo : ℕ → Walk → Targets → NetlistParts → Type 0
AssemblesTo inputs w t n =
    (s : Task) (curves : CurveLists) (c : AreCurvesFor s t curves) (sites : List Site) → IsLibrary s.cells
    → AreTargets s.graph t → (length s.graph.leaves ≡ inputs)
    → IsWalk s curves.choices c.ways.held sites t.roots t.times w.cells.items w.pins.items w.nets.items
    → IsTraded s t n
