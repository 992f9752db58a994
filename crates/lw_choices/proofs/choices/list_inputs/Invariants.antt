use Rattle.std.proofs.Common.{◌≤◌, List, length}
use Rattle.lw_laws.specs.Covers.{Pattern}
use Rattle.lw_fixed.specs.declared.micro.Micro.{Micro}
use Rattle.lw_genlib.specs.Cells.{CellParts}
use Rattle.lw_choices.specs.Tasks.{task}
use Rattle.lw_choices.specs.Rows.{IsListing}
use Rattle.lw_choices.proofs.choices.list_inputs.Given as goal

abbrev pub invariant-loop-input : goal.invariant-loop-input
invariant-loop-input l = record {
  low : l.input ≤ length l.graph.leaves;
  listing : (pats : List Pattern) (cells : List CellParts) (starts : List Micro) → IsListing (task l.graph pats cells starts) (length l.graph.leaves) 0 l.initial.rows → IsListing (task l.graph pats cells starts) l.input 0 l.rows;
}

abbrev pub decreases-loop-input : goal.decreases-loop-input
decreases-loop-input l = l.input
