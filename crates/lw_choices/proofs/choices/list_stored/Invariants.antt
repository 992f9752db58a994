use Rattle.std.proofs.Common.{◌≡◌, ◌+◌, List, length}
use Rattle.lw_fixed.specs.declared.micro.Micro.{Micro}
use Rattle.lw_laws.specs.Covers.{Pattern}
use Rattle.lw_laws.specs.Graphs.{Graph}
use Rattle.lw_cost.specs.Least.{AreOfCells}
use Rattle.lw_settle.specs.Stores.{IsStoreOf, placed}
use Rattle.lw_choices.specs.Areas.{area_cost}
use Rattle.lw_choices.specs.Tasks.{task}
use Rattle.lw_choices.specs.Rows.{IsUnderWay}
use Rattle.lw_choices.proofs.Storing.{AreStoredFrom}
use Rattle.lw_choices.proofs.choices.list_stored.Given as goal

abbrev pub invariant-loop-place : goal.invariant-loop-place
invariant-loop-place l = record {
  lists : l.store.lists ≡ l.initial.store.lists;
  done : l.store.done + l.place ≡ length (placed l.initial.store.lists);
  way : IsUnderWay l.lib l.to;
  listing : (g : Graph) (pats : List Pattern) (starts : List Micro) → IsStoreOf g pats l.initial.store.lists → AreOfCells (area_cost l.lib).pin_counts pats → AreStoredFrom (task g pats l.lib starts) (placed l.initial.store.lists) l.place l.to.rows;
}

abbrev pub decreases-loop-place : goal.decreases-loop-place
decreases-loop-place l = l.place
