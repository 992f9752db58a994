use Rattle.std.proofs.Common.{◌≡◌, ◌+◌, List, Contains, length, map}
use Rattle.lw_fixed.specs.declared.micro.Micro.{Micro}
use Rattle.lw_genlib.specs.Cells.{CellParts}
use Rattle.lw_cost.specs.Coming.{IsPatternMatch}
use Rattle.lw_cost.specs.Values.{plain_match}
use Rattle.lw_laws.specs.Extracts.{Match}
use Rattle.lw_cost.specs.Least.{AreOfCells}
use Rattle.lw_choices.specs.Areas.{area_cost}
use Rattle.lw_choices.specs.PinUses.{bucket_count}
use Rattle.lw_choices.specs.Tasks.{task}
use Rattle.lw_choices.specs.Rows.{IsListing, IsUnderWay}
use Rattle.lw_choices.proofs.Growing.{IsListingAt}
use Rattle.lw_choices.proofs.choices.list_class.Given as goal

abbrev pub invariant-loop-found : goal.invariant-loop-found
invariant-loop-found l = record {
  count : l.to.chains.count ≡ bucket_count;
  way : (cells : List CellParts) → IsUnderWay cells l.initial.to → IsUnderWay cells l.to;
  coming : (m : Match) → Contains (map plain_match l.list.items) m → IsPatternMatch l.graph l.pats l.fn.class.0 m;
  listing : (cells : List CellParts) (starts : List Micro) → IsUnderWay cells l.initial.to → AreOfCells (area_cost cells).pin_counts l.pats → IsListing (task l.graph l.pats cells starts) (length l.graph.leaves) (l.fn.class.0 + 1) l.initial.to.rows → IsListingAt (task l.graph l.pats cells starts) (length l.graph.leaves) l.fn.class.0 (map plain_match l.list.items) l.to.rows;
}

abbrev pub decreases-loop-found : goal.decreases-loop-found
decreases-loop-found l = length l.list.items
