-- Labels of times stay low.
use Rattle.std.proofs.Common.{ℕ, ◌+◌, ◌*◌, ◌<◌, ◌≤◌, ◌≡◌, List, length, Option, Some, All, ap, arith, mul-le-mul_right}
use Rattle.std.proofs.lemmas.List.{length-map}
use Rattle.lw_fixed.specs.declared.micro.Micro.{Micro}
use Rattle.lw_laws.specs.Graphs.{Graph, most_classes}
use Rattle.lw_laws.specs.Covers.{Pattern}
use Rattle.lw_laws.specs.Rounds.{labels_in}
use Rattle.lw_laws.proofs.Delays.{delay_cost_is}
use Rattle.lw_laws.proofs.LabelLaws.{labels_stay_low}
use Rattle.lw_laws.proofs.NetlistOf.{least_costs_bound}
use Rattle.lw_genlib.specs.Cells.{CellParts, IsLibrary, IsSmall}
use Rattle.lw_genlib.specs.Tables.{timing_of}
use Rattle.lw_graph.specs.Graphs.{IsGraph}
use Rattle.lw_cost.specs.declared.mark.Mark.{Mark}
use Rattle.lw_cost.specs.Least.{AreOfCells}
use Rattle.lw_label.specs.Delays.{most_time, time_cost}
use Rattle.lw_cost.specs.Labels.{cost_in, costs_of, AreLeastMarks}
use Rattle.lw_label.proofs.CellLaws.{timing_up}
use Rattle.lw_cost.proofs.MarksAsLabels.{cover_problem}

module _ (g : Graph) (cells : List CellParts) (starts : List Micro) (pats : List Pattern) (marks : List (Option Mark)) (graph : IsGraph g) (lib : IsLibrary cells) (small : All IsSmall starts) (of_cells : AreOfCells (time_cost cells starts).pin_counts pats) where
  -- each label is below a million units for each class and one more
  pub labels_low : AreLeastMarks g (time_cost cells starts) pats marks → (c l : ℕ) → labels_in (costs_of marks) c ≡ Some l → l < (length g.pairs + 1) * (1000000 * 1000000)
  labels_low least c l e =
      let problem = cover_problem g (time_cost cells starts) pats graph (delay_cost_is (timing_of cells starts) most_time) of_cells in
      let attained = (least_costs_bound g pats (time_cost cells starts) (costs_of marks) problem least.least).1 in
      let low = labels_stay_low g pats (timing_of cells starts) most_time (costs_of marks) (1000000 * 1000000) problem least.potential attained (timing_up cells lib starts small) (omega arith) c l e in
      let size = length-map marks cost_in in
      let one_each = least.one_each in
      let same : length (costs_of marks) + 1 ≡ length g.pairs + 1 = omega arith in
      let more = ap (λ n. n * (1000000 * 1000000)) same in
      omega (arith, low, more)

  -- and below the greatest time, where classes are few
  pub labels_below_cap : length g.pairs ≤ most_classes → AreLeastMarks g (time_cost cells starts) pats marks → (c l : ℕ) → labels_in (costs_of marks) c ≡ Some l → l < most_time
  labels_below_cap few least c l e =
      let low = labels_low least c l e in
      let more = mul-le-mul_right {m = length g.pairs + 1} {n = most_classes + 1} (1000000 * 1000000) (omega arith) in
      omega (arith, low, more)
