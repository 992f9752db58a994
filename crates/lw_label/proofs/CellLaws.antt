-- What the cells of a library say of its patterns and delays.
use Rattle.std.proofs.Common.{ℕ, ◌*◌, ◌≤◌, ◌≡◌, Bool, List, [], ◌∷◌, map, length, Option, Some, None, slice_get, refl, ap₂, sym, ◌∙◌, subst, arith}
use Rattle.std.specs.List.{AllByRecursion}
use Rattle.std.specs.Prelude.{All}
use Rattle.std.proofs.lemmas.List.{length-map}
use Rattle.std.proofs.lemmas.List.Elements.{recursion_from_All}
use Rattle.lw_fixed.specs.declared.micro.Micro.{Micro}
use Rattle.lw_laws.specs.Covers.{ArePatterns, Pattern}
use Rattle.lw_laws.specs.Laws.{AreDelaysUpTo, IsTimingUpTo}
use Rattle.lw_laws.specs.Netlists.{HaveCellTruths}
use Rattle.lw_laws.proofs.Lists.{all_map}
use Rattle.lw_genlib.specs.Cells.{CellParts, IsListed, IsLibrary, IsSmall}
use Rattle.lw_genlib.specs.Tables.{millionths, cell_delays, delays_of_cells, timing_of, truth_in, truth_of_cells}
use Rattle.lw_pattern.specs.Libraries.{forms_of, pin_counts, value_of, library_patterns, library_truth}
use Rattle.lw_cost.specs.Least.{AreOfCells}
use Rattle.lw_cost.proofs.OfCells.{of_cells}

-- a cell has a delay for each pin
delay_counts : (cells : List CellParts) → AllByRecursion IsListed cells → map length (delays_of_cells cells) ≡ pin_counts cells
delay_counts [] a = refl
delay_counts (cell ∷ cells) (is, a) = ap₂ (λ (n : ℕ) (ns : List ℕ). n ∷ ns) (length-map cell.delays millionths ∙ is.kept.delays) (delay_counts cells a)

same_truth : (o : Option CellParts) (ys : List Bool) → value_of o ys ≡ truth_in o ys
same_truth None ys = refl
same_truth (Some cell) ys = refl

-- a million units
abbrev most_delay : ℕ
most_delay = 1000000 * 1000000

module _ (cells : List CellParts) (lib : IsLibrary cells) where
  counts : map length (delays_of_cells cells) ≡ pin_counts cells
  counts = delay_counts cells (recursion_from_All IsListed cells lib.each)

  pub delay_patterns : (pats : List Pattern) → ArePatterns (pin_counts cells) pats → ArePatterns (map length (delays_of_cells cells)) pats
  delay_patterns pats are = subst (λ ns. ArePatterns ns pats) (sym counts) are

  pub delay_truths : (pats : List Pattern) → HaveCellTruths (pin_counts cells) (library_truth cells) pats → HaveCellTruths (map length (delays_of_cells cells)) (truth_of_cells cells) pats
  delay_truths pats have p listed ys has =
      have p listed ys (subst (λ ns. slice_get ns p.cell ≡ Some (length ys)) counts has) ∙ same_truth (slice_get cells p.cell) ys

  -- the patterns are of the cells
  pub patterns_of_cells : (pats : List Pattern) → pats ≡ library_patterns cells → ArePatterns (pin_counts cells) pats → AreOfCells (map length (delays_of_cells cells)) pats
  patterns_of_cells pats listed are =
      subst (AreOfCells (map length (delays_of_cells cells))) (sym listed) (of_cells (map length (delays_of_cells cells)) (map forms_of cells)
      (length-map cells forms_of ∙ sym (length-map (delays_of_cells cells) length ∙ length-map cells cell_delays)) (subst (ArePatterns (map length (delays_of_cells cells))) listed (delay_patterns pats are)))

  -- no delay is above a million units
  pub delays_up : AreDelaysUpTo most_delay (delays_of_cells cells)
  delays_up = all_map IsListed (AllByRecursion (λ d. d ≤ most_delay)) cell_delays cells each (recursion_from_All IsListed cells lib.each)
    where
      each : (cell : CellParts) → IsListed cell → AllByRecursion (λ d. d ≤ most_delay) (cell_delays cell)
      each cell is = all_map IsSmall (λ d. d ≤ most_delay) millionths cell.delays (λ m lt. omega arith) (recursion_from_All IsSmall cell.delays is.delays)

  -- and no start
  pub timing_up : (starts : List Micro) → All IsSmall starts → IsTimingUpTo most_delay (timing_of cells starts)
  timing_up starts small = (delays_up, all_map IsSmall (λ s. s ≤ most_delay) millionths starts (λ m lt. omega arith) (recursion_from_All IsSmall starts small))
