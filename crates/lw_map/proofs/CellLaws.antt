-- What the cells of a library say, in the words of the laws.
use Rattle.std.proofs.Common.{List, map, length}
use Rattle.lw_laws.specs.Covers.{ArePatterns}
use Rattle.lw_laws.specs.Netlists.{HaveCellTruths}
use Rattle.lw_laws.proofs.PatternLaws.{cells_patterns, cells_truths}
use Rattle.lw_genlib.specs.Cells.{CellParts, IsLibrary}
use Rattle.lw_genlib.specs.Tables.{delays_of_cells, truth_of_cells}
use Rattle.lw_pattern.specs.Libraries.{forms_of, pin_counts, library_patterns, library_truth}
use Rattle.lw_label.proofs.CellLaws as label
use Rattle.lw_pattern.proofs.LibraryLaws.{are_cells}

module _ (cells : List CellParts) (lib : IsLibrary cells) where
  own_patterns : ArePatterns (pin_counts cells) (library_patterns cells)
  own_patterns = cells_patterns (pin_counts cells) (library_truth cells) (map forms_of cells) (are_cells cells lib)

  pub delay_patterns : ArePatterns (map length (delays_of_cells cells)) (library_patterns cells)
  delay_patterns = label.delay_patterns cells lib (library_patterns cells) own_patterns

  pub delay_truths : HaveCellTruths (map length (delays_of_cells cells)) (truth_of_cells cells) (library_patterns cells)
  delay_truths =
      label.delay_truths cells lib (library_patterns cells)
      (λ p listed ys has. cells_truths (pin_counts cells) (library_truth cells) (map forms_of cells) (are_cells cells lib) p listed ys has)
