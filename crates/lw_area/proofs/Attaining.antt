-- The labels of a case, and its patterns.
use Rattle.std.proofs.Common.{List, map, Some, refl}
use Rattle.lw_laws.proofs.NetlistOnce.{least_cover_once}
use Rattle.lw_laws.proofs.PatternLaws.{cells_patterns}
use Rattle.lw_genlib.specs.Cells.{IsLibrary, CellParts}
use Rattle.lw_pattern.specs.Libraries.{forms_of, library_patterns, library_truth, pin_counts}
use Rattle.lw_pattern.proofs.LibraryLaws.{are_cells}
use Rattle.lw_fixed.specs.declared.micro.Micro.{Micro}
use Rattle.lw_cost.specs.Least.{AreOfCells}
use Rattle.lw_label.specs.Delays.{time_cost}
use Rattle.lw_label.proofs.CellLaws.{patterns_of_cells}
use Rattle.lw_extract.specs.Choosing.{labels}
use Rattle.lw_extract.specs.Covers.{AreLibraryLabels}
use Rattle.lw_map.proofs.CellLaws.{delay_patterns}
use Rattle.lw_joined.proofs.Covers.{leaves_least}
use Rattle.lw_area.specs.declared.recovering.Case.{Case}
use Rattle.lw_area.specs.Cases.{IsCase}

-- the patterns of a library are of its cells
pub own_cells : (cells : List CellParts) (starts : List Micro) → IsLibrary cells → AreOfCells (time_cost cells starts).pin_counts (library_patterns cells)
own_cells cells starts lib =
    patterns_of_cells cells lib (library_patterns cells) refl (cells_patterns (pin_counts cells) (library_truth cells) (map forms_of cells) (are_cells cells lib))

-- the labels are least for them, and those of inputs are their starts
pub library_labels : (k : Case) → IsCase k → AreLibraryLabels k.joined.now.choices.graph (time_cost k.library.now k.model.now.starts) (library_patterns k.library.now) k.library.now k.labels.now
library_labels k is =
    let pats = library_patterns k.library.now in
    let cost = time_cost k.library.now k.model.now.starts in
    record {
      cells = refl;
      of_cells = own_cells k.library.now k.model.now.starts is.library;
      least = is.labels;
      leaves = λ class i at.
          least_cover_once k.joined.now.choices.graph pats cost class (labels k.labels.now class) (Some (cost.leaf i)) (is.labels.least class)
          (leaves_least k.model.now.network k.joined.now is.joined k.library.now k.model.now.starts pats refl (delay_patterns k.library.now is.library) i class at);
    }
