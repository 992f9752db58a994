use Rattle.lw_genlib.proofs.LibraryKept.{library-kept}
use Rattle.lw_genlib.proofs.laws.read_cells_are_a_library.Goals as goal

pub returns : goal.returns
returns c = library-kept
