use Rattle.std.proofs.Common.{[], refl, arith}
use Rattle.lw_files.specs.Sources.{HasCells}
use Rattle.lw_files.proofs.Comings.{comes}
use Rattle.lw_equal_top.proofs.reading.cells_of.Goals as goal

pub returns-in-None : goal.returns-in-None
returns-in-None g c = rw c.in-None.is (record {
  files = refl;
  later = omega arith;
  reads = comes (λ cells. cells) (g.F.Shelf.files c.args.shelf.now) (g.F.Shelf.faults c.args.shelf.now) (g.F.Shelf.faults c.args.shelf.now) (HasCells []) c.library_in.result c.library_in.ensures;
})
