use Rattle.std.proofs.Common.{◌∙◌}
use Rattle.lw_genlib.specs.Cells.{names_of}
use Rattle.lw_genlib.proofs.Names.{inserted, named_at}
use Rattle.lw_genlib.proofs.library.index.Goals as goal

pub loop-cell-preserved : goal.loop-cell-preserved
loop-cell-preserved c =
    let name = named_at c.args.cells.now c.loop-cell.cell-index c.cell-item.result c.in_ok-from_slice.field-0.items c.loop-cell-test.true c.cell-item.is
    (c.in_ok-from_slice.ensures.items ∙ (c.as_bytes.ensures.bytes ∙ c.name.ensures)) in
    inserted (names_of c.args.cells.now) c.loop-cell.names.keys c.insert.new.self.keys c.loop-cell.cell-index c.in_ok-from_slice.field-0 c.requires name.0 name.1 c.loop-cell.invariant c.in_ok-insert.ensures.keys
