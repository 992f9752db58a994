use Rattle.std.proofs.Common.{List, Result, sym, subst}
use Rattle.lw_genlib.specs.declared.fault.LibFault.{LibFault}
use Rattle.lw_genlib.specs.Cells.{CellParts}
use Rattle.lw_genlib.specs.Merging as merging
use Rattle.lw_genlib.specs.Libraries as library
use Rattle.lw_genlib.specs.Tells.{Gives}
use Rattle.lw_genlib.proofs.Listed.{delays-said, delays-fault, none-missing, cells-fault}
use Rattle.lw_genlib.proofs.cells_so_far.close_entry.Goals as goal

pub add_cell_or_form-requires : goal.add_cell_or_form-requires
add_cell_or_form-requires c = (delays-said c.args.entry c.in-Ok.delays c.in-Ok.ensures).1

pub returns-in-Ok : goal.returns-in-Ok
returns-in-Ok c =
    subst (λ (r : Result (List CellParts) LibFault). Gives (library.with_cells r) c.add_cell_or_form.result)
    (sym (none-missing c.args.before.so_far.cells c.args.entry (delays-said c.args.entry c.in-Ok.delays c.in-Ok.ensures).0)) c.add_cell_or_form.ensures

pub returns-in-Err : goal.returns-in-Err
returns-in-Err c = cells-fault (merging.merged c.args.before.so_far.cells c.args.entry) c.in-Err.fault (delays-fault c.args.before.so_far.cells c.args.entry c.in-Err.fault c.in-Err.ensures)
