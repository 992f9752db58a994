use Rattle.std.proofs.Common.{◌≡◌, false, sym, subst}
use Rattle.std.specs.List.{list_any}
use Rattle.std.specs.Str.{bytes_eq}
use Rattle.lw_genlib.specs.Cells.{CellParts}
use Rattle.lw_genlib.proofs.Listed.{no-place}
use Rattle.lw_genlib.proofs.cells_so_far.with_new.Goals as goal

pub with_cell-requires-clause-new_name : goal.with_cell-requires-clause-new_name
with_cell-requires-clause-new_name c =
    subst (λ (cell : CellParts). list_any (λ (other : CellParts). bytes_eq cell.name other.name) c.args.before.so_far.cells ≡ false) (sym c.in_ok-cell.ensures.cell)
    (no-place (λ (cell : CellParts). bytes_eq c.args.entry.name cell.name) c.args.before.so_far.cells c.requires.new_name)
