use Rattle.std.proofs.Common.{Some, ap, sym, ◌∙◌}
use Rattle.lw_facts.proofs.Lists.{bytes_eq_is}
use Rattle.lw_laws.proofs.Numbers.{slice_get_map}
use Rattle.lw_genlib.specs.Cells.{CellParts}
use Rattle.lw_verilog.proofs.rules.has_cell.Goals as goal

pub returns : goal.returns
returns c = λ same.
    slice_get_map (λ (cell : CellParts). cell.name) c.args.lib.now c.args.id.0 c.cell.result.now c.cell.ensures
    ∙ ap (λ n. Some n) (sym (c.as_bytes.ensures.bytes ∙ c.name.ensures) ∙ bytes_eq_is c.as_bytes.result.now c.args.name.now (sym c.eq.ensures ∙ same))
