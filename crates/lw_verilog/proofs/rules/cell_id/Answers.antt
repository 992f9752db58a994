use Rattle.std.proofs.Common.{ap, sym, ◌∙◌}
use Rattle.std.specs.Prelude.{position}
use Rattle.std.specs.Str.{bytes_eq}
use Rattle.lw_genlib.specs.Cells.{names_of}
use Rattle.lw_mapped.proofs.CellLemmas.{found-at, found-none}
use Rattle.lw_verilog.proofs.rules.cell_id.Goals as goal

pub returns-in-Some : goal.returns-in-Some
returns-in-Some c =
    let names = names_of c.args.lib.now in
    ap (λ n. position (bytes_eq n) names) (sym c.first_name.ensures) ∙ found-at names c.in-Some.id.0 c.first_name.result.now c.len-count.ensures.kept.names_differ c.in-Some.ensures

pub returns-in-None : goal.returns-in-None
returns-in-None c =
    let names = names_of c.args.lib.now in
    ap (λ n. position (bytes_eq n) names) (sym c.first_name.ensures) ∙ found-none names c.first_name.result.now c.in-None.ensures
