use Rattle.std.proofs.Common.{◌∙◌}
use Rattle.lw_laws.proofs.Flips.{xor-one}
use Rattle.lw_bounds.specs.Numbers.{reading}
use Rattle.lw_bounds.proofs.SideRows.{leaves_are}
use Rattle.lw_bounds.proofs.rows.leaves_at.Goals as goal

pub returns : goal.returns
returns c =
    let class = c.args.class.0 in
    leaves_are (reading c.args.at) class c.flip-other.result.0 c.mark_number.result c.mark_number-2.result c.one_number.result c.one_number-2.result (c.flip-other.ensures ∙ xor-one class) c.mark_number.ensures c.mark_number-2.ensures c.one_number.ensures c.one_number-2.ensures
