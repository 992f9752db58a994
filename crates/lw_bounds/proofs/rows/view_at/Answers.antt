use Rattle.std.proofs.Common.{◌∙◌}
use Rattle.lw_laws.proofs.Flips.{xor-one}
use Rattle.lw_bounds.specs.declared.rows.View.{View}
use Rattle.lw_bounds.specs.Numbers.{reading}
use Rattle.lw_bounds.proofs.SideRows.{view_sides}
use Rattle.lw_bounds.proofs.rows.view_at.Goals as goal

pub returns-clause-sides : goal.returns-clause-sides
returns-clause-sides c =
    let class = c.args.class.0 in
    let view : View = record { leaves = c.args.leaves; row = c.row_at.result; other = c.row_at-2.result } in
    view_sides (reading c.args.at) class c.flip.result.0 view (c.flip.ensures ∙ xor-one class) c.requires.leaves c.row_at.ensures.numbers c.row_at-2.ensures.numbers
