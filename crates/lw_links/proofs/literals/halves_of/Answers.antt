use Rattle.std.proofs.Common.{arith}
use Rattle.lw_links.proofs.Ands.{and_value, has_part, last_before, part_before}
use Rattle.lw_links.proofs.literals.halves_of.Goals as goal

pub but_last-requires-clause-some : goal.but_last-requires-clause-some
but_last-requires-clause-some c =
    omega (arith, c.len-count.ensures.len, (c.inputs.ensures.kept.operands c.args.b c.args.ids.now c.requires).two)

pub part-others-requires : goal.part-others-requires
part-others-requires c =
    has_part c.args.forms.now c.inputs.ensures.kept c.args.b c.args.ids.now c.requires c.len-count.result c.but_last.result c.but_last.ensures c.len-count.ensures.len

pub overflow_sub-count : goal.overflow_sub-count
overflow_sub-count c =
    omega (arith, c.len-count.ensures.len, (c.inputs.ensures.kept.operands c.args.b c.args.ids.now c.requires).two)

pub get-last-requires : goal.get-last-requires
get-last-requires c =
    omega (arith, c.len-count.ensures.len, (c.inputs.ensures.kept.operands c.args.b c.args.ids.now c.requires).two)

pub returns : goal.returns
returns c =
    let kept = c.inputs.ensures.kept in
    let part = c.part-others.ensures c.args.ids.now c.requires in
    record {
      left = part_before c.args.forms.now kept c.args.b c.args.ids.now c.requires c.len-count.result c.but_last.result c.but_last.ensures c.len-count.ensures.len c.part-others.result.0 part;
      right = last_before c.args.forms.now kept c.args.b c.args.ids.now c.requires c.len-count.result c.but_last.result c.but_last.ensures c.len-count.ensures.len c.get-last.result.0 c.get-last.ensures;
      always = λ x value values. and_value c.args.forms.now kept c.args.b c.args.ids.now c.requires c.len-count.result c.but_last.result c.but_last.ensures c.len-count.ensures.len x value values c.part-others.result.0 c.get-last.result.0 part c.get-last.ensures;
    }
