use Rattle.std.proofs.Common.{◌≤◌, ◌++◌, ◌∷◌, [], length, ap, sym, ◌∙◌, arith}
use Rattle.lw_facts.proofs.Lists.{slice_range_more}
use Rattle.lw_mapped.proofs.WordLists.{range-all}
use Rattle.lw_mapped.proofs.naming.names_from.Goals as goal

pub loop-i-preserved : goal.loop-i-preserved
loop-i-preserved c =
    c.in_ok-push.ensures.items
    ∙ (ap (λ n. c.loop-i.names.items ++ n ∷ []) c.in_ok-from_slice.ensures
    ∙ (ap (λ ns. ns ++ c.get.result.now ∷ []) c.loop-i.invariant
    ∙ sym (slice_range_more c.args.words.now c.args.from c.loop-i.i c.get.result.now c.loop-i.auto.i c.get.ensures.word)))

pub returns : goal.returns
returns c =
    let far : length c.args.words.now ≤ c.loop-i.i = omega (arith, c.loop-i-test.false, c.len-i-end.ensures) in
    c.from_vec.ensures ∙ (c.loop-i.invariant ∙ range-all c.args.words.now c.args.from c.loop-i.i c.loop-i.auto.i far)
