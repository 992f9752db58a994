use Rattle.std.proofs.Common.{◌++◌, ◌∷◌, [], ap, sym, ◌∙◌}
use Rattle.lw_facts.proofs.Lists.{slice_range_more}
use Rattle.lw_blif.proofs.naming.names_between.Goals as goal

pub loop-i-preserved : goal.loop-i-preserved
loop-i-preserved c =
    c.in_ok-push.ensures.items
    ∙ (ap (λ n. c.loop-i.names.items ++ n ∷ []) c.in_ok-from_slice.ensures
    ∙ (ap (λ ns. ns ++ c.get.result.now ∷ []) c.loop-i.invariant
    ∙ sym (slice_range_more c.args.words.now c.args.from c.loop-i.i c.get.result.now c.loop-i.auto.i c.get.ensures.word)))
