use Rattle.std.proofs.Common.{◌++◌, ◌∷◌, [], ap, sym, ◌∙◌, append_assoc, arith}
use Rattle.std.specs.List.{slice_range}
use Rattle.lw_facts.proofs.Lists.{slice_range_more}
use Rattle.lw_blif.proofs.WordLists.{slice_range_end}
use Rattle.lw_blif.proofs.defining.append_all.Goals as goal

pub loop-i-preserved : goal.loop-i-preserved
loop-i-preserved c =
    let words = c.args.words.now in
    let i = c.loop-i.i in
    let word = c.get.result.now in
    c.in_ok-push.ensures
    ∙ (ap (λ n. c.loop-i.names ++ n ∷ []) c.in_ok-from_slice.ensures
    ∙ (ap (λ ns. ns ++ word ∷ []) c.loop-i.invariant
    ∙ (append_assoc c.args.names.now (slice_range words c.args.from i) (word ∷ [])
    ∙ ap (λ r. c.args.names.now ++ r) (sym (slice_range_more words c.args.from i word c.loop-i.auto.i c.get.ensures.word)))))

pub returns : goal.returns
returns c =
    c.loop-i.invariant ∙ ap (λ r. c.args.names.now ++ r) (slice_range_end c.args.from c.loop-i.i c.args.words.now (omega (arith, c.loop-i-test.false, c.len-i-end.ensures)) c.loop-i.auto.i)
