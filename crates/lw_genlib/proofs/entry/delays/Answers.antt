use Rattle.std.proofs.Common.{None, refl, sym, ◌∙◌, get_or}
use Rattle.lw_genlib.proofs.Delays.{or-same, one-more, none-there}
use Rattle.lw_genlib.proofs.entry.delays.Goals as goal

pub loop-own-preserved : goal.loop-own-preserved
loop-own-preserved c =
    one-more c.args.every c.args.named.now c.loop-own.own-index (get_or c.args.named.now c.loop-own.own-index None) c.in-Some.delay c.loop-own.delays.items c.push.new.self.items c.loop-own-test.true refl
    (or-same c.args.every (get_or c.args.named.now c.loop-own.own-index None) ∙ (sym c.or.ensures ∙ c.in-Some.is)) c.in_ok-push-in-Some.ensures.items c.loop-own.invariant

pub returns-in-None : goal.returns-in-None
returns-in-None c =
    none-there c.args.every c.args.named.now c.loop-own.own-index (get_or c.args.named.now c.loop-own.own-index None) c.loop-own-test.true refl
    (or-same c.args.every (get_or c.args.named.now c.loop-own.own-index None) ∙ (sym c.or.ensures ∙ c.in-None.is))
