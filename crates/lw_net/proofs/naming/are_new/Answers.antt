use Rattle.std.proofs.Common.{◌∙◌}
use Rattle.std.proofs.lemmas.Bool.{false≢true}
use Rattle.lw_net.proofs.Names.{fresh_more, twice}
use Rattle.lw_net.proofs.naming.are_new.Goals as goal

pub loop-name-preserved : goal.loop-name-preserved
loop-name-preserved c =
    fresh_more c.args.set.now.keys c.args.names.now c.loop-name.set.keys c.insert.new.self.keys c.loop-name.name-index c.in_ok-copy.copy c.name-item.result c.in_ok-fresh.fresh c.loop-name-test.true c.name-item.is (c.in_ok-copy.ensures ∙ c.as_bytes.ensures.bytes) c.loop-name.invariant c.in_ok-fresh.ensures.added c.in_ok-fresh.ensures.keys c.if-not-fresh.false

pub returns-then-not-fresh : goal.returns-then-not-fresh
returns-then-not-fresh c =
    (λ is. absurd (false≢true is), λ distinct. absurd (twice c.args.set.now.keys c.args.names.now c.loop-name.set.keys c.loop-name.name-index c.in_ok-copy.copy c.name-item.result c.in_ok-fresh.fresh c.loop-name-test.true c.name-item.is (c.in_ok-copy.ensures ∙ c.as_bytes.ensures.bytes) c.loop-name.invariant c.in_ok-fresh.ensures.added c.if-not-fresh.true distinct))
