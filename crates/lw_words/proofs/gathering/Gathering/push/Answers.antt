use Rattle.std.proofs.Common.{ap, ◌∙◌, arith}
use Rattle.lw_words.specs.Gathering.{with_byte}
use Rattle.lw_words.proofs.GatheredMore.{gathered, gathered-push, IsKept-push}
use Rattle.lw_words.proofs.gathering.Gathering.push.Goals as goal

pub invariant_of-self : goal.invariant_of-self
invariant_of-self c =
    rw c.in_ok-push.ensures.ok
    (IsKept-push c.self.inside.bytes.items c.self.inside.ends.items c.self.inside.start c.self.inside.long c.args.b c.self.invariant (omega (arith, c.len.ensures)) c.requires.ink c.requires.no_hash)

pub returns-in_ok-push : goal.returns-in_ok-push
returns-in_ok-push c =
    ap (λ bs. gathered bs c.self.inside.ends.items c.self.inside.start c.self.inside.long) c.in_ok-push.ensures.ok
    ∙ (gathered-push c.self.inside.bytes.items c.self.inside.ends.items c.self.inside.start c.self.inside.long c.args.b c.self.invariant (omega (arith, c.len.ensures))
    ∙ ap (with_byte c.args.b) c.self.view_is)
