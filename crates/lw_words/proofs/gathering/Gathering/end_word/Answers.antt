use Rattle.std.proofs.Common.{◌≡◌, ◌++◌, ◌∷◌, [], length, ap, ◌∙◌, arith}
use Rattle.lw_words.specs.Gathering.{ended}
use Rattle.lw_words.proofs.GatheredMore.{gathered, gathered-end, IsKept-end}
use Rattle.lw_words.proofs.gathering.Gathering.end_word.Goals as goal

pub invariant_of-self-then-self-end : goal.invariant_of-self-then-self-end
invariant_of-self-then-self-end c =
    let is : c.len-end.result ≡ length c.self.inside.bytes.items = omega (arith, c.len-end.ensures) in
    rw (c.in_ok-push.ensures.ok, is)
    (IsKept-end c.self.inside.bytes.items c.self.inside.ends.items c.self.inside.start c.self.inside.long c.self.invariant (omega (arith, c.len-end.ensures)))

pub returns-in_ok-push : goal.returns-in_ok-push
returns-in_ok-push c =
    let is : c.len-end.result ≡ length c.self.inside.bytes.items = omega (arith, c.len-end.ensures) in
    ap (λ es. gathered c.self.inside.bytes.items es c.len-end.result c.self.inside.long) c.in_ok-push.ensures.ok
    ∙ (ap (λ n. gathered c.self.inside.bytes.items (c.self.inside.ends.items ++ n ∷ []) n c.self.inside.long) is
    ∙ (gathered-end c.self.inside.bytes.items c.self.inside.ends.items c.self.inside.start c.self.inside.long c.self.invariant (omega (arith, c.len-end.ensures))
    ∙ ap ended c.self.view_is))
