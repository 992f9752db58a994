use Rattle.std.proofs.Common.{List, ℕ, ◌≡◌, ◌≤◌, ◌+◌, ◌-◌, ◌++◌, length, take, drop, ap, sym, ◌∙◌, subst, append_assoc, arith}
use Rattle.std.proofs.Math.Seq.{take-add}
use Rattle.std.proofs.lemmas.List.{length-take-le, length-drop, take_all}
use Rattle.lw_words.specs.Standing.{StandsFor, ReadsAll}
use Rattle.lw_words.proofs.lines.Lines.feed.Goals as goal

pub loop-at-preserved : goal.loop-at-preserved
loop-at-preserved c =
    let before = c.loop-at.invariant in
    let n = c.in_ok-at.field-0 in
    let at = c.loop-at.at in
    let piece = c.args.piece.now in
    let rest : take (length piece - at) (drop at piece) ≡ drop at piece = take_all (length piece - at) (drop at piece) (omega (arith, length-drop at piece)) in
    let r : ReadsAll c.loop-at.self (take n (drop at piece)) c.read_some.new.self =
    subst (λ (bs : List ℕ). ReadsAll c.loop-at.self (take n bs) c.read_some.new.self) rest c.in_ok-at.ensures.reads in
    let within : n ≤ length (drop at piece) = subst (λ (bs : List ℕ). n ≤ length bs) rest c.in_ok-at.ensures.within in
    let count = length-take-le n (drop at piece) within in (
      omega (arith, before.0, within, length-drop at piece),
      r.finished ∙ before.1,
      omega (arith, r.fed, before.2, count),
      r.marked ∙ before.3,
      λ fed taken h.
          let bytes : (fed ++ take at piece) ++ take n (drop at piece) ≡ fed ++ take (at + n) piece =
          append_assoc fed (take at piece) (take n (drop at piece)) ∙ ap (λ bs. fed ++ bs) (sym (take-add at n piece)) in
          subst (λ (bs : List ℕ). StandsFor c.read_some.new.self bs taken) bytes
          (r.stands (fed ++ take at piece) taken before.1 (before.4 fed taken h)),
    )
