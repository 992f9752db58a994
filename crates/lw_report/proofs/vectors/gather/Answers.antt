use Rattle.std.proofs.Common.{◌≡◌, ◌++◌, ℕ, List, get_or, sym, ap₂, ◌∙◌, arith}
use Rattle.std.proofs.lemmas.Option.{same_Some, slice_get-get_or}
use Rattle.lw_report.proofs.Standings.{gathered_more}
use Rattle.lw_report.proofs.vectors.gather.Goals as goal

pub loop-place-preserved : goal.loop-place-preserved
loop-place-preserved c =
    let words : List (List ℕ) = c.args.words.now in
    let i = c.loop-place.place in
    let word : List ℕ = c.get.result.now in
    let below = c.loop-place-test.true in
    let read : word ≡ get_or words i word = same_Some word (get_or words i word) (sym c.get.ensures.word ∙ slice_get-get_or words i word (omega arith)) in
    c.in_ok-extend_from_slice.ensures.items ∙ (ap₂ (λ (a b : List ℕ). a ++ b) c.loop-place.invariant read ∙ sym (gathered_more words i word (omega arith)))
