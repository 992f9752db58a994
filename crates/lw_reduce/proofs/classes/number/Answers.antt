use Rattle.std.proofs.Common.{◌≡◌, ◌∙◌, ◌+◌, ◌*◌, ◌++◌, ◌∷◌, [], length, ap, refl, slice_index}
use Rattle.std.proofs.lemmas.List.{length_push}
use Rattle.lw_reduce.specs.Representatives.{rep_of}
use Rattle.lw_reduce.proofs.ClassNumbers.{number_root, number_low}
use Rattle.lw_reduce.proofs.classes.number.Goals as goal
use Rattle.lw_reduce.proofs.classes.number.Goals.{then-up-base+in_ok-push, else-up-base+in_ok-push-2}

pub loop-base-preserved : goal.loop-base-preserved
loop-base-preserved c =
    let l = c.loop-base in
    let reps = c.args.reps.now in
    let lt = c.loop-base-test.true in
    let i = l.invariant in
    let new = c.if-up-base.forms.items in
    elim c.if-up-base.branch [
      | then-up-base+in_ok-push w ↦
          let set : new ≡ l.forms.items ++ l.pairs * 2 ∷ [] = ap (λ v. v.items) w.forms-is ∙ w.in_ok-push.ensures.items in
          let (are, pairs) = number_root reps l.forms.items new c.requires.lower l.base (l.pairs * 2) lt i.count i.classes set l.pairs w.if-up-base.true i.pairs refl in
          record {
            classes = are;
            count = ap length set ∙ (length_push l.forms.items (l.pairs * 2) ∙ ap (λ k. k + 1) i.count);
            pairs = w.pairs-is ∙ pairs;
          }
      | else-up-base+in_ok-push-2 w ↦
          let set : new ≡ l.forms.items ++ w.rep_of.result ∷ [] = ap (λ v. v.items) w.forms-is ∙ w.in_ok-push-2.ensures.items in
          let e = w.rep_of.ensures ∙ ap (λ fs. rep_of fs (slice_index reps l.base)) w.deref.ensures.value in
          let (are, pairs) = number_low reps l.forms.items new c.requires.lower l.base w.rep_of.result lt i.count i.classes set l.pairs w.if-up-base.false i.pairs e in
          record {
            classes = are;
            count = ap length set ∙ (length_push l.forms.items w.rep_of.result ∙ ap (λ k. k + 1) i.count);
            pairs = w.pairs-is ∙ pairs;
          }
    ]
