use Rattle.std.proofs.Common.{◌+◌, suc, Some, subst, sym, refl, ap, ◌∙◌, arith}
use Rattle.std.proofs.lemmas.Option.{same_Some}
use Rattle.lw_needed.specs.declared.places.Place.{Place}
use Rattle.lw_lut.proofs.Sorting.{AreListedBelow, listed_push, listed_skip, positive}
use Rattle.lw_lut.proofs.choosing.listed.Goals as goal
use Rattle.lw_lut.proofs.choosing.listed.Goals.{in-Some+then-depth-gt0+in_ok-push, in-Some+else-depth-gt0, in_default}

pub loop-number-preserved : goal.loop-number-preserved
loop-number-preserved c =
    let depths = c.args.of.now.depths.now in
    let l = c.loop-number in
    elim c.match-depth.branch [
      | in-Some+then-depth-gt0+in_ok-push w ↦
          let d = w.in-Some.depth in
          let place : Place = record { depth = d; class = record { 0 = l.number } } in
          let (e, same) = positive d w.if-depth-gt0.true in
          subst (λ ps. AreListedBelow depths (l.number + 1) ps) (sym (ap (λ v. v.items) w.places-is ∙ w.in_ok-push.ensures.items)) (listed_push depths l.number l.places.items place e refl (w.in-Some.is ∙ ap Some same) same l.invariant)
      | in-Some+else-depth-gt0 w ↦
          subst (λ ps. AreListedBelow depths (l.number + 1) ps) (sym (ap (λ v. v.items) w.places-is)) (listed_skip depths l.number l.places.items (λ m e. let s = same_Some w.in-Some.depth (suc m) (sym w.in-Some.is ∙ e) in let z = w.if-depth-gt0.false in omega (arith, s, z)) l.invariant)
      | in_default w ↦
          subst (λ ps. AreListedBelow depths (l.number + 1) ps) (sym (ap (λ v. v.items) w.places-is)) (listed_skip depths l.number l.places.items (λ m e. w.in_default.not-Some (suc m) e) l.invariant)
    ]
