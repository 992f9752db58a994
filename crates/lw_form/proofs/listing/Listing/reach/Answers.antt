use Rattle.std.proofs.Common.{◌∙◌, ◌∷◌, [], ap, length, arith}
use Rattle.std.proofs.lemmas.List.{length-append}
use Rattle.std.proofs.lemmas.Result.{IfOk-from_err}
use Rattle.lw_form.specs.Listed.{no_place}
use Rattle.lw_form.proofs.ListedForms.{place_pushed}
use Rattle.lw_form.proofs.listing.Listing.reach.Goals as goal

pub returns-in_err-push-clause-reached : goal.returns-in_err-push-clause-reached
returns-in_err-push-clause-reached c = IfOk-from_err _ _ c.from_residual.ensures.0

pub returns-in_err-push-clause-same : goal.returns-in_err-push-clause-same
returns-in_err-push-clause-same c = IfOk-from_err _ _ c.from_residual.ensures.0

pub returns-in_err-push-clause-listed : goal.returns-in_err-push-clause-listed
returns-in_err-push-clause-listed c = c.loop-place.invariant.listed

pub loop-place-preserved : goal.loop-place-preserved
loop-place-preserved c = record {
  long = let e = ap length c.in_ok-push.ensures.items in let a = length-append c.loop-place.self.places.items (no_place ∷ []) in let l = c.loop-place.invariant.long in omega arith;
  same = λ x. place_pushed c.loop-place.self.places.items c.push.new.self.items x c.in_ok-push.ensures.items ∙ c.loop-place.invariant.same x;
  listed = c.loop-place.invariant.listed;
}

pub returns-clause-same : goal.returns-clause-same
returns-clause-same c = c.loop-place.invariant.same

pub returns-clause-listed : goal.returns-clause-listed
returns-clause-listed c = c.loop-place.invariant.listed
