use Rattle.std.proofs.Common.{◌∙◌, ◌+◌, ◌≤◌, ◌++◌, ◌∷◌, [], length, length-set, sym, ap, subst, subst₂}
use Rattle.lw_curves.specs.Backing.{IsHeldGained}
use Rattle.lw_curves.specs.Fronts.{AreBefore, AreFoundAt, IsLastAt, held_at, held_of, spots_of}
use Rattle.lw_curves.specs.Settling.{Spot, spot, Has, AreApart, IsGained}
use Rattle.lw_choices.proofs.Lists.{length_push}
use Rattle.lw_curves.proofs.Fronting.{put_push, put_set, put_held_push, put_held_set}
use Rattle.lw_curves.proofs.pareto_fronts.put.Goals as goal

pub place_at-requires-clause-are : goal.place_at-requires-clause-are
place_at-requires-clause-are c = subst (AreFoundAt c.args.links.now.classes) (sym c.as_slice.ensures.value) c.requires.are

pub place_at-requires-clause-late : goal.place_at-requires-clause-late
place_at-requires-clause-late c =
    subst (λ ps. (k : Spot) → Has (spots_of c.args.links.now.classes ps) k → k.time ≤ c.args.point.time.0) (sym c.as_slice.ensures.value) c.requires.late

pub returns-in-Some-clause-are : goal.returns-in-Some-clause-are
returns-in-Some-clause-are c =
    let last = subst (λ ps. IsLastAt c.args.links.now.classes ps c.args.class.0 c.args.point.time.0 c.in-Some.place) c.as_slice.ensures.value c.in-Some.ensures in
    record {
      one_each = length-set c.args.points.now.items c.in-Some.place c.args.point ∙ c.requires.are.one_each;
      apart = (put_set c.args.links.now.classes c.args.points.now.items c.args.class.0 c.args.point c.requires.are.one_each c.requires.are.apart c.requires.less c.in-Some.place last).0;
    }

pub returns-in-Some-clause-put : goal.returns-in-Some-clause-put
returns-in-Some-clause-put c =
    let last = subst (λ ps. IsLastAt c.args.links.now.classes ps c.args.class.0 c.args.point.time.0 c.in-Some.place) c.as_slice.ensures.value c.in-Some.ensures in
    record {
      gained = (put_set c.args.links.now.classes c.args.points.now.items c.args.class.0 c.args.point c.requires.are.one_each c.requires.are.apart c.requires.less c.in-Some.place last).1;
      held = put_held_set c.args.links.now.classes c.args.points.now.items c.args.class.0 c.args.point c.requires.are.one_each c.requires.fresh c.in-Some.place c.requires.less last;
    }

pub returns-clause-are : goal.returns-clause-are
returns-clause-are c =
    let cs = c.args.links.now.classes in
    let ps = c.args.points.now.items in
    let late = subst (λ qs. AreBefore (spots_of cs qs) c.args.class.0 c.args.point.time.0) c.as_slice.ensures.value c.in_default.ensures in
    let done = put_push cs ps c.args.class.0 c.args.point c.requires.are.one_each c.requires.are.apart c.requires.less late in
    let items = c.in_ok-push-2.ensures.items ∙ ap (λ xs. xs ++ c.args.point ∷ []) c.in_ok-reserve.ensures.items in
    record {
      one_each = ap length items ∙ (length_push ps c.args.point ∙ (ap (λ n. n + 1) c.requires.are.one_each ∙ sym (ap length c.in_ok-push.ensures.classes ∙ length_push cs c.args.class.0)));
      apart = subst₂ (λ xs ys. AreApart (spots_of xs ys)) (sym c.in_ok-push.ensures.classes) (sym items) done.0;
    }

pub returns-clause-put : goal.returns-clause-put
returns-clause-put c =
    let cs = c.args.links.now.classes in
    let ps = c.args.points.now.items in
    let late = subst (λ qs. AreBefore (spots_of cs qs) c.args.class.0 c.args.point.time.0) c.as_slice.ensures.value c.in_default.ensures in
    let done = put_push cs ps c.args.class.0 c.args.point c.requires.are.one_each c.requires.are.apart c.requires.less late in
    let held = put_held_push cs ps c.args.class.0 c.args.point c.requires.are.one_each c.requires.fresh in
    let items = c.in_ok-push-2.ensures.items ∙ ap (λ xs. xs ++ c.args.point ∷ []) c.in_ok-reserve.ensures.items in
    record {
      gained = subst₂ (λ xs ys. IsGained (spots_of cs ps) (spots_of xs ys) (spot c.args.class.0 c.args.point.time.0 c.args.point.area)) (sym c.in_ok-push.ensures.classes) (sym items) done.1;
      held = subst₂ (λ xs ys. IsHeldGained (held_of cs ps) (held_of xs ys) (held_at c.args.class.0 c.args.point)) (sym c.in_ok-push.ensures.classes) (sym items) held;
    }
