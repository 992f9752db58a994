use Rattle.std.proofs.Common.{◌≡◌, ◌+◌, ◌*◌, ◌/◌, ◌||◌, ◌∙◌, length, true, ap, ap₂, sym, subst, subst₂}
use Rattle.lw_bounds.specs.Bounds.{AreBounds, AreSettledAt, IsTableBut}
use Rattle.lw_label.specs.Lowering.{IsBounded, IsLabelled, Lowers, state, state_weight}
use Rattle.lw_label.proofs.Falling.{IsNumbered, IsLow, numbers_pass, label_pass, label_stays, marks_pass}
use Rattle.lw_bounds.proofs.Tables.{but_both}
use Rattle.lw_label.proofs.OneVisit.{even_of, odd_of, search_but}
use Rattle.lw_label.proofs.Still.{same_but_more}
use Rattle.lw_label.proofs.Passing.{passes_place, passes_two, passes_again}
use Rattle.lw_label.proofs.labelling.Labelling.lower_pair.Goals as goal

pub renew-one-requires-clause-one_each : goal.renew-one-requires-clause-one_each
renew-one-requires-clause-one_each g c =
    subst (λ ms. length ms ≡ length c.args.task.now.graph.now.pairs) (sym c.deref.ensures.value) c.requires.may.sought.lowering.one_each

pub renew-one-requires-clause-rows : goal.renew-one-requires-clause-rows
renew-one-requires-clause-rows g c = c.requires.may.sought.fits.rows

pub renew-other-requires-clause-one_each : goal.renew-other-requires-clause-one_each
renew-other-requires-clause-one_each g c =
    subst (λ ms. length ms ≡ length c.args.task.now.graph.now.pairs) (sym c.deref-2.ensures.value) c.requires.may.sought.lowering.one_each

pub renew-other-requires-clause-rows : goal.renew-other-requires-clause-rows
renew-other-requires-clause-rows g c =
    (c.renew-one.ensures.fits c.args.task.now.pats.now c.requires.may.sought.fits).rows

pub lower_mark-first-requires-clause-may : goal.lower_mark-first-requires-clause-may
lower_mark-first-requires-clause-may g c =
    let place = c.args.place in
    let task = c.args.task.now in
    let own = c.args.self.now in
    let new = c.renew-other.new.self in
    let but = but_both (λ n. n ≡ place * 2 + 1) (λ n. n ≡ place * 2) (λ n. n / 2 ≡ place) own.bounds c.renew-one.new.self new (odd_of place) (even_of place) c.renew-one.ensures.others c.renew-other.ensures.others in
    search_but task.graph.now (g.C.Cost.costs task.cost.now) task.pats.now (λ n. n / 2 ≡ place) own.bounds new own.tops.now own.marks.items but c.requires.may

pub lower_mark-second-requires-clause-may : goal.lower_mark-second-requires-clause-may
lower_mark-second-requires-clause-may g c = c.lower_mark-first.ensures.marks.search

pub lower_again-third-requires-clause-may : goal.lower_again-third-requires-clause-may
lower_again-third-requires-clause-may g c = c.lower_mark-second.ensures.marks.search

pub returns : goal.returns
returns g c =
    let task = c.args.task.now in
    let costs = g.C.Cost.costs task.cost.now in
    let graph = task.graph.now in
    let pats = task.pats.now in
    let weight = state_weight costs in
    let place = c.args.place in
    let bounds = c.args.self.now.bounds in
    let marks = c.args.self.now.marks.items in
    let one = c.renew-one in
    let other = c.renew-other in
    let first = c.lower_mark-first in
    let second = c.lower_mark-second in
    let third = c.lower_again-third in
    let table = other.new.self in
    let marks1 = first.new.self.marks.items in
    let marks2 = second.new.self.marks.items in
    let marks3 = third.new.self.marks.items in
    let same1 : first.new.self.bounds ≡ table = first.ensures.marks.table in
    let same2 : second.new.self.bounds ≡ table = second.ensures.marks.table ∙ same1 in
    let same3 : third.new.self.bounds ≡ table = third.ensures.table ∙ same2 in
    let changed = c.either-3.ensures ∙ ap (λ b. third.result || b) (c.either-2.ensures ∙ ap₂ (λ a b. a || b) c.either-lowered.ensures c.either.ensures) in
    let old = state bounds marks in
    let middle = state table marks in
    let new = state table marks2 in
    let end = state table marks3 in
    let numbers = passes_place weight (IsNumbered graph costs pats) old (state one.new.self marks) middle place one.result other.result (numbers_pass graph costs pats bounds one.new.self marks (place * 2 + 1) one.result one.ensures.falls one.ensures.same (λ e. subst (λ ms. AreSettledAt bounds graph ms (place * 2 + 1)) c.deref.ensures.value (one.ensures.settled e))) (numbers_pass graph costs pats one.new.self table marks (place * 2) other.result other.ensures.falls other.ensures.same (λ e. subst (λ ms. AreSettledAt one.new.self graph ms (place * 2)) c.deref-2.ensures.value (other.ensures.settled e))) in
    let bounded2 = subst (λ b. second.result.is_still ≡ true → AreBounds b graph marks1 → IsBounded graph costs pats marks2 (place * 2)) same1 second.ensures.bounded in
    let labels = passes_place weight (IsLow graph costs pats) middle (state table marks1) new place first.result.lowered second.result.lowered (label_pass graph costs pats table marks marks1 (place * 2 + 1) first.result.lowered first.ensures.marks.takes (label_stays graph costs pats table marks marks1 (place * 2 + 1) first.result.lowered first.result.is_still first.ensures.marks.takes first.ensures.none first.ensures.bounded)) (label_pass graph costs pats table marks1 marks2 (place * 2) second.result.lowered second.ensures.marks.takes (label_stays graph costs pats table marks1 marks2 (place * 2) second.result.lowered second.result.is_still second.ensures.marks.takes second.ensures.none bounded2)) in
    let both = passes_two weight (IsNumbered graph costs pats) (IsLow graph costs pats) old middle new (λ n. n / 2 ≡ place) (other.result || one.result) (second.result.lowered || first.result.lowered) numbers labels in
    let odd = odd_of place in
    let even = even_of place in
    let but = but_both (λ n. n ≡ place * 2 + 1) (λ n. n ≡ place * 2) (λ n. n / 2 ≡ place) bounds one.new.self table odd even one.ensures.others other.ensures.others in
    record {
      search = third.ensures.search;
      lowers = subst₂ (λ t b. Lowers graph costs pats old (state t marks3) (λ n. n / 2 ≡ place) b) (sym same3) (sym changed) (passes_again weight (IsLabelled graph costs pats) old new end (λ n. n / 2 ≡ place) ((second.result.lowered || first.result.lowered) || (other.result || one.result)) third.result both (marks_pass graph costs pats table marks2 marks3 third.result third.ensures.takes));
      others = record {
        table = subst (λ t. IsTableBut (λ n. n / 2 ≡ place) bounds t) (sym same3) but;
        marks = same_but_more (λ n. n ≡ place * 2 + 1) (λ n. n / 2 ≡ place) marks marks1 marks3 odd first.ensures.marks.others (same_but_more (λ n. n ≡ place * 2) (λ n. n / 2 ≡ place) marks1 marks2 marks3 even second.ensures.marks.others third.ensures.others);
      };
    }
