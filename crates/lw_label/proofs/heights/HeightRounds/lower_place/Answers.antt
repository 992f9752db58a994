use Rattle.std.proofs.Common.{◌≡◌, ◌<◌, ◌∙◌, true, false, IfSome, slice_index_or, ap, sym, subst}
use Rattle.lw_label.specs.Heights.{IsReached, heights_weight}
use Rattle.lw_label.specs.HeightTables.{AreHeightsFalling, IsHeightTable}
use Rattle.lw_label.specs.Orders.{IsStillAfter, IsVisited, VisitState}
use Rattle.lw_label.proofs.HeightTables.{around_place, visit_found, visit_settled}
use Rattle.lw_label.proofs.Passing.{passes_still, passes_visit}
use Rattle.lw_label.proofs.heights.HeightRounds.lower_place.Goals as goal

pub due_unless_still-requires : goal.due_unless_still-requires
due_unless_still-requires g c = record {
  number = c.requires.number;
  places = c.requires.rounds.places;
}

pub set_if_still-requires : goal.set_if_still-requires
set_if_still-requires g c =
    let task = c.args.given.now.task.now in
    let kept = c.due_unless_still.ensures.kept in
    let place = c.in-Some.place in
    record {
      within = subst (λ n. place < n) c.requires.rounds.places c.in-Some.ensures.at.within;
      places = ap (λ (v : VisitState). v.places) kept ∙ c.requires.rounds.places;
      moving = subst (λ (v : VisitState). slice_index_or v.still place false ≡ false) (sym kept) c.in-Some.ensures.moving;
      table = subst (λ (v : VisitState). IfSome c.args.self.now.heights.table (IsHeightTable task.graph.now task.pats.now v.still)) (sym kept) c.requires.rounds.falling.numbers;
    }

pub lower_pair-visit-requires-clause-place : goal.lower_pair-visit-requires-clause-place
lower_pair-visit-requires-clause-place g c =
    subst (λ n. c.in-Some.place < n) c.requires.rounds.places c.in-Some.ensures.at.within

pub lower_pair-visit-requires-clause-may : goal.lower_pair-visit-requires-clause-may
lower_pair-visit-requires-clause-may g c =
    let graph = c.args.given.now.task.now.graph.now in
    let pats = c.args.given.now.task.now.pats.now in
    let own = c.args.self.now in
    let marks = own.heights.marks.items in
    let table = c.set_if_still.new.table in
    let falling = c.requires.rounds.falling in
    let numbers = subst (λ (v : VisitState). IfSome table (IsHeightTable graph pats v.still)) c.due_unless_still.ensures.kept c.set_if_still.ensures.table in
    record {
      search = falling.search;
      table = around_place graph pats marks own.visits.still c.in-Some.place table falling.search.given.graph c.in-Some.ensures.moving (c.set_if_still.ensures.heights marks falling.heights) numbers;
    }

pub note-requires : goal.note-requires
note-requires g c =
    subst (λ (v : VisitState). c.in-Some.place < v.places) (sym c.due_unless_still.ensures.kept) c.in-Some.ensures.at.within

pub settle-requires-clause-places : goal.settle-requires-clause-places
settle-requires-clause-places g c =
    ap (λ (v : VisitState). v.places) (c.note.ensures ∙ c.due_unless_still.ensures.kept) ∙ c.requires.rounds.places

pub settle-requires-clause-place : goal.settle-requires-clause-place
settle-requires-clause-place g c =
    subst (λ (v : VisitState). c.in-Some.place < v.places) (sym (c.note.ensures ∙ c.due_unless_still.ensures.kept)) c.in-Some.ensures.at.within

pub returns-in_default : goal.returns-in_default
returns-in_default g c =
    let given = c.args.given.now in
    let task = given.task.now in
    let costs = g.C.Cost.costs task.cost.now in
    let kept = c.due_unless_still.ensures.kept in
    let own = c.args.self.now in
    let still = own.visits.still in
    let heights = own.heights in
    let marks = heights.marks.items in
    record {
      order = ap (λ (v : VisitState). v.order) kept;
      rounds = record {
        places = ap (λ (v : VisitState). v.places) kept ∙ c.requires.rounds.places;
        falling = subst (λ (v : VisitState). AreHeightsFalling costs given heights.tops.now heights.table marks v.still) (sym kept) c.requires.rounds.falling;
      };
      lowers = passes_still heights_weight (IsReached task.graph.now costs task.pats.now given.labels.now) marks (IsVisited c.args.whole own.visits.order c.args.number)
          (λ b (whole, at). c.requires.rounds.falling.kept.reached b (subst (λ o. IfSome o (λ p. slice_index_or still p false ≡ true)) at (c.due_unless_still.ensures.whole whole c.in_default.is)));
    }

pub returns-else-visit : goal.returns-else-visit
returns-else-visit g c =
    let given = c.args.given.now in
    let task = given.task.now in
    let costs = g.C.Cost.costs task.cost.now in
    let own = c.args.self.now in
    let marks = own.heights.marks.items in
    let visit = c.lower_pair-visit in
    let new = visit.new.self in
    let place = c.in-Some.place in
    let table = c.set_if_still.new.table in
    let still = own.visits.still in
    let falling = c.requires.rounds.falling in
    let kept = c.note.ensures ∙ c.due_unless_still.ensures.kept in
    let numbers = subst (λ (v : VisitState). IfSome table (IsHeightTable task.graph.now task.pats.now v.still)) c.due_unless_still.ensures.kept c.set_if_still.ensures.table in
    record {
      order = ap (λ (v : VisitState). v.order) kept;
      rounds = record {
        places = ap (λ (v : VisitState). v.places) kept ∙ c.requires.rounds.places;
        falling = subst (λ now. AreHeightsFalling costs given new.tops.now new.table new.marks.items now) (sym (ap (λ (v : VisitState). v.still) kept)) (visit_found costs given place still c.in-Some.ensures.moving marks new.marks.items visit.ensures.others table new.table (c.set_if_still.ensures.heights marks falling.heights) numbers visit.ensures.table new.tops.now visit.ensures.search falling.kept);
      };
      lowers = passes_visit heights_weight (IsReached task.graph.now costs task.pats.now given.labels.now) marks new.marks.items c.args.whole own.visits.order c.args.number place visit.result.lowered c.in-Some.ensures.at.place visit.ensures.lowers;
    }

pub returns-then-visit : goal.returns-then-visit
returns-then-visit g c =
    let given = c.args.given.now in
    let task = given.task.now in
    let costs = g.C.Cost.costs task.cost.now in
    let own = c.args.self.now in
    let marks = own.heights.marks.items in
    let visit = c.lower_pair-visit in
    let new = visit.new.self in
    let place = c.in-Some.place in
    let table = c.set_if_still.new.table in
    let still = own.visits.still in
    let more = c.settle.new.self.still in
    let falling = c.requires.rounds.falling in
    let kept = c.note.ensures ∙ c.due_unless_still.ensures.kept in
    let after = subst (λ now. IsStillAfter task.graph.now place now more) (ap (λ (v : VisitState). v.still) kept) c.settle.ensures.still in
    let numbers = subst (λ (v : VisitState). IfSome table (IsHeightTable task.graph.now task.pats.now v.still)) c.due_unless_still.ensures.kept c.set_if_still.ensures.table in
    record {
      order = c.settle.ensures.order ∙ ap (λ (v : VisitState). v.order) kept;
      rounds = record {
        places = c.settle.ensures.places ∙ (ap (λ (v : VisitState). v.places) kept ∙ c.requires.rounds.places);
        falling = visit_settled costs given place still c.in-Some.ensures.moving marks new.marks.items visit.ensures.others table new.table (c.set_if_still.ensures.heights marks falling.heights) numbers visit.ensures.table new.tops.now visit.ensures.search falling.kept more after (visit.ensures.still c.if-visit.true);
      };
      lowers = passes_visit heights_weight (IsReached task.graph.now costs task.pats.now given.labels.now) marks new.marks.items c.args.whole own.visits.order c.args.number place visit.result.lowered c.in-Some.ensures.at.place visit.ensures.lowers;
    }
