use Rattle.std.proofs.Common.{◌≡◌, ◌<◌, ◌/◌, ◌∙◌, true, false, IfSome, slice_index_or, subst, sym}
use Rattle.lw_label.specs.Lowering.{IsLabelled, state_weight}
use Rattle.lw_label.specs.Orders.{IsVisited, VisitState}
use Rattle.lw_label.specs.Searches.{state_of}
use Rattle.lw_label.proofs.Passing.{passes_still, passes_visit}
use Rattle.lw_label.proofs.OneVisit.{labels_still_kept, still_labelled}
use Rattle.lw_label.proofs.Still.{still_elsewhere}
use Rattle.lw_label.proofs.labelling.LabelRounds.lower_place.Goals as goal

pub due_unless_still-requires : goal.due_unless_still-requires
due_unless_still-requires g c = record {
  number = c.requires.number;
  places = c.requires.rounds.places;
}

pub lower_pair-lowered-requires-clause-place : goal.lower_pair-lowered-requires-clause-place
lower_pair-lowered-requires-clause-place g c =
    subst (λ n. c.in-Some.place < n) c.requires.rounds.places c.in-Some.ensures.at.within

pub lower_pair-lowered-requires-clause-may : goal.lower_pair-lowered-requires-clause-may
lower_pair-lowered-requires-clause-may g c = c.requires.rounds.falling.search

pub note-requires : goal.note-requires
note-requires g c =
    subst (λ (v : VisitState). c.in-Some.place < v.places) (sym c.due_unless_still.ensures.kept) c.in-Some.ensures.at.within

pub returns-in_default : goal.returns-in_default
returns-in_default g c =
    let task = c.args.task.now in
    let costs = g.C.Cost.costs task.cost.now in
    let visits = c.args.self.now.visits in
    let s = state_of c.args.self.now.labelling in
    record {
      after = record {
        visits = c.due_unless_still.ensures.kept;
        falling = c.requires.rounds.falling;
      };
      lowers = passes_still (state_weight costs) (IsLabelled task.graph.now costs task.pats.now) s (IsVisited c.args.whole visits.order c.args.number)
          (λ b (whole, at). still_labelled task.graph.now costs task.pats.now s visits.still b c.requires.rounds.falling.kept (subst (λ o. IfSome o (λ p. slice_index_or visits.still p false ≡ true)) at (c.due_unless_still.ensures.whole whole c.in_default.is)));
    }

pub returns : goal.returns
returns g c =
    let task = c.args.task.now in
    let costs = g.C.Cost.costs task.cost.now in
    let visits = c.args.self.now.visits in
    let old = state_of c.args.self.now.labelling in
    let falling = c.requires.rounds.falling in
    let sought = falling.search.sought in
    let pair = c.lower_pair-lowered in
    let new = state_of pair.new.self in
    let place = c.in-Some.place in
    record {
      after = record {
        visits = c.note.ensures ∙ c.due_unless_still.ensures.kept;
        falling = record {
          graph = falling.graph;
          search = pair.ensures.search;
          kept = labels_still_kept task.graph.now costs task.pats.now sought.of_cells (λ n. n / 2 ≡ place) old new visits.still sought.fits.rows.closed (still_elsewhere visits.still place c.in-Some.ensures.moving) pair.ensures.others falling.kept;
        };
      };
      lowers = passes_visit (state_weight costs) (IsLabelled task.graph.now costs task.pats.now) old new c.args.whole visits.order c.args.number place pair.result c.in-Some.ensures.at.place pair.ensures.lowers;
    }
