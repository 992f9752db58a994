use Rattle.std.proofs.Common.{◌∙◌, ap, sym, subst}
use Rattle.lw_label.specs.Lowering.{state}
use Rattle.lw_label.specs.OneVisit.{AreLabelsStill}
use Rattle.lw_label.specs.Orders.{VisitState, places_of}
use Rattle.lw_label.specs.Searches.{state_of}
use Rattle.lw_cost.proofs.MarksAsLabels.{cover_problem}
use Rattle.lw_label.proofs.OneVisit.{falling_but, labels_still_none, round_again}
use Rattle.lw_label.proofs.Falling.{labelled_bounds, bounded_all, graph_classes}
use Rattle.lw_label.proofs.labelling.LabelRounds.lower_all.Goals as goal

pub label_inputs-requires : goal.label_inputs-requires
label_inputs-requires g c = c.requires.none

pub label_places-requires-clause-rounds : goal.label_places-requires-clause-rounds
label_places-requires-clause-rounds g c =
    let task = c.args.task.now in
    let graph = task.graph.now in
    let costs = g.C.Cost.costs task.cost.now in
    let pats = task.pats.now in
    let s = state c.args.self.now.labelling.bounds c.label_inputs.new.marks.items in
    record {
      places = c.requires.places;
      falling = record {
        graph = c.classes.ensures.kept;
        search = record {
          sought = record {
            of_cells = c.requires.cells;
            problem = cover_problem graph costs pats c.classes.ensures.kept (g.met.C.Cost.laws task.cost.now) c.requires.cells;
            fits = c.requires.fits;
            lowering = c.label_inputs.ensures pats;
          };
          known = c.requires.known;
        };
        kept = subst (λ still. AreLabelsStill graph costs pats s still) (sym c.requires.still) (labels_still_none graph costs pats s (places_of graph));
      };
    }

pub label_places-requires-clause-zero : goal.label_places-requires-clause-zero
label_places-requires-clause-zero g c = c.requires.zero

pub forget_moving-requires-clause-places : goal.forget_moving-requires-clause-places
forget_moving-requires-clause-places g c = c.label_places.ensures.places

pub forget_moving-requires-clause-rows : goal.forget_moving-requires-clause-rows
forget_moving-requires-clause-rows g c = c.label_places.ensures.falling.search.sought.fits.rows

pub loop-init : goal.loop-init
loop-init g c =
    let task = c.args.task.now in
    let own = c.label_places.new.self in
    record {
      places = c.label_places.ensures.places;
      falling = falling_but task.graph.now (g.C.Cost.costs task.cost.now) task.pats.now own.labelling.bounds c.forget_moving.new.bounds own.labelling.tops.now own.labelling.marks.items own.visits.still c.forget_moving.ensures c.label_places.ensures.falling;
    }

pub lower_rounds-requires : goal.lower_rounds-requires
lower_rounds-requires g c = c.loop.invariant

pub loop-preserved : goal.loop-preserved
loop-preserved g c =
    let task = c.args.task.now in
    let one = c.lower_rounds.new.self in
    round_again task.graph.now (g.C.Cost.costs task.cost.now) task.pats.now c.loop.self.visits one.visits (state_of one.labelling) one.labelling.tops.now c.loop.invariant.places c.lower_rounds.ensures.after

pub loop-smaller : goal.loop-smaller
loop-smaller g c = c.lower_rounds.ensures.falls c.loop-test.true

pub returns : goal.returns
returns g c =
    let task = c.args.task.now in
    let costs = g.C.Cost.costs task.cost.now in
    let graph = task.graph.now in
    let pats = task.pats.now in
    let last = c.lower_rounds in
    let labelling = last.new.self.labelling in
    let marks = labelling.marks.items in
    let falling = last.ensures.after.falling in
    let sought = falling.search.sought in
    let labelled = last.ensures.labelled c.loop-test.false in
    let bounds = labelled_bounds graph costs pats (state_of labelling) falling.graph sought.fits labelled in
    record {
      places = ap (λ (v : VisitState). v.places) last.ensures.after.visits ∙ (c.loop.invariant.places ∙ sym c.requires.places);
      known = falling.search.known;
      given = record {
        of_cells = sought.of_cells;
        graph = falling.graph;
        problem = sought.problem;
        lowering = sought.lowering;
        bounded = bounded_all graph costs pats marks sought.lowering.one_each (graph_classes graph costs pats marks falling.graph sought.lowering.one_each) (λ n below. (labelled n below).1 bounds);
        fits = sought.fits;
        bounds = bounds;
      };
    }
