use Rattle.std.proofs.Common.{◌∙◌, sym, subst}
use Rattle.lw_bounds.specs.Bounds.{AreBounds}
use Rattle.lw_label.specs.Heights.{AreGiven}
use Rattle.lw_cost.specs.Labels.{AreLeastMarks}
use Rattle.lw_label.proofs.labels.mark_all.Goals as goal

pub lower_all-requires : goal.lower_all-requires
lower_all-requires g c =
    let un = c.requires.unmarked in
    record {
      cells = c.requires.cells;
      places = un.places;
      still = un.still;
      fits = un.fits;
      zero = un.zero;
      known = c.requires.known;
      none = un.no_labels;
    }

pub new-rounds-requires : goal.new-rounds-requires
new-rounds-requires g c =
    let task = c.args.task.now in
    let un = c.requires.unmarked in
    let labelled = c.lower_all.ensures in
    record {
      places = labelled.places ∙ un.places;
      given = subst (λ ms. AreGiven task.graph.now (g.C.Cost.costs task.cost.now) task.pats.now c.lower_all.new.self.labelling.bounds ms) (sym c.deref.ensures.value) labelled.given;
      known = labelled.known;
      none = un.no_marks;
      table = un.table;
    }

pub lower_all-requires-2 : goal.lower_all-requires-2
lower_all-requires-2 g c = c.new-rounds.ensures

pub returns : goal.returns
returns g c =
    let task = c.args.task.now in
    let labels = sym c.from_marks-labels.ensures in
    record {
      least = subst (λ ms. AreLeastMarks task.graph.now (g.C.Cost.costs task.cost.now) task.pats.now ms) labels c.lower_all-2.ensures.least;
      fits = c.lower_all.ensures.given.fits;
      bounds = subst (λ ms. AreBounds c.lower_all.new.self.labelling.bounds task.graph.now ms) labels c.lower_all-2.ensures.bounds;
    }
