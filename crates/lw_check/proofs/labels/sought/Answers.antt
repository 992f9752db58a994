use Rattle.std.proofs.Common.{ap, length, sym, ◌∙◌, subst}
use Rattle.std.proofs.lemmas.List.{length-map}
use Rattle.lw_cost.specs.Labels.{costs_of}
use Rattle.lw_bounds.specs.Bounds.{AreBounds}
use Rattle.lw_cost.specs.Values.{AreInRange}
use Rattle.lw_check.specs.Least.{AreFlat, flat_mark}
use Rattle.lw_check.proofs.Table.{flat_costs, flat_in_range, flat_marks}
use Rattle.lw_check.proofs.labels.sought.Goals as goal

pub invariant_of-trial-clause-labels_are : goal.invariant_of-trial-clause-labels_are
invariant_of-trial-clause-labels_are g c = ap costs_of (c.deref-2.ensures.value ∙ c.in_ok-marks.ensures) ∙ flat_costs c.args.given.now.labels.now

pub invariant_of-trial-clause-flat : goal.invariant_of-trial-clause-flat
invariant_of-trial-clause-flat g c = subst (λ ms. AreFlat ms) (sym (c.deref-2.ensures.value ∙ c.in_ok-marks.ensures)) (flat_marks c.args.given.now.labels.now)

pub first_unbounded-requires : goal.first_unbounded-requires
first_unbounded-requires g c =
    let marks = sym (c.deref-2.ensures.value ∙ c.in_ok-marks.ensures) in
    record {
      one_each = ap length (c.deref-2.ensures.value ∙ c.in_ok-marks.ensures) ∙ (length-map c.args.given.now.labels.now flat_mark ∙ c.args.given.now.one_each);
      in_range = subst (λ ms. AreInRange g.C.Cost.CAP ms) marks (flat_in_range g.C.Cost.CAP c.args.given.now.labels.now c.requires.capped);
      of_cells = c.requires.of_cells;
      fit = c.in_ok-bounds.ensures.fits;
      bounds = subst (λ ms. AreBounds c.in_ok-bounds.bounds c.args.given.now.graph.now ms) (c.deref.ensures.value ∙ sym c.deref-2.ensures.value) c.in_ok-bounds.ensures.bounds;
    }
