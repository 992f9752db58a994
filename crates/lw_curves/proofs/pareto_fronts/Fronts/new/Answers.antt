use Rattle.std.proofs.Common.{rules, ◌≡◌, Some, sym, subst, slice_get}
use Rattle.lw_curves.specs.Fronts.{IsLeastOf, spots_of}
use Rattle.lw_curves.proofs.Fronting.{least_of_none}
use Rattle.lw_curves.proofs.pareto_fronts.Fronts.new.Goals as goal

pub invariant_of-result : goal.invariant_of-result
invariant_of-result c = record {
  are = record { one_each = search rules; apart = search rules };
  count = search rules;
  least_is = λ class area at.
      let all = c.in_ok-vec.ensures.items_if_clones_equal (λ y e. e) in
      let none = least_of_none c.args.classes class area (subst (λ xs. slice_get xs class ≡ Some area) all at) in
      subst (λ cs. IsLeastOf (spots_of cs c.new-2.result.items) class area) (sym c.in_ok-new.ensures.classes) none;
  orders = search rules;
}
