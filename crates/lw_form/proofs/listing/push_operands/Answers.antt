use Rattle.std.proofs.Common.{◌-◌, ◌∷◌, [], sym, subst, length, arith}
use Rattle.std.specs.List.{AllByRecursion}
use Rattle.lw_laws.proofs.Lists.{all_append}
use Rattle.lw_form.specs.Listed.{StepFits}
use Rattle.lw_form.proofs.ListedForms.{operands_first, operands_more, operands_all}
use Rattle.lw_form.proofs.listing.push_operands.Goals as goal
use Rattle.lw_form.proofs.FactoringSteps.{below_at}

pub loop-place-init : goal.loop-place-init
loop-place-init c = record {
  steps = λ forms. operands_first forms c.args.ids.now c.args.steps.now.items;
  fit = λ count a b. b;
}

pub loop-place-preserved : goal.loop-place-preserved
loop-place-preserved c = record {
  steps = λ forms. operands_more forms c.args.ids.now c.args.steps.now.items c.loop-place.steps.items c.push.new.self.items c.loop-place.place c.loop-place-test.true c.in_ok-push.ensures.items (c.loop-place.invariant.steps forms);
  fit = λ count a b. subst (AllByRecursion (StepFits count)) (sym c.in_ok-push.ensures.items) (all_append (StepFits count) c.loop-place.steps.items (_ ∷ []) (c.loop-place.invariant.fit count a b) (below_at count c.args.ids.now (length c.args.ids.now - 1 - c.loop-place.place) (let lt = c.loop-place-test.true in omega arith) a, tt));
}

pub returns : goal.returns
returns c = record {
  steps = λ forms. operands_all forms c.args.ids.now c.args.steps.now.items c.loop-place.steps.items c.loop-place.place c.loop-place-test.false (c.loop-place.invariant.steps forms);
  fit = c.loop-place.invariant.fit;
}
