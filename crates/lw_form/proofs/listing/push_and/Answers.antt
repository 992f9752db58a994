use Rattle.std.proofs.Common.{◌∙◌, ◌∷◌, ◌++◌, [], sym, subst, ap, map}
use Rattle.std.specs.List.{AllByRecursion}
use Rattle.std.proofs.lemmas.Result.{on_ok_weaker}
use Rattle.lw_laws.proofs.Lists.{all_append}
use Rattle.lw_form.specs.declared.listing.Step.TheVariants.{Parts}
use Rattle.lw_form.specs.Listed.{StepFits, plain_step, plain_steps, adds}
use Rattle.lw_form.proofs.ListedForms.{steps_last}
use Rattle.lw_form.proofs.listing.push_and.Goals as goal

pub returns : goal.returns
returns c = on_ok_weaker c.push_operands.result (λ p. record {
  steps = λ forms. p.steps forms ∙ ap (λ l. map (plain_step forms) (adds c.args.ids.now) ++ l) (ap (λ l. plain_steps forms l) c.in_ok-push.ensures.items ∙ steps_last forms c.args.steps.now.items (Parts c.args.b));
  fit = λ count lt a b. p.fit count a (subst (AllByRecursion (StepFits count)) (sym c.in_ok-push.ensures.items) (all_append (StepFits count) c.args.steps.now.items (Parts c.args.b ∷ []) b (lt, tt)));
}) c.push_operands.ensures
