use Rattle.std.proofs.Common.{◌∙◌, ◌∷◌, ◌++◌, [], ap}
use Rattle.lw_form.specs.declared.factoring.Task.TheVariants.{Factor}
use Rattle.lw_form.proofs.factoring.push_cut.Goals as goal

pub returns : goal.returns
returns c = c.in_ok-push-3.ensures.items ∙ ap (λ l. l ++ Factor c.args.cut.having ∷ []) (c.in_ok-push-2.ensures.items ∙ ap (λ l. l ++ Factor c.args.cut.others ∷ []) c.in_ok-push.ensures.items)
