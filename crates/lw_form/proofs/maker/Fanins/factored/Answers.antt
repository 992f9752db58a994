use Rattle.std.proofs.Common.{◌∙◌, ◌∷◌, ◌++◌, [], subst, ap, arith}
use Rattle.std.proofs.lemmas.List.{nil_from_length}
use Rattle.lw_laws.specs.Signals.{factored}
use Rattle.lw_form.specs.declared.factoring.Task.TheVariants.{Factor}
use Rattle.lw_form.specs.Factoring.{IsWorking, weights}
use Rattle.lw_form.specs.Tables.{made, forms_at}
use Rattle.lw_form.proofs.Joining.{more_same, more_twice}
use Rattle.lw_form.proofs.FactoringSteps.{work_first, work_last, some_done, weights_last}
use Rattle.lw_form.proofs.maker.Fanins.factored.Goals as goal

pub tasks-init : goal.tasks-init
tasks-init c = record {
  more = more_same (made c.args.table.now);
  works = work_first c.args.self.now.maker.now.width c.args.table.now c.args.self.now.forms.now c.push.new.self.items c.new-2.result.items c.args.rows c.requires.below c.requires.columns (c.in_ok-push.ensures.items ∙ ap (λ l. l ++ Factor c.args.rows ∷ []) c.new.ensures.items) c.new-2.ensures.items;
}

pub advance-requires : goal.advance-requires
advance-requires c =
    (forms_at (made c.args.table.now) c.args.self.now.forms.now, factored c.args.self.now.maker.now.width (forms_at (made c.args.table.now) c.args.self.now.forms.now) c.args.rows.items, subst (λ ts. IsWorking c.args.self.now.maker.now.width (forms_at (made c.args.table.now) c.args.self.now.forms.now) c.args.self.now.forms.now c.tasks.table ts c.tasks.work.done.items (factored c.args.self.now.maker.now.width (forms_at (made c.args.table.now) c.args.self.now.forms.now) c.args.rows.items ∷ [])) c.in-Some.ensures.items c.tasks.invariant.works)

pub tasks-smaller : goal.tasks-smaller
tasks-smaller c =
    let a = ap weights c.in-Some.ensures.items in
    let b = weights_last c.pop.new.self.items c.in-Some.task in
    let l = c.in_ok-advance.ensures.less in
    omega arith

pub tasks-preserved : goal.tasks-preserved
tasks-preserved c = record {
  more = more_twice (made c.args.table.now) (made c.tasks.table) (made c.advance.new.table) c.tasks.invariant.more c.in_ok-advance.ensures.more;
  works = c.in_ok-advance.ensures.working _ _ (subst (λ ts. IsWorking c.args.self.now.maker.now.width (forms_at (made c.args.table.now) c.args.self.now.forms.now) c.args.self.now.forms.now c.tasks.table ts c.tasks.work.done.items (factored c.args.self.now.maker.now.width (forms_at (made c.args.table.now) c.args.self.now.forms.now) c.args.rows.items ∷ [])) c.in-Some.ensures.items c.tasks.invariant.works);
}

pub last-requires : goal.last-requires
last-requires c = some_done c.args.self.now.maker.now.width (forms_at (made c.args.table.now) c.args.self.now.forms.now) c.args.self.now.forms.now (factored c.args.self.now.maker.now.width (forms_at (made c.args.table.now) c.args.self.now.forms.now) c.args.rows.items) c.tasks.table c.tasks.work.tasks.items c.tasks.work.done.items c.tasks.invariant.works (nil_from_length c.tasks.work.tasks.items (let o = c.tasks.work.tasks.ok in let l = c.in_default.ensures.cases.0 in omega arith))

pub returns : goal.returns
returns c = work_last c.args.self.now.maker.now.width (forms_at (made c.args.table.now) c.args.self.now.forms.now) c.args.self.now.forms.now (factored c.args.self.now.maker.now.width (forms_at (made c.args.table.now) c.args.self.now.forms.now) c.args.rows.items) c.args.table.now c.tasks.table c.tasks.work.done.items c.last.new.done.items c.last.result c.tasks.work.tasks.items c.tasks.invariant.more c.tasks.invariant.works (nil_from_length c.tasks.work.tasks.items (let o = c.tasks.work.tasks.ok in let l = c.in_default.ensures.cases.0 in omega arith)) c.last.ensures
