use Rattle.std.proofs.Common.{◌∙◌, ◌/◌, sym, subst, ap, length, Some}
use Rattle.std.proofs.lemmas.Result.{IfOk-from_err, on_ok_weaker}
use Rattle.lw_form.specs.declared.fault.FormFault.TheVariants.{Memory}
use Rattle.lw_form.specs.declared.listing.Step.TheVariants.{Add}
use Rattle.lw_form.specs.Listed.{IsStepFault}
use Rattle.lw_form.specs.Renumbered.{simple_at}
use Rattle.lw_form.specs.Tables.{made, spelled, AreBelow}
use Rattle.lw_form.proofs.Joining.{more_same}
use Rattle.lw_form.proofs.ListedForms.{err_is, adding_below, adding_listed, adding_simple, simple_fault, adding_and, size_dropped, size_and, simple_here, if_err, rest_fit}
use Rattle.lw_form.proofs.listing.Listing.begin.Goals as goal

pub operands-requires : goal.operands-requires
operands-requires c = let (goals, w) = c.requires in adding_below c.args.table.now c.len-count.ensures.made c.args.self.now.listed.items c.args.self.now.places.items c.args.steps.now.items c.args.form goals w

pub list-requires-clause-within : goal.list-requires-clause-within
list-requires-clause-within c = let (goals, w) = c.requires in adding_below c.args.table.now c.len-count.ensures.made c.args.self.now.listed.items c.args.self.now.places.items c.args.steps.now.items c.args.form goals w

pub returns-then-place : goal.returns-then-place
returns-then-place c = record {
  taken = record {
    more = more_same (made c.args.table.now);
    adding = λ goals w. adding_listed c.args.table.now c.len-count.ensures.made c.args.self.now.listed.items c.args.self.now.places.items c.args.steps.now.items c.args.form goals w (λ e. c.if-place.true (c.place.ensures ∙ e));
    less = size_dropped (made c.args.table.now) c.args.steps.now.items c.args.form;
  };
  fault = tt;
}

pub returns-in_default : goal.returns-in_default
returns-in_default c = record {
  taken =
      on_ok_weaker c.list.result (λ l. record {
        more = more_same (made c.args.table.now);
        adding = λ goals w. adding_simple c.args.table.now c.len-count.ensures.made c.args.self.now.listed.items c.args.self.now.places.items c.args.steps.now.items c.args.form goals w c.list.new.self.listed.items c.list.new.self.places.items (simple_at (c.args.form / 2)) c.in_default.ensures.simple (simple_here (c.args.form / 2)) l.listed l.bases;
        less = size_dropped (made c.args.table.now) c.args.steps.now.items c.args.form;
      }) c.list.ensures.listed;
  fault = if_err c.list.result (λ e t goals w. simple_fault c.args.table.now c.len-count.ensures.made c.args.self.now.listed.items c.args.self.now.places.items c.args.steps.now.items c.args.form goals w (simple_at (c.args.form / 2)) c.in_default.ensures.simple (simple_here (c.args.form / 2)) e t) c.list.ensures.fault;
}

pub returns-in_err-push_and : goal.returns-in_err-push_and
returns-in_err-push_and c = record {
  taken = IfOk-from_err _ _ c.from_residual.ensures.0;
  fault = err_is (IsStepFault c.args.table.now c.args.self.now c.args.steps.now.items (Add c.args.form)) c.from_residual.result Memory c.from_residual.ensures.1 (λ goals w. tt);
}

pub returns : goal.returns
returns c = record {
  taken = record {
    more = more_same (made c.args.table.now);
    adding = λ goals w.
        let below = adding_below c.args.table.now c.len-count.ensures.made c.args.self.now.listed.items c.args.self.now.places.items c.args.steps.now.items c.args.form goals w in
        let ids : AreBelow (length (made c.args.table.now)) c.as_slice.result.now = subst (AreBelow (length (made c.args.table.now))) (sym c.as_slice.ensures.ids) c.in-Some.ensures.spelled.below in
        adding_and c.args.table.now c.len-count.ensures.made c.args.self.now.listed.items c.args.self.now.places.items c.args.steps.now.items c.args.form goals w c.push_and.new.steps.items c.as_slice.result.now (sym c.place.ensures ∙ c.if-place.false) (c.in-Some.ensures.spelled.and_is ∙ ap (λ l. Some (spelled (made c.args.table.now) l)) (sym c.as_slice.ensures.ids)) ids (c.in_ok-push_and.ensures.fit (length (made c.args.table.now)) below ids (rest_fit c.args.table.now c.len-count.ensures.made c.args.self.now.listed.items c.args.self.now.places.items c.args.steps.now.items c.args.form goals w)) (c.in_ok-push_and.ensures.steps (made c.args.table.now));
    less = let (goals, w) = c.requires in
        size_and (made c.args.table.now) c.args.steps.now.items c.push_and.new.steps.items c.args.form c.as_slice.result.now c.len-count.ensures.made (adding_below c.args.table.now c.len-count.ensures.made c.args.self.now.listed.items c.args.self.now.places.items c.args.steps.now.items c.args.form goals w) (c.in-Some.ensures.spelled.and_is ∙ ap (λ l. Some (spelled (made c.args.table.now) l)) (sym c.as_slice.ensures.ids)) (c.in_ok-push_and.ensures.steps (made c.args.table.now));
  };
  fault = tt;
}
