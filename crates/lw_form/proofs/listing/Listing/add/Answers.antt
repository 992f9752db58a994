use Rattle.std.proofs.Common.{◌≡◌, ◌∙◌, [], subst, ap, arith}
use Rattle.std.proofs.lemmas.List.{nil_from_length}
use Rattle.std.proofs.lemmas.Result.{IfOk-from_err}
use Rattle.lw_laws.specs.Occurring.{add_form}
use Rattle.lw_form.specs.declared.fault.FormFault.TheVariants.{Memory}
use Rattle.lw_laws.specs.SignalValues.{form_of}
use Rattle.lw_form.specs.Listed.{bases_of, plain_steps, steps_size, IsAdding, IsTooLong}
use Rattle.lw_form.specs.Tables.{made}
use Rattle.lw_form.proofs.Joining.{more_same, more_twice}
use Rattle.lw_form.proofs.ListedForms.{sizes_last, adding_first, add_placed, err_is}
use Rattle.lw_form.proofs.listing.Listing.add.Goals as goal

pub steps-init : goal.steps-init
steps-init c = record {
  more = more_same (made c.args.table.now);
  adding = adding_first c.args.table.now c.args.self.now.listed.items c.args.self.now.places.items c.only_step.new.steps.items c.args.form c.requires.listed c.requires.within c.in_ok-only_step.ensures;
}

pub advance-requires : goal.advance-requires
advance-requires c = (add_form (form_of (made c.args.table.now) c.args.form) (bases_of (made c.args.table.now) c.args.self.now.listed.items), subst (λ s. IsAdding c.steps.table c.steps.self.listed.items c.steps.self.places.items s (add_form (form_of (made c.args.table.now) c.args.form) (bases_of (made c.args.table.now) c.args.self.now.listed.items))) c.in-Some.ensures.items c.steps.invariant.adding)

pub steps-smaller : goal.steps-smaller
steps-smaller c =
    let a = ap (λ s. steps_size (plain_steps (made c.steps.table) s)) c.in-Some.ensures.items in
    let b = sizes_last (made c.steps.table) c.pop.new.self.items c.in-Some.step in
    let l = c.in_ok-advance.ensures.taken.less in
    omega arith

pub steps-preserved : goal.steps-preserved
steps-preserved c = record {
  more = more_twice (made c.args.table.now) (made c.steps.table) (made c.advance.new.table) c.steps.invariant.more c.in_ok-advance.ensures.taken.more;
  adding = c.in_ok-advance.ensures.taken.adding _ (subst (λ s. IsAdding c.steps.table c.steps.self.listed.items c.steps.self.places.items s (add_form (form_of (made c.args.table.now) c.args.form) (bases_of (made c.args.table.now) c.args.self.now.listed.items))) c.in-Some.ensures.items c.steps.invariant.adding);
}

pub returns-then-place : goal.returns-then-place
returns-then-place c = record {
  listed = record {
    more = more_same (made c.args.table.now);
    listed = c.requires.listed;
    bases = add_placed (made c.args.table.now) c.args.self.now.listed.items c.args.self.now.places.items c.args.form c.len-count.ensures.made c.requires.within c.requires.listed (λ e. c.if-place.true (c.place.ensures ∙ e));
  };
  fault = tt;
}

pub returns-in_err-only_step : goal.returns-in_err-only_step
returns-in_err-only_step c = record { listed = IfOk-from_err _ _ c.from_residual.ensures.0; fault = err_is (IsTooLong _) c.from_residual.result Memory c.from_residual.ensures.1 tt }

pub returns-in_err-advance : goal.returns-in_err-advance
returns-in_err-advance c = record {
  listed = IfOk-from_err _ _ c.from_residual-in_err-advance.ensures.0;
  fault =
      err_is (IsTooLong (add_form (form_of (made c.args.table.now) c.args.form) (bases_of (made c.args.table.now) c.args.self.now.listed.items))) c.from_residual-in_err-advance.result c.in_err-advance.field-0.0 c.from_residual-in_err-advance.ensures.1
      (c.in_err-advance.ensures.fault _ (subst (λ s. IsAdding c.steps.table c.steps.self.listed.items c.steps.self.places.items s (add_form (form_of (made c.args.table.now) c.args.form) (bases_of (made c.args.table.now) c.args.self.now.listed.items))) c.in-Some.ensures.items c.steps.invariant.adding));
}

pub returns : goal.returns
returns c =
    let to = add_form (form_of (made c.args.table.now) c.args.form) (bases_of (made c.args.table.now) c.args.self.now.listed.items) in
    let none : c.steps.steps.items ≡ [] = nil_from_length c.steps.steps.items (let o = c.steps.steps.ok in let l = c.in_default.ensures.cases.0 in omega arith) in
    let done = subst (λ s. IsAdding c.steps.table c.steps.self.listed.items c.steps.self.places.items s to) none c.steps.invariant.adding in
    record {
      listed = record { more = c.steps.invariant.more; listed = done.listed_is; bases = done.same };
      fault = tt;
    }
