use Rattle.std.proofs.Common.{◌∙◌, sym, subst, ap, length}
use Rattle.lw_laws.specs.Occurring.{append_parts, sublists}
use Rattle.lw_form.specs.Listed.{bases_of, Lists}
use Rattle.lw_form.specs.Tables.{made, forms_at, AreBelow}
use Rattle.lw_form.proofs.Joining.{more_same}
use Rattle.lw_form.proofs.ListedForms.{no_parts, simple_base, and_operands, two_listed}
use Rattle.lw_form.proofs.listing.Listing.list_and.Goals as goal

pub list-requires-clause-listed : goal.list-requires-clause-listed
list-requires-clause-listed c = c.requires.listed

pub list-requires-clause-within : goal.list-requires-clause-within
list-requires-clause-within c = c.requires.within

pub list_parts-requires-clause-listed : goal.list_parts-requires-clause-listed
list_parts-requires-clause-listed c = c.requires.listed

pub list_parts-requires-clause-below : goal.list_parts-requires-clause-below
list_parts-requires-clause-below c = subst (AreBelow (length (made c.args.table.now))) (sym (c.operands-own.ensures ∙ c.as_slice.ensures.ids)) c.in-Some.ensures.spelled.below

pub returns-in-None : goal.returns-in-None
returns-in-None c = record {
  listed = record {
    more = more_same (made c.args.table.now);
    listed = c.requires.listed;
    bases = no_parts _ _ (simple_base (made c.args.table.now) c.args.b c.in-None.ensures.simple);
  };
  fault = tt;
}

pub returns-then-len-eq2 : goal.returns-then-len-eq2
returns-then-len-eq2 c = subst (Lists c.list.result c.args.table.now c.args.table.now c.list.new.self) (two_listed (made c.args.table.now) c.args.b c.in-Some.ids.now (bases_of (made c.args.table.now) c.args.self.now.listed.items) c.in-Some.ensures.spelled.and_is (sym c.len.ensures.len ∙ c.if-len-eq2.true)) c.list.ensures

pub returns : goal.returns
returns c = subst (λ l. Lists c.list_parts.result c.args.table.now c.list_parts.new.table c.list_parts.new.self (append_parts (sublists l) (bases_of (made c.args.table.now) c.args.self.now.listed.items))) (ap (forms_at (made c.args.table.now)) (c.operands-own.ensures ∙ c.as_slice.ensures.ids) ∙ sym (and_operands (made c.args.table.now) c.args.b c.in-Some.ids.now c.in-Some.ensures.spelled.and_is)) c.list_parts.ensures
