use Rattle.std.proofs.Common.{◌∙◌, subst, arith, IfErr}
use Rattle.std.proofs.lemmas.List.{length-map}
use Rattle.std.proofs.lemmas.Result.{IfOk-from_err, on_ok_weaker}
use Rattle.lw_laws.specs.SignalValues.{form_of}
use Rattle.lw_form.specs.declared.fault.FormFault.TheVariants.{Memory}
use Rattle.lw_form.specs.Listed.{bases_of, IsTooLong}
use Rattle.lw_form.specs.Tables.{made, spelled, forms_at}
use Rattle.lw_form.proofs.Joining.{more_same}
use Rattle.lw_form.proofs.ListedForms.{err_is, part_same, short_part, added_more, listed_kept}
use Rattle.lw_form.proofs.listing.Listing.list_part.Goals as goal

pub add-requires : goal.add-requires
add-requires c = c.requires.below

pub list-requires-clause-listed : goal.list-requires-clause-listed
list-requires-clause-listed c = listed_kept (made c.args.table.now) (made c.add.new.self) c.args.self.now.listed.items c.args.self.now.places.items (added_more c.args.table.now c.add.new.self (spelled (made c.args.table.now) c.args.ids) c.in_ok-b.ensures.made) c.requires.listed

pub returns-then-len-lt2 : goal.returns-then-len-lt2
returns-then-len-lt2 c = record {
  listed = record {
    more = more_same (made c.args.table.now);
    listed = c.requires.listed;
    bases = short_part (forms_at (made c.args.table.now) c.args.ids) (bases_of (made c.args.table.now) c.args.self.now.listed.items) (let m = length-map c.args.ids (form_of (made c.args.table.now)) in let l = c.len.ensures.len in let t = c.if-len-lt2.true in omega arith);
  };
  fault = tt;
}

pub returns-in_err-b : goal.returns-in_err-b
returns-in_err-b c = record { listed = IfOk-from_err _ _ c.from_residual.ensures.0; fault = err_is (IsTooLong _) c.from_residual.result Memory c.from_residual.ensures.1 tt }

pub returns : goal.returns
returns c = record {
  listed =
      let more = added_more c.args.table.now c.add.new.self (spelled (made c.args.table.now) c.args.ids) c.in_ok-b.ensures.made in
      on_ok_weaker c.list.result (λ l. record { more = more; listed = l.listed; bases = l.bases ∙ (part_same c.args.table.now c.add.new.self c.args.ids c.args.self.now.listed.items c.args.self.now.places.items c.in_ok-b.b (let l = c.len.ensures.len in let n = c.if-len-lt2.false in omega arith) c.requires.listed (added_more c.args.table.now c.add.new.self (spelled (made c.args.table.now) c.args.ids) c.in_ok-b.ensures.made) c.in_ok-b.ensures.place) }) c.list.ensures.listed;
  fault = subst (λ k. IfErr c.list.result (IsTooLong k)) (part_same c.args.table.now c.add.new.self c.args.ids c.args.self.now.listed.items c.args.self.now.places.items c.in_ok-b.b (let l = c.len.ensures.len in let n = c.if-len-lt2.false in omega arith) c.requires.listed (added_more c.args.table.now c.add.new.self (spelled (made c.args.table.now) c.args.ids) c.in_ok-b.ensures.made) c.in_ok-b.ensures.place) c.list.ensures.fault;
}
