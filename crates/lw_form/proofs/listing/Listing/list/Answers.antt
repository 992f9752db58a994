use Rattle.std.proofs.Common.{◌∙◌, ◌<◌, sym, arith, length}
use Rattle.lw_form.specs.Limits.{most_bases}
use Rattle.lw_form.specs.Tables.{made}
use Rattle.std.proofs.lemmas.Result.{IfOk-from_err}
use Rattle.lw_form.specs.declared.fault.FormFault.TheVariants.{Memory}
use Rattle.lw_form.specs.Listed.{IsTooLong}
use Rattle.lw_form.proofs.Joining.{more_same}
use Rattle.lw_form.proofs.ListedForms.{err_is, placed_among, appended_listed, put_listed, put_bases, too_long}
use Rattle.lw_form.proofs.listing.Listing.list.Goals as goal

fewer : (c : goal.In_ok-put) → length c.args.self.now.listed.items < most_bases
fewer c = let o = c.args.self.now.listed.ok in let l = c.len.ensures in let e = c.if-len-eq-MOST_BASES.false in let f = c.requires.listed.few in omega arith

pub returns-then-place : goal.returns-then-place
returns-then-place c = record {
  listed = record {
    more = more_same (made c.args.table.now);
    listed = c.requires.listed;
    bases = appended_listed _ _ (placed_among (made c.args.table.now) c.args.self.now.listed.items c.args.self.now.places.items c.args.b c.requires.listed (λ e. c.if-place.true (c.place.ensures ∙ e)));
  };
  fault = tt;
}

pub returns-then-len-eq-MOST_BASES : goal.returns-then-len-eq-MOST_BASES
returns-then-len-eq-MOST_BASES c = record {
  listed = tt;
  fault = too_long (made c.args.table.now) c.args.self.now.listed.items c.args.self.now.places.items c.args.b c.len-count.ensures.made c.requires.within c.requires.listed (sym c.place.ensures ∙ c.if-place.false) (let o = c.args.self.now.listed.ok in let l = c.len.ensures in let e = c.if-len-eq-MOST_BASES.true in omega arith);
}

pub returns-in_err-put : goal.returns-in_err-put
returns-in_err-put c = record { listed = IfOk-from_err _ _ c.from_residual.ensures.0; fault = err_is (IsTooLong _) c.from_residual.result Memory c.from_residual.ensures.1 tt }

pub returns : goal.returns
returns c = record {
  listed = record {
    more = more_same (made c.args.table.now);
    listed = put_listed (made c.args.table.now) c.args.self.now.listed.items c.args.self.now.places.items c.put.new.self.listed.items c.put.new.self.places.items c.args.b c.len-count.ensures.made c.requires.within c.requires.listed (sym c.place.ensures ∙ c.if-place.false) (fewer c) c.in_ok-put.ensures.listed c.in_ok-put.ensures.placed c.in_ok-put.ensures.others;
    bases = put_bases (made c.args.table.now) c.args.self.now.listed.items c.args.self.now.places.items c.put.new.self.listed.items c.put.new.self.places.items c.args.b c.len-count.ensures.made c.requires.within c.requires.listed (sym c.place.ensures ∙ c.if-place.false) (fewer c) c.in_ok-put.ensures.listed c.in_ok-put.ensures.placed c.in_ok-put.ensures.others;
  };
  fault = tt;
}
