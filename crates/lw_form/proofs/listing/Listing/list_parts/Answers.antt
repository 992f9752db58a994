use Rattle.std.proofs.Common.{◌≡◌, sym, subst, arith}
use Rattle.std.proofs.lemmas.Result.{IfOk-from_err}
use Rattle.lw_laws.specs.Occurring.{append_part}
use Rattle.lw_form.specs.Listed.{bases_of, IsTooLong}
use Rattle.lw_form.specs.Tables.{made, forms_at, AreBelow}
use Rattle.lw_form.proofs.Joining.{below_kept_more}
use Rattle.lw_form.proofs.ListedForms.{below_picked, parts_first, parts_more, part_fault, parts_done, err_is}
use Rattle.lw_form.proofs.listing.Listing.list_parts.Goals as goal

pub loop-mask-init : goal.loop-mask-init
loop-mask-init c = parts_first c.args.table.now (forms_at (made c.args.table.now) c.args.ids.now) c.args.self.now.listed.items c.args.self.now.places.items c.requires.listed

pub list_part-requires-clause-below : goal.list_part-requires-clause-below
list_part-requires-clause-below c = subst (AreBelow _) (sym c.picked.ensures) (below_picked _ c.args.ids.now c.loop-mask.mask (below_kept_more (made c.args.table.now) (made c.loop-mask.table) c.args.ids.now c.loop-mask.invariant.more c.requires.below))

pub loop-mask-preserved : goal.loop-mask-preserved
loop-mask-preserved c = parts_more c.args.table.now c.loop-mask.table c.list_part.new.table c.args.ids.now (bases_of (made c.args.table.now) c.args.self.now.listed.items) c.loop-mask.mask c.loop-mask.self.listed.items c.loop-mask.self.places.items c.list_part.new.self.listed.items c.list_part.new.self.places.items c.requires.below (let e = c.mask_end-mask-end.ensures in let t = c.loop-mask-test.true in omega arith) c.loop-mask.invariant c.in_ok-list_part.ensures.listed.more c.in_ok-list_part.ensures.listed.listed (subst (λ l. bases_of (made c.list_part.new.table) c.list_part.new.self.listed.items ≡ append_part (forms_at (made c.loop-mask.table) l) (bases_of (made c.loop-mask.table) c.loop-mask.self.listed.items)) c.picked.ensures c.in_ok-list_part.ensures.listed.bases)

pub returns : goal.returns
returns c = record {
  listed = record {
    more = c.loop-mask.invariant.more;
    listed = c.loop-mask.invariant.listed_is;
    bases = parts_done c.args.table.now c.loop-mask.table c.args.ids.now (bases_of (made c.args.table.now) c.args.self.now.listed.items) c.loop-mask.mask c.loop-mask.self.listed.items c.loop-mask.self.places.items (let e = c.mask_end-mask-end.ensures in let t = c.loop-mask-test.false in omega arith) c.loop-mask.invariant;
  };
  fault = tt;
}

pub returns-in_err-list_part : goal.returns-in_err-list_part
returns-in_err-list_part c = record {
  listed = IfOk-from_err _ _ c.from_residual.ensures.0;
  fault =
      err_is (IsTooLong _) c.from_residual.result c.in_err-list_part.field-0.0 c.from_residual.ensures.1
      (part_fault c.args.table.now c.loop-mask.table c.args.ids.now (bases_of (made c.args.table.now) c.args.self.now.listed.items) c.loop-mask.mask c.loop-mask.self.listed.items c.loop-mask.self.places.items c.in_err-list_part.field-0.0 c.requires.below (let e = c.mask_end-mask-end.ensures in let t = c.loop-mask-test.true in omega arith) c.loop-mask.invariant (subst (λ l. IsTooLong (append_part (forms_at (made c.loop-mask.table) l) (bases_of (made c.loop-mask.table) c.loop-mask.self.listed.items)) c.in_err-list_part.field-0.0) c.picked.ensures c.in_err-list_part.ensures.fault));
}
