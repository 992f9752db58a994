use Rattle.std.proofs.Common.{◌≡◌, ◌∙◌, ◌∷◌, [], ℕ, List, sym, subst, ap, arith, length, map, get_or}
use Rattle.std.proofs.lemmas.List.{length-map}
use Rattle.lw_net.specs.Signs.{asked}
use Rattle.lw_laws.specs.Forms.{Form}
use Rattle.lw_laws.specs.Signals.{factored, sum_of_products}
use Rattle.lw_form.specs.Products.{HaveColumns}
use Rattle.lw_form.specs.Tables.{Table, made, forms_at, HasMore, IsMadeAs}
use Rattle.lw_form.proofs.Joining.{below_kept_more, form_kept, more_length, more_twice}
use Rattle.lw_form.proofs.Rows.{sum_one}
use Rattle.lw_form.proofs.FactoringSteps.{one_shared, flat_made, factored_made}
use Rattle.lw_form.proofs.maker.Fanins.both_forms.Goals as goal

-- the rows, where there is one alone
one_row : (cubes : List (List ℕ)) (cube signs : List ℕ) → length cubes ≡ 1 → cube ≡ get_or cubes 0 cube → signs ≡ cube → map (map asked) cubes ≡ map asked signs ∷ []
one_row [] cube signs one is same = absurd (omega arith)
one_row (x ∷ []) cube signs one is same = ap (λ s. map asked s ∷ []) (sym (same ∙ is))
one_row (x ∷ y ∷ cubes) cube signs one is same = absurd (omega arith)

-- what was made stays, while more is made
made_still : (old mid new : Table) (n : ℕ) (f : Form) → HasMore (made mid) (made new) → IsMadeAs old mid n f → IsMadeAs old new n f
made_still old mid new n f more m = record {
  more = more_twice (made old) (made mid) (made new) m.more more;
  within = let lt = m.within in let le = more_length (made mid) (made new) more in omega arith;
  is = form_kept (made mid) (made new) n more m.within ∙ m.is;
}

pub product-requires-clause-fanins : goal.product-requires-clause-fanins
product-requires-clause-fanins c = c.requires.below

pub product-requires-clause-columns : goal.product-requires-clause-columns
product-requires-clause-columns c =
    sym (length-map c.as_slice.result.now asked) ∙ (subst (HaveColumns (length c.args.self.now.forms.now)) (one_row c.args.cubes.now c.index-cubes-0.result c.as_slice.result.now c.if-cubes-eq1.true c.index-cubes-0.is c.as_slice.ensures.bytes) c.requires.columns).0

pub returns-then-cubes-eq1 : goal.returns-then-cubes-eq1
returns-then-cubes-eq1 c = record {
  sop = sum_one c.args.self.now.maker.now.width c.args.self.now.maker.now.wide.low c.args.table.now c.product.new.table c.len-count.ensures.made c.args.self.now.forms.now (map asked c.as_slice.result.now) (map (map asked) c.args.cubes.now) c.in_ok-form.form (one_row c.args.cubes.now c.index-cubes-0.result c.as_slice.result.now c.if-cubes-eq1.true c.index-cubes-0.is c.as_slice.ensures.bytes) c.in_ok-form.ensures;
  fac = let row = one_row c.args.cubes.now c.index-cubes-0.result c.as_slice.result.now c.if-cubes-eq1.true c.index-cubes-0.is c.as_slice.ensures.bytes in
      flat_made c.args.self.now.maker.now.width c.args.table.now c.product.new.table c.args.self.now.forms.now (map (map asked) c.args.cubes.now) c.in_ok-form.form (one_shared (length c.args.self.now.forms.now) (map asked c.as_slice.result.now) (map (map asked) c.args.cubes.now) row)
      (sum_one c.args.self.now.maker.now.width c.args.self.now.maker.now.wide.low c.args.table.now c.product.new.table c.len-count.ensures.made c.args.self.now.forms.now (map asked c.as_slice.result.now) (map (map asked) c.args.cubes.now) c.in_ok-form.form row c.in_ok-form.ensures);
}

pub sum_of_products-requires : goal.sum_of_products-requires
sum_of_products-requires c = record {
  below = c.requires.below;
  columns = subst (HaveColumns (length c.args.self.now.forms.now)) (sym (c.deref.ensures.value ∙ c.in_ok-rows.ensures)) c.requires.columns;
}

pub factored-requires : goal.factored-requires
factored-requires c = record {
  below = below_kept_more (made c.args.table.now) (made c.sum_of_products.new.table) c.args.self.now.forms.now c.in_ok-sop.ensures.more c.requires.below;
  columns = subst (HaveColumns (length c.args.self.now.forms.now)) (sym c.in_ok-rows.ensures) c.requires.columns;
}

pub returns : goal.returns
returns c = record {
  sop = made_still c.args.table.now c.sum_of_products.new.table c.factored.new.table c.in_ok-sop.sop (sum_of_products c.args.self.now.maker.now.width (forms_at (made c.args.table.now) c.args.self.now.forms.now) (map (map asked) c.args.cubes.now)) c.in_ok-fac.ensures.more
      (subst (λ r. IsMadeAs c.args.table.now c.sum_of_products.new.table c.in_ok-sop.sop (sum_of_products c.args.self.now.maker.now.width (forms_at (made c.args.table.now) c.args.self.now.forms.now) r)) (c.deref.ensures.value ∙ c.in_ok-rows.ensures) c.in_ok-sop.ensures);
  fac = factored_made c.args.self.now.maker.now.width c.args.table.now c.sum_of_products.new.table c.factored.new.table c.args.self.now.forms.now (map (map asked) c.args.cubes.now) c.in_ok-fac.fac c.in_ok-sop.ensures.more c.requires.below
      (subst (λ r. IsMadeAs c.sum_of_products.new.table c.factored.new.table c.in_ok-fac.fac (factored c.args.self.now.maker.now.width (forms_at (made c.sum_of_products.new.table) c.args.self.now.forms.now) r)) c.in_ok-rows.ensures c.in_ok-fac.ensures);
}
