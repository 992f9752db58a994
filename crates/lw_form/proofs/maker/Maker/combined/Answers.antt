use Rattle.std.proofs.Common.{ℕ, zero, suc, ◌≡◌, ◌≤◌, ◌==◌, ◌∙◌, false, true≢false, sym, arith, eqb-true}
use Rattle.std.proofs.lemmas.List.{nil_from_length}
use Rattle.lw_form.proofs.Joining.{done_false, done_true, done_few, go_again, kept_below, clean_kept}
use Rattle.lw_form.proofs.maker.Maker.combined.Goals as goal

some_there : (n : ℕ) → false ≡ (n == 0) → 1 ≤ n
some_there zero e = absurd (true≢false (sym e))
some_there (suc n) e = omega arith

pub returns-then-clash : goal.returns-then-clash
returns-then-clash c = λ forms below is.
    done_false c.args.self.now.width c.args.self.now.wide.low c.args.table.now c.len-count.ensures.made forms c.args.kept.now below is (sym c.requires.clash ∙ c.if-clash.true)

pub returns-then-is_empty : goal.returns-then-is_empty
returns-then-is_empty c = λ forms below is.
    done_true c.args.self.now.width c.args.self.now.wide.low c.args.table.now c.len-count.ensures.made forms c.args.kept.now below is (nil_from_length c.args.kept.now (eqb-true _ _ (sym c.if-is_empty.ensures)))

pub joined-requires : goal.joined-requires
joined-requires c = record {
  some = some_there _ (sym c.if-is_empty.false ∙ c.is_empty.ensures);
  few = let l = c.if-kept-self.true in let h = c.args.self.now.wide.high in omega arith;
  below = let (forms, below, is) = c.requires.kept in
      kept_below c.args.self.now.width c.args.self.now.wide.low c.args.table.now c.len-count.ensures.made forms c.args.kept.now below is;
  clean = let (forms, below, is) = c.requires.kept in
      clean_kept c.args.self.now.width c.args.self.now.wide.low c.args.table.now c.len-count.ensures.made forms c.args.kept.now below is (sym c.requires.clash ∙ c.if-clash.false);
}

pub returns-then-kept-self : goal.returns-then-kept-self
returns-then-kept-self c = λ forms below is.
    done_few c.args.self.now.width c.args.self.now.wide.low c.args.table.now c.len-count.ensures.made forms c.args.kept.now below is c.joined.new.table c.in_ok-joined.field-0 (c.in_ok-joined.ensures c.args.self.now.width c.args.self.now.wide.low c.if-kept-self.true)

pub grouped-requires : goal.grouped-requires
grouped-requires c = record {
  some = some_there _ (sym c.if-is_empty.false ∙ c.is_empty.ensures);
  below = let (forms, below, is) = c.requires.kept in
      kept_below c.args.self.now.width c.args.self.now.wide.low c.args.table.now c.len-count.ensures.made forms c.args.kept.now below is;
  clean = let (forms, below, is) = c.requires.kept in
      clean_kept c.args.self.now.width c.args.self.now.wide.low c.args.table.now c.len-count.ensures.made forms c.args.kept.now below is (sym c.requires.clash ∙ c.if-clash.false);
}

pub returns : goal.returns
returns c = λ forms below is.
    go_again c.args.self.now.width c.args.self.now.wide.low c.args.table.now c.len-count.ensures.made forms c.args.kept.now below is c.grouped.new.table c.in_ok-grouped.field-0.items (sym c.requires.clash ∙ c.if-clash.false) c.if-kept-self.false c.in_ok-grouped.ensures
