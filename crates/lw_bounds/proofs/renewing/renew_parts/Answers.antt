use Rattle.std.proofs.Common.{ℕ, ◌+◌, ◌<◌, ◌≤◌, ◌≡◌, ◌⊎◌, length, Some, slice_get, slice_index, refl, sym, ap, subst, ◌∙◌, arith, true≢false, eqb-true}
use Rattle.std.specs.List.{slice_range}
use Rattle.lw_graph.specs.declared.pair.Pair.{Pair}
use Rattle.lw_bounds.specs.declared.parts.Part.{Part}
use Rattle.lw_bounds.specs.Numbers.{Reading, pair_number, no_row, start_of}
use Rattle.lw_bounds.specs.Bounds.{reading_of, total}
use Rattle.lw_bounds.proofs.Lessening.{none_lowered, row_lowered, row_same, row_there, rows_but}
use Rattle.lw_bounds.proofs.SideRows.{not_empty}
use Rattle.lw_bounds.proofs.renewing.renew_parts.Goals as goal

pub returns-then-is_empty : goal.returns-then-is_empty
returns-then-is_empty c =
    let r = c.args.renewal in
    let pairs = c.nands-pairs.result.now in
    let none : length pairs ≡ 0 = eqb-true (length pairs) 0 (sym c.is_empty.ensures ∙ c.if-is_empty.true) in
    record {
      size = refl;
      falls = λ e. absurd (true≢false (sym e));
      same = λ e. refl;
      lowered = none_lowered r.graph.now (reading_of r.graph.now r.marks.now c.args.plan.parts.now r.starts.now c.args.numbers.now) c.args.plan.parts.now r.class.0 pairs c.args.numbers.now c.nands-pairs.ensures.pairs none;
      others = λ n d below other. refl;
    }

pub returns-else-fell : goal.returns-else-fell
returns-else-fell c =
    let r = c.args.renewal in
    let parts = c.args.plan.parts.now in
    let starts = r.starts.now in
    let numbers = c.args.numbers.now in
    let lower = c.lower_by_all-fell in
    let least = lower.new.least in
    let pairs = c.nands-pairs.result.now in
    let at = c.numbers_by-at.ensures in
    let below = subst (λ (r : Reading). (i : ℕ) (q : Pair) (n : ℕ) (p : Part) → slice_get pairs i ≡ Some q → slice_get parts n ≡ Some p → slice_index least n ≤ pair_number r p q.x.0 q.y.0) at lower.ensures.lowered in
    let row : c.copy_from_slice.new.self ≡ slice_range numbers c.start_of-start.result (c.start_of-start.result + length parts) = c.copy_from_slice.ensures.after ∙ ap (λ (r : Reading). slice_range r.numbers c.start_of-start.result (c.start_of-start.result + r.width)) at in
    let has : start_of starts r.class.0 ≡ no_row → ⊥ = row_there r.graph.now starts r.class.0 pairs c.nands-pairs.ensures.pairs c.requires.rows.bare (not_empty pairs c.is_empty.result c.if-is_empty.false c.is_empty.ensures) in
    let size : length least ≡ length parts = lower.auto.least ∙ (c.copy_from_slice.ensures.len ∙ c.requires.least) in
    let same = row_same numbers least c.start_of-start.result (length parts) size (lower.ensures.lessened.same c.if-fell.false ∙ row) in
    record {
      size = refl;
      falls = λ e. absurd (true≢false (sym e ∙ c.if-fell.false));
      same = λ e. refl;
      lowered = row_lowered r.graph.now r.marks.now parts starts r.class.0 pairs numbers numbers least c.nands-pairs.ensures.pairs has size (subst (λ (s : ℕ). (k : ℕ) → k < length least → slice_index numbers (s + k) ≤ slice_index least k) c.start_of-start.ensures same) below;
      others = λ n d below other. refl;
    }

pub returns-then-fell : goal.returns-then-fell
returns-then-fell c =
    let r = c.args.renewal in
    let parts = c.args.plan.parts.now in
    let starts = r.starts.now in
    let numbers = c.args.numbers.now in
    let lower = c.lower_by_all-fell in
    let least = lower.new.least in
    let pairs = c.nands-pairs.result.now in
    let put = c.put_row in
    let at = c.numbers_by-at.ensures in
    let below = subst (λ (r : Reading). (i : ℕ) (q : Pair) (n : ℕ) (p : Part) → slice_get pairs i ≡ Some q → slice_get parts n ≡ Some p → slice_index least n ≤ pair_number r p q.x.0 q.y.0) at lower.ensures.lowered in
    let row : c.copy_from_slice.new.self ≡ slice_range numbers c.start_of-start.result (c.start_of-start.result + length parts) = c.copy_from_slice.ensures.after ∙ ap (λ (r : Reading). slice_range r.numbers c.start_of-start.result (c.start_of-start.result + r.width)) at in
    let has : start_of starts r.class.0 ≡ no_row → ⊥ = row_there r.graph.now starts r.class.0 pairs c.nands-pairs.ensures.pairs c.requires.rows.bare (not_empty pairs c.is_empty.result c.if-is_empty.false c.is_empty.ensures) in
    let size : length least ≡ length parts = lower.auto.least ∙ (c.copy_from_slice.ensures.len ∙ c.requires.least) in
    let start = c.start_of-start.result in
    let there : start ≡ start_of starts r.class.0 = c.start_of-start.ensures in
    let inside : (k : ℕ) → k < length least → slice_index put.new.numbers (start_of starts r.class.0 + k) ≤ slice_index least k = subst (λ (s : ℕ). (k : ℕ) → k < length least → slice_index put.new.numbers (s + k) ≤ slice_index least k) there (λ k lt. let e = put.ensures.row k lt in omega (arith, e)) in
    let outside = subst (λ (w : ℕ). (k : ℕ) → (k < start_of starts r.class.0) ⊎ (start_of starts r.class.0 + w ≤ k) → slice_index put.new.numbers k ≡ slice_index numbers k) size (subst (λ (s : ℕ). (k : ℕ) → (k < s) ⊎ (s + length least ≤ k) → slice_index put.new.numbers k ≡ slice_index numbers k) there put.ensures.others) in
    let less : total least < total (slice_range numbers start (start + length parts)) = subst (λ (ys : _). total least < total ys) row (lower.ensures.lessened.falls c.if-fell.true) in
    record {
      size = put.auto.numbers;
      falls = λ e. put.ensures.less (subst (λ (w : ℕ). total least < total (slice_range numbers start (start + w))) (sym size) less);
      same = λ e. absurd (true≢false (sym c.if-fell.true ∙ e));
      lowered = row_lowered r.graph.now r.marks.now parts starts r.class.0 pairs numbers put.new.numbers least c.nands-pairs.ensures.pairs has size inside below;
      others = rows_but (length parts) r.class.0 starts numbers put.new.numbers c.requires.rows.apart has outside;
    }
