use Rattle.std.proofs.Common.{ℕ, ◌≡◌, ◌+◌, ◌<◌, ◌≤◌, ◌⊎◌, ◌∙◌, inl, inr, length, map, slice_index, refl, sym, ap, subst, arith}
use Rattle.std.specs.Vec.{with_items}
use Rattle.std.proofs.lemmas.List.{with_items_is}
use Rattle.lw_bounds.specs.Numbers.{AreStarts, never, number_from, start_of}
use Rattle.lw_bounds.specs.Bounds.{BoundsState, AreApart}
use Rattle.lw_bounds.proofs.Lessening.{rows_but}
use Rattle.lw_bounds.proofs.Renewed.{other_numbers, never_from}
use Rattle.lw_bounds.proofs.bounds.Bounds.forget.Goals as goal

pub put_row-requires : goal.put_row-requires
put_row-requires c =
    let b = c.self.inside in
    let there : c.start_of-start.result ≡ start_of b.rows.starts.items c.args.class.0 = c.start_of-start.ensures ∙ ap (λ starts. start_of starts c.args.class.0) c.deref.ensures.value in
    let width : length c.deref-then-start.result.now ≡ length b.sides.parts.keys = omega (arith, c.deref-then-start.ensures.len, c.fill.ensures.len, b.rows.least.ok.0, c.self.invariant.least_room) in
    let size = ap length c.deref_mut.ensures.value in
    let rows = subst (λ (b : BoundsState). AreStarts (length b.parts) b.starts (length b.numbers)) (sym c.self.view_is) c.requires.rows in
    elim (rows c.args.class.0) [
      | inl none ↦ absurd (c.if-start.true (there ∙ none))
      | inr le ↦ record { within = omega (arith, le, there, width, size) }
    ]

pub invariant_of-self : goal.invariant_of-self
invariant_of-self c = record {
  grouped = c.self.invariant.grouped;
  least_room = omega (arith, c.fill.ensures.len, c.fill.new.self.ok.0, c.self.inside.rows.least.ok.0, c.self.invariant.least_room);
  roots_listed = c.self.invariant.roots_listed;
}

pub returns-then-start-clause-others : goal.returns-then-start-clause-others
returns-then-start-clause-others c =
    let b = c.self.inside in
    let put = c.put_row in
    let class = c.args.class.0 in
    let v : BoundsState = record { parts = b.sides.parts.keys; gaps = b.gaps.items; sides = map (λ side. side.items) b.sides.all.items; roots = b.sides.roots.items; starts = b.rows.starts.items; numbers = b.rows.numbers.items } in
    let there : c.start_of-start.result ≡ start_of b.rows.starts.items class = c.start_of-start.ensures ∙ ap (λ starts. start_of starts class) c.deref.ensures.value in
    let width : length c.deref-then-start.result.now ≡ length b.sides.parts.keys = omega (arith, c.deref-then-start.ensures.len, c.fill.ensures.len, b.rows.least.ok.0, c.self.invariant.least_room) in
    let kept = with_items_is b.rows.numbers put.new.numbers (omega (arith, put.auto.numbers, c.deref_mut.ensures.len)) in
    let apart = subst (λ (b : BoundsState). AreApart (length b.parts) b.starts) (sym c.self.view_is) c.requires.apart in
    let outside : (k : ℕ) → (k < start_of b.rows.starts.items class) ⊎ (start_of b.rows.starts.items class + length b.sides.parts.keys ≤ k) → slice_index (with_items b.rows.numbers put.new.numbers).items k ≡ slice_index b.rows.numbers.items k = subst (λ (s : ℕ). (k : ℕ) → (k < s) ⊎ (s + length b.sides.parts.keys ≤ k) → slice_index (with_items b.rows.numbers put.new.numbers).items k ≡ slice_index b.rows.numbers.items k) there (subst (λ (w : ℕ). (k : ℕ) → (k < c.start_of-start.result) ⊎ (c.start_of-start.result + w ≤ k) → slice_index (with_items b.rows.numbers put.new.numbers).items k ≡ slice_index b.rows.numbers.items k) width (λ k out. ap (λ ns. slice_index ns k) kept ∙ (put.ensures.others k out ∙ ap (λ ns. slice_index ns k) c.deref_mut.ensures.value))) in
    other_numbers class v c.args.self.now (with_items b.rows.numbers put.new.numbers).items c.self.view_is (ap length kept ∙ (put.auto.numbers ∙ ap length c.deref_mut.ensures.value)) (rows_but (length b.sides.parts.keys) class b.rows.starts.items b.rows.numbers.items (with_items b.rows.numbers put.new.numbers).items apart (λ e. c.if-start.true (there ∙ e)) outside)

pub returns-then-start-clause-never : goal.returns-then-start-clause-never
returns-then-start-clause-never c =
    let b = c.self.inside in
    let put = c.put_row in
    let class = c.args.class.0 in
    let start = start_of b.rows.starts.items class in
    let there : c.start_of-start.result ≡ start = c.start_of-start.ensures ∙ ap (λ starts. start_of starts class) c.deref.ensures.value in
    let kept = with_items_is b.rows.numbers put.new.numbers (omega (arith, put.auto.numbers, c.deref_mut.ensures.len)) in
    let row : (n : ℕ) → n < length b.sides.parts.keys → slice_index put.new.numbers (c.start_of-start.result + n) ≡ never = λ n lt. put.ensures.row n (omega (arith, lt, c.deref-then-start.ensures.len, c.fill.ensures.len, b.rows.least.ok.0, c.self.invariant.least_room)) ∙ (ap (λ ns. slice_index ns n) c.deref-then-start.ensures.value ∙ c.fill.ensures.clones n 0 (omega (arith, lt, b.rows.least.ok.0, c.self.invariant.least_room)) refl) in
    subst (λ (t : BoundsState). (n : ℕ) → n < length t.parts → number_from (with_items b.rows.numbers put.new.numbers).items n (start_of t.starts class) ≡ never) c.self.view_is (λ n lt. never_from (with_items b.rows.numbers put.new.numbers).items n start (ap (λ ns. slice_index ns (start + n)) kept ∙ (ap (λ s. slice_index put.new.numbers (s + n)) (sym there) ∙ row n lt)))
