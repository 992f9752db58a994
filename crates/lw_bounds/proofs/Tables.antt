-- Tables in which only the numbers of some classes are others.
use Rattle.std.proofs.Common.{ℕ, ◌+◌, ◌<◌, ◌≡◌, ◌⊎◌, inl, inr, Bool, true, false, if◌then◌else◌, eqb-true, true≢false, List, [], length, Option, None, slice_index_or, refl, sym, ap, subst, ◌∙◌, arith}
use Rattle.std.specs.Prelude.{◌==◌}
use Rattle.std.proofs.lemmas.Bool.{eq-eqb}
use Rattle.std.proofs.lemmas.Option.{slice_get_within}
use Rattle.lw_laws.specs.Flip.{flip}
use Rattle.lw_laws.specs.Graphs.{Graph, HoldsPair}
use Rattle.lw_laws.specs.Covers.{Pattern}
use Rattle.lw_cost.specs.declared.mark.Mark.{Mark}
use Rattle.lw_bounds.specs.declared.parts.Kind.{Kind}
use Rattle.lw_bounds.specs.declared.parts.Kind.TheVariants.{Any, Leaf, One, Joined}
use Rattle.lw_bounds.specs.declared.parts.Side.{Side}
use Rattle.lw_bounds.specs.declared.parts.Part.{Part}
use Rattle.lw_bounds.specs.Shapes.{KindFits, SideFits, AreClosed}
use Rattle.lw_bounds.specs.Numbers.{shifted, mark_number, number_from, no_row, start_of, kind_number, class_below, side_number}
use Rattle.lw_bounds.specs.Bounds.{AreBare, AreLowered, AreRows, AreRowsBut, AreSettledAt, AreZero, BoundsFit, BoundsState, IsTableBut, bounds_reading, reading_of, with_numbers}
use Rattle.lw_bounds.proofs.CutsOfBounds.{fits_with}
use Rattle.lw_bounds.proofs.Lessening.{number_at}

-- the table fits as before
pub fits_but : (at : ℕ → Type 0) (old new : BoundsState) (pats : List Pattern) (g : Graph) → IsTableBut at old new → BoundsFit old pats g → BoundsFit new pats g
fits_but at old new pats g but fits =
    subst (λ (b : BoundsState). BoundsFit b pats g) (sym but.table) (fits_with old pats g new.numbers but.size fits)

pub rows_fit_but : (at : ℕ → Type 0) (old new : BoundsState) (g : Graph) → IsTableBut at old new → AreRows old.parts old.starts old.numbers g → AreRows new.parts new.starts new.numbers g
rows_fit_but at old new g but rows =
    subst (λ (b : BoundsState). AreRows b.parts b.starts b.numbers g) (sym but.table) (record {
      closed = rows.closed;
      rows = λ c. elim (rows.rows c) [ inl e ↦ inl e | inr le ↦ inr (omega (arith, le, but.size)) ];
      bare = rows.bare;
      apart = rows.apart;
    })

-- the same table
pub but_same : (at : ℕ → Type 0) (b : BoundsState) → IsTableBut at b b
but_same at b = record { table = refl; size = refl; others = λ n c below out. refl }

-- one change after another
pub but_both : (first second at : ℕ → Type 0) (old mid new : BoundsState) → ((c : ℕ) → first c → at c) → ((c : ℕ) → second c → at c) → IsTableBut first old mid → IsTableBut second mid new → IsTableBut at old new
but_both first second at old mid new from to one two = record {
  table = two.table ∙ ap (λ (b : BoundsState). with_numbers b new.numbers) one.table;
  size = two.size ∙ one.size;
  others = λ n c below out. later n c below (λ here. out (to c here)) ∙ one.others n c below (λ here. out (from c here));
}
  where
    later : (n c : ℕ) → n < length old.parts → (second c → ⊥) → number_from new.numbers n (start_of old.starts c) ≡ number_from mid.numbers n (start_of old.starts c)
    later = subst (λ (b : BoundsState). AreRowsBut (length b.parts) b.starts second mid.numbers new.numbers) one.table two.others

module _ (g : Graph) (parts : List Part) (starts olds news : List ℕ) (old new : List (Option Mark)) (at : ℕ → Type 0) (rows : AreRowsBut (length parts) starts at olds news) (same : (c : ℕ) → (at c → ⊥) → slice_index_or new c None ≡ slice_index_or old c None) where
  kind_kept : (k : Kind) (c : ℕ) → KindFits (length parts) k → (at c → ⊥) → kind_number (reading_of g new parts starts news) k c ≡ kind_number (reading_of g old parts starts olds) k c
  kind_kept Any c fits out = refl
  kind_kept (Leaf d) c fits out = ap (λ (o : Option Mark). shifted (mark_number o) d) (same c out)
  kind_kept One c fits out = refl
  kind_kept (Joined n d) c fits out = ap (λ (m : ℕ). shifted m d) (rows n c fits out)

  -- the number of a side at a class that is none of them, and nor is its complement
  side_kept : (s : Side) (c : ℕ) → SideFits (length parts) s → (at c → ⊥) → (at (flip c) → ⊥) → side_number (reading_of g new parts starts news) s c ≡ side_number (reading_of g old parts starts olds) s c
  side_kept s c fits out turned = kind_kept s.kind (class_below s c) fits (by_flag s.flipped)
    where
      by_flag : (b : Bool) → at (if b then flip c else c) → ⊥
      by_flag true = turned
      by_flag false = out

  -- numbers that are not above what the pairs gave, where the classes of the pairs are none of them
  pub lowered_kept : (c : ℕ) → AreClosed parts → ((x y : ℕ) → HoldsPair g c x y → (at x → ⊥) × (at (flip x) → ⊥) × (at y → ⊥) × (at (flip y) → ⊥)) → AreLowered g (reading_of g old parts starts olds) parts news c → AreLowered g (reading_of g new parts starts news) parts news c
  lowered_kept c closed out low n p x y listed h =
      let (left, right) = closed n p listed in
      let (out_x, turned_x, out_y, turned_y) = out x y h in
      let one = side_kept p.left x left out_x turned_x in
      let other = side_kept p.right y right out_y turned_y in
      let le = low n p x y listed h in
      omega (arith, le, one, other)

-- the numbers of a settled class
pub settled_low : (b : BoundsState) (g : Graph) (marks : List (Option Mark)) (c : ℕ) → AreSettledAt b g marks c → AreLowered g (bounds_reading b g marks) b.parts b.numbers c
settled_low b g marks c settled n p x y listed h =
    settled n (slice_get_within b.parts n p listed) p x y listed h

module _ (g : Graph) (old new : BoundsState) (marks others : List (Option Mark)) (at : ℕ → Type 0) (but : IsTableBut at old new) (same : (c : ℕ) → (at c → ⊥) → slice_index_or others c None ≡ slice_index_or marks c None) (closed : AreClosed old.parts) (c : ℕ) (out : (x y : ℕ) → HoldsPair g c x y → (at x → ⊥) × (at (flip x) → ⊥) × (at y → ⊥) × (at (flip y) → ⊥)) where
  -- a class whose numbers are not above what the pairs gave
  pub lowered_settled : AreLowered g (bounds_reading old g marks) old.parts new.numbers c → AreSettledAt new g others c
  lowered_settled low =
      subst (λ (b : BoundsState). AreSettledAt b g others c) (sym but.table) (λ n below p x y listed h. lowered_kept g old.parts old.starts old.numbers new.numbers marks others at but.others same c closed out low n p x y listed h)

  -- a class that was settled
  pub settled_kept : (at c → ⊥) → AreSettledAt old g marks c → AreSettledAt new g others c
  settled_kept apart settled = lowered_settled (λ n p x y listed h.
      let le = settled_low old g marks c settled n p x y listed h in
      let e = but.others n c (slice_get_within old.parts n p listed) apart in
      omega (arith, le, e))

-- numbers that are 0 are settled
pub zero_settled : (b : BoundsState) (g : Graph) (marks : List (Option Mark)) (c : ℕ) → ((n : ℕ) → n < length b.parts → number_from b.numbers n (start_of b.starts c) ≡ 0) → AreSettledAt b g marks c
zero_settled b g marks c zero n below p x y listed h = let e = zero n below in omega (arith, e)

-- in a table of zeros the numbers of each class are 0, or it has no pairs
pub zero_or_bare : (b : BoundsState) (g : Graph) (c : ℕ) → AreBare b.starts g → AreZero b.numbers → ((n : ℕ) → n < length b.parts → number_from b.numbers n (start_of b.starts c) ≡ 0) ⊎ (slice_index_or g.pairs c [] ≡ [])
zero_or_bare b g c bare zero = by_test (start_of b.starts c == no_row) refl
  where
    by_test : (t : Bool) → (start_of b.starts c == no_row) ≡ t → ((n : ℕ) → n < length b.parts → number_from b.numbers n (start_of b.starts c) ≡ 0) ⊎ (slice_index_or g.pairs c [] ≡ [])
    by_test true e = inr (bare c (eqb-true (start_of b.starts c) no_row e))
    by_test false e = inl (λ n below. number_at b.numbers n (start_of b.starts c) (λ f. true≢false (sym (eq-eqb (start_of b.starts c) no_row f) ∙ e)) ∙ zero (start_of b.starts c + n))
