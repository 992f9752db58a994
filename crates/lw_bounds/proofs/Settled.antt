-- A table that is settled at each class is one of bounds.
use Rattle.std.proofs.Common.{ℕ, ◌⊎◌, ◌+◌, ◌-◌, ◌<◌, ◌≤◌, ◌≡◌, Bool, true, false, not, if◌then◌else◌, List, length, min, max, Option, Some, None, option_map, slice_get, slice_index, slice_index_or, refl, sym, ap, subst, ◌∙◌, inl, inr, arith}
use Rattle.std.proofs.lemmas.Option.{slice_get_within}
use Rattle.std.proofs.lemmas.Bool.{eq-eqb}
use Rattle.lw_laws.specs.Flip.{flip}
use Rattle.lw_laws.proofs.Flips.{flip-flip}
use Rattle.lw_laws.specs.Graphs.{Graph, HoldsPair, Stands}
use Rattle.lw_laws.specs.Trees.{Tree, leaf, const_one, const_zero, inv, nand}
use Rattle.lw_laws.specs.Marks.{Mark as PlainMark}
use Rattle.lw_cost.specs.declared.mark.Mark.{Mark}
use Rattle.lw_bounds.specs.declared.parts.Kind.TheVariants.{Any, Leaf, One, Joined}
use Rattle.lw_bounds.specs.declared.parts.Side.{Side}
use Rattle.lw_bounds.specs.declared.parts.Part.{Part}
use Rattle.lw_cost.specs.Values.{plain_mark, marks_in}
use Rattle.lw_bounds.specs.Shapes.{plain, turned, HasPin, IsPinned, HasShape}
use Rattle.lw_bounds.specs.Numbers.{never, shifted, mark_number, Reading, kind_number, side_number}
use Rattle.lw_bounds.specs.Bounds.{BoundsState, bounds_reading, AreSettledAt, AreMarkedWithin, BoundsTree, AreBounds, SettledBoundsAreBounds, BoundsOfFewer}
use Rattle.lw_laws.proofs.Shared.{pair_within}

-- what is shown of a side of a tree that stands by pins within the top: its number is finite, and with the base it is not
-- above the top, or it is 0, as is that of a side without pins
record IsBelow (r : Reading) (s : Side) (c base top : ℕ) : Type 0 where
  finite : side_number r s c < never
  low : (side_number r s c ≡ 0) ⊎ (side_number r s c + base ≤ top)
  pinned : HasPin s.kind → side_number r s c + base ≤ top

-- a side without pins whose number is 0
bare_below : (r : Reading) (s : Side) (c base top : ℕ) → (HasPin s.kind → ⊥) → side_number r s c ≡ 0 → IsBelow r s c base top
bare_below r s c base top bare is =
    record { finite = omega arith; low = inl is; pinned = λ h. absurd (bare h) }

any_below : (r : Reading) (s : Side) (c base top : ℕ) → s.kind ≡ Any → IsBelow r s c base top
any_below r s c base top e = bare_below r s c base top (λ h. subst HasPin e h) (ap (λ k. kind_number r k (if s.flipped then flip c else c)) e)

leaf_below : (o : Option Mark) (base d gap : ℕ) (m : PlainMark) (top : ℕ) → option_map plain_mark o ≡ Some m → base + d ≡ gap → m.cost + gap ≤ top → (shifted (mark_number o) d < never) × (shifted (mark_number o) d + base ≤ top)
leaf_below None base d gap m top e is le = cc
leaf_below (Some k) base d gap m top e is le =
    let same : plain_mark k ≡ m = cc in
    let cost : k.cost ≡ m.cost = ap (λ (m : PlainMark). m.cost) same in
    (omega arith, omega arith)

one_number : (r : Reading) (c : ℕ) → c ≡ r.one → kind_number r One c ≡ 0
one_number r c e = ap (λ (b : Bool). if b then 0 else never) (eq-eqb c r.one e)

-- the complement of a side at the complement of a class
turned_number : (r : Reading) (s : Side) (c : ℕ) → side_number r (turned s) (flip c) ≡ side_number r s c
turned_number r s c = by_flag s.flipped
  where
    by_flag : (b : Bool) → kind_number r s.kind (if not b then flip (flip c) else flip c) ≡ kind_number r s.kind (if b then flip c else c)
    by_flag true = refl
    by_flag false = ap (kind_number r s.kind) (flip-flip c)

-- where the tree stands by pins within a top, the side's number is below it
abbrev IsLow : Graph → Reading → List ℕ → ℕ → Tree → Side → Type 0
IsLow g r gaps base t s =
    (c : ℕ) (ps : List ℕ) (top : ℕ) → Stands g ps t c → AreMarkedWithin r.marks gaps ps top → IsBelow r s c base top

module _ (g : Graph) (r : Reading) (one : r.one ≡ g.one) (gaps : List ℕ) (base : ℕ) where
  low_leaf : (k : ℕ) (s : Side) → (s.kind ≡ Any) ⊎ ((d : ℕ) × (s ≡ plain (Leaf d)) × (base + d ≡ slice_index gaps k)) → IsLow g r gaps base (leaf k) s
  low_leaf k s (inl e) c ps top stands marked = any_below r s c base top e
  low_leaf k s (inr (d, e, gap)) c ps top stands marked =
      let (m, is, le) = marked k c stands in
      let (finite, below) = leaf_below (slice_index_or r.marks c None) base d (slice_index gaps k) m top is gap le in
      subst (λ s. IsBelow r s c base top) (sym e) (record { finite = finite; low = inr below; pinned = λ h. below })

  low_one : (s : Side) → (s.kind ≡ Any) ⊎ (s ≡ plain One) → IsLow g r gaps base const_one s
  low_one s (inl e) c ps top stands marked = any_below r s c base top e
  low_one s (inr e) c ps top stands marked =
      subst (λ s. IsBelow r s c base top) (sym e) (bare_below r (plain One) c base top (λ h. h) (one_number r c (stands ∙ sym one)))

  low_zero : (s : Side) → (s.kind ≡ Any) ⊎ (s ≡ turned (plain One)) → IsLow g r gaps base const_zero s
  low_zero s (inl e) c ps top stands marked = any_below r s c base top e
  low_zero s (inr e) c ps top stands marked =
      subst (λ s. IsBelow r s c base top) (sym e) (bare_below r (turned (plain One)) c base top (λ h. h) (one_number r (flip c) (ap flip stands ∙ (flip-flip g.one ∙ sym one))))

  low_inv : (t : Tree) (s : Side) → IsLow g r gaps base t (turned s) → IsLow g r gaps base (inv t) s
  low_inv t s h c ps top stands marked =
      let below = h (flip c) ps top stands marked in
      let same = turned_number r s c in
      record {
        finite = subst (λ (n : ℕ). n < never) same below.finite;
        low = subst (λ (n : ℕ). (n ≡ 0) ⊎ (n + base ≤ top)) same below.low;
        pinned = λ pin. subst (λ (n : ℕ). n + base ≤ top) same (below.pinned pin);
      }

pub turned_pair : (g : Graph) (c x y : ℕ) → HoldsPair g c x y → HoldsPair g c y x
turned_pair g c x y (inl i) = inr i
turned_pair g c x y (inr i) = inl i

both_low : (m n base top : ℕ) → (m ≡ 0) ⊎ (m + base ≤ top) → (n ≡ 0) ⊎ (n + base ≤ top) → base ≤ top → max m n + base ≤ top
both_low m n base top (inl e) (inl f) le = omega arith
both_low m n base top (inl e) (inr f) le = omega arith
both_low m n base top (inr e) (inl f) le = omega arith
both_low m n base top (inr e) (inr f) le = omega arith

module _ (b : BoundsState) (g : Graph) (marks : List (Option Mark)) (settled : (c : ℕ) → c < length g.pairs → AreSettledAt b g marks c) where
  abbrev r : Reading
  r = bounds_reading b g marks

  -- one way round a NAND
  both_sides : (n d : ℕ) (p : Part) (c x y base top : ℕ) → slice_get b.parts n ≡ Some p → IsPinned p → HoldsPair g c x y → IsBelow r p.left x (base + d) top → IsBelow r p.right y (base + d) top → IsBelow r (plain (Joined n d)) c base top
  both_sides n d p c x y base top e pin h left right =
      let le = settled c (pair_within g c x y h) n (slice_get_within b.parts n p e) p x y e h in
      let reached : base + d ≤ top = elim pin [
        | inl k ↦ let l = left.pinned k in omega arith
        | inr k ↦ let l = right.pinned k in omega arith
      ] in
      let most = both_low (side_number r p.left x) (side_number r p.right y) (base + d) top left.low right.low reached in
      let one = left.finite in
      let other = right.finite in
      let below : side_number r (plain (Joined n d)) c + base ≤ top = omega arith in
      record { finite = omega arith; low = inr below; pinned = λ k. below }

  bounded : (gaps : List ℕ) (base : ℕ) (t : Tree) (s : Side) → HasShape b.parts gaps base t s → IsLow g r gaps base t s
  bounded gaps base (leaf k) s h = low_leaf g r refl gaps base k s h
  bounded gaps base const_one s h = low_one g r refl gaps base s h
  bounded gaps base const_zero s h = low_zero g r refl gaps base s h
  bounded gaps base (inv t) s h = low_inv g r refl gaps base t s (bounded gaps base t (turned s) h)
  bounded gaps base (nand t u) s (inl e) = λ c ps top stands marked. any_below r s c base top e
  bounded gaps base (nand t u) s (inr (n, d, p, e, at, pin, inl (left, right))) = λ c ps top (x, y, h, l, k) marked.
      subst (λ s. IsBelow r s c base top) (sym e)
      (both_sides n d p c x y base top at pin h (bounded gaps (base + d) t p.left left x ps top l marked) (bounded gaps (base + d) u p.right right y ps top k marked))
  bounded gaps base (nand t u) s (inr (n, d, p, e, at, pin, inr (right, left))) = λ c ps top (x, y, h, l, k) marked.
      subst (λ s. IsBelow r s c base top) (sym e)
      (both_sides n d p c y x base top at pin (turned_pair g c x y h) (bounded gaps (base + d) u p.left left y ps top k marked) (bounded gaps (base + d) t p.right right x ps top l marked))

within_top : (n top : ℕ) → n < never → (n ≡ 0) ⊎ (n + 0 ≤ top) → n ≤ min top (never - 1)
within_top n top finite (inl e) = omega arith
within_top n top finite (inr le) = omega arith

low_bounds : (g : Graph) (r : Reading) (gaps : List ℕ) (t : Tree) (s : Side) → IsLow g r gaps 0 t s → BoundsTree g r gaps t s
low_bounds g r gaps t s h c ps top stands marked =
    let below = h c ps top stands marked in
    within_top (side_number r s c) top below.finite below.low

pub settled_bounds_are_bounds : SettledBoundsAreBounds
settled_bounds_are_bounds b pats g marks is fits settled gaps t s h =
    low_bounds g (bounds_reading b g marks) gaps t s (bounded b g marks settled gaps 0 t s h)

module _ (b : BoundsState) (g : Graph) (marks fewer : List (Option Mark)) (bounds : AreBounds b g marks) (same : (c : ℕ) (k : PlainMark) → marks_in fewer c ≡ Some k → (m : PlainMark) × (marks_in marks c ≡ Some m) × (m.cost ≡ k.cost)) where
  marked_too : (gaps ps : List ℕ) (top : ℕ) → AreMarkedWithin fewer gaps ps top → AreMarkedWithin marks gaps ps top
  marked_too gaps ps top marked k c e =
      let (m, is, le) = marked k c e in
      let (n, has, cost) = same c m is in
      (n, has, omega arith)

  fewer_bounded : (gaps : List ℕ) (t : Tree) (s : Side) → HasShape b.parts gaps 0 t s → BoundsTree g (bounds_reading b g fewer) gaps t s
  fewer_bounded gaps (leaf k) s h = low_bounds g (bounds_reading b g fewer) gaps (leaf k) s (low_leaf g (bounds_reading b g fewer) refl gaps 0 k s h)
  fewer_bounded gaps const_one s h = low_bounds g (bounds_reading b g fewer) gaps const_one s (low_one g (bounds_reading b g fewer) refl gaps 0 s h)
  fewer_bounded gaps const_zero s h = low_bounds g (bounds_reading b g fewer) gaps const_zero s (low_zero g (bounds_reading b g fewer) refl gaps 0 s h)
  fewer_bounded gaps (inv t) s h = λ c ps top stands marked.
      subst (λ n. n ≤ min top (never - 1)) (turned_number (bounds_reading b g fewer) s c) (fewer_bounded gaps t (turned s) h (flip c) ps top stands marked)
  fewer_bounded gaps (nand t u) s (inl e) = λ c ps top stands marked.
      within_top (side_number (bounds_reading b g fewer) s c) top (any_below (bounds_reading b g fewer) s c 0 top e).finite (any_below (bounds_reading b g fewer) s c 0 top e).low
  fewer_bounded gaps (nand t u) s (inr (n, d, p, e, at, pin, sides)) = λ c ps top stands marked.
      subst (λ s. side_number (bounds_reading b g fewer) s c ≤ min top (never - 1)) (sym e)
      (bounds gaps (nand t u) (plain (Joined n d)) (inr (n, d, p, refl, at, pin, sides)) c ps top stands (marked_too gaps ps top marked))

pub bounds_of_fewer : BoundsOfFewer
bounds_of_fewer b g marks fewer bounds same gaps t s h = fewer_bounded b g marks fewer bounds same gaps t s h
