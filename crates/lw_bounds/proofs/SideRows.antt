-- The numbers of sides in the lists at a class, and the rules that read them.
use Rattle.std.proofs.Common.{ℕ, ◌⊎◌, ◌+◌, ◌<◌, ◌≤◌, ◌≡◌, Bool, true, false, if◌then◌else◌, List, [], ◌∷◌, length, max, Some, None, slice_get, slice_index, slice_index_or, refl, sym, ap, subst, subst₂, ◌∙◌, inl, inr, arith}
use Rattle.std.specs.Prelude.{◌==◌}
use Rattle.std.proofs.lemmas.Option.{slice_get_within, same_Some}
use Rattle.std.proofs.lemmas.Bool.{eq-eqb, false≢true}
use native.Mathlib.Nat.{eq-or-lt_of_le}
use Rattle.lw_laws.specs.Flip.{flip}
use Rattle.lw_graph.specs.declared.pair.Pair.{Pair}
use Rattle.lw_bounds.specs.declared.parts.Kind.{Kind}
use Rattle.lw_bounds.specs.declared.parts.Kind.TheVariants.{Any, Leaf, One, Joined}
use Rattle.lw_bounds.specs.declared.parts.Side.{Side}
use Rattle.lw_bounds.specs.declared.parts.Part.{Part}
use Rattle.lw_bounds.specs.declared.parts.Rule.{Rule}
use Rattle.lw_bounds.specs.declared.parts.Group.{Group}
use Rattle.lw_bounds.specs.declared.rows.View.{View}
use Rattle.lw_bounds.specs.Shapes.{KindFits, SideFits, AreClosed}
use Rattle.lw_bounds.specs.Numbers.{never, shifted, mark_number, part_number, kind_number, side_number, pair_number, Reading}
use Rattle.lw_bounds.specs.Places.{list_by, list_of, place_by, place_of, shift_of, rule_of, AreRulesOf, AreGrouped, leaves_of, list_at, IsRow, IsView, view_number, HasSides, given, AreWithin, AreNoMore, AreNumbers}

pub leaves_are : (r : Reading) (c other a b m n : ℕ) → other ≡ flip c → a ≡ mark_number (slice_index_or r.marks c None) → b ≡ mark_number (slice_index_or r.marks other None) → m ≡ kind_number r One c → n ≡ kind_number r One other → (a ∷ b ∷ m ∷ n ∷ 0 ∷ []) ≡ leaves_of r c
leaves_are r c other a b m n flipped first second one not_one =
    let there : b ≡ mark_number (slice_index_or r.marks (flip c) None) = second ∙ ap (λ (d : ℕ). mark_number (slice_index_or r.marks d None)) flipped in
    let below : n ≡ kind_number r One (flip c) = not_one ∙ ap (kind_number r One) flipped in
    cc

-- true at a class has one of two numbers
shifted_one : (b : Bool) → shifted (if b then 0 else never) 0 ≡ (if b then 0 else never)
shifted_one true = refl
shifted_one false = refl

pub view_sides : (r : Reading) (c other : ℕ) (v : View) → other ≡ flip c → v.leaves.now ≡ leaves_of r c → ((n : ℕ) → n < r.width → slice_index_or v.row.now n never ≡ part_number r n c) → ((n : ℕ) → n < r.width → slice_index_or v.other.now n never ≡ part_number r n other) → HasSides r c v
view_sides r c other v flipped leaves row turned s fits = by_kind s.kind s.flipped fits
  where
    leaf : (place shift : ℕ) → shifted (slice_index_or v.leaves.now place never) shift ≡ shifted (slice_index_or (leaves_of r c) place never) shift
    leaf place shift = ap (λ (xs : List ℕ). shifted (slice_index_or xs place never) shift) leaves

    by_kind : (k : Kind) (b : Bool) → KindFits r.width k → shifted (slice_index_or (list_at v (list_by k b)) (place_by k b) never) (shift_of k) ≡ kind_number r k (if b then flip c else c)
    by_kind Any b h = leaf 4 0
    by_kind (Leaf d) true h = leaf 1 d
    by_kind (Leaf d) false h = leaf 0 d
    by_kind One true h = leaf 3 0 ∙ shifted_one (flip c == r.one)
    by_kind One false h = leaf 2 0 ∙ shifted_one (c == r.one)
    by_kind (Joined p d) true h =
        ap (λ (n : ℕ). shifted n d) (turned p h ∙ ap (part_number r p) flipped)
    by_kind (Joined p d) false h = ap (λ (n : ℕ). shifted n d) (row p h)

row_place : (width p : ℕ) (row : List ℕ) → IsRow width row → p < width → (length row ≡ 0 → ⊥) → p < length row
row_place width p row (inl none) lt some = absurd (some none)
row_place width p row (inr whole) lt some = omega arith

-- the place of a side is in its list, where that is not an empty row
place_within : (width : ℕ) (v : View) (s : Side) → IsView width v → SideFits width s → (length (list_at v (list_of s)) ≡ 0 → ⊥) → place_of s < length (list_at v (list_of s))
place_within width v s is fits = by_kind s.kind s.flipped fits
  where
    five : (n : ℕ) → n < 5 → n < length v.leaves.now
    five n lt = let l = is.leaves in omega arith

    by_kind : (k : Kind) (b : Bool) → KindFits width k → (length (list_at v (list_by k b)) ≡ 0 → ⊥) → place_by k b < length (list_at v (list_by k b))
    by_kind Any b h some = five 4 (omega arith)
    by_kind (Leaf d) true h some = five 1 (omega arith)
    by_kind (Leaf d) false h some = five 0 (omega arith)
    by_kind One true h some = five 3 (omega arith)
    by_kind One false h some = five 2 (omega arith)
    by_kind (Joined p d) true h some = row_place width p v.other.now is.other h some
    by_kind (Joined p d) false h some = row_place width p v.row.now is.row h some

module _ (parts : List Part) (one other : View) (closed : AreClosed parts) (is_one : IsView (length parts) one) (is_other : IsView (length parts) other) where
  pub rules_within : (left right : ℕ) (rules : List Rule) (least : List ℕ) → length least ≡ length parts → AreRulesOf parts left right rules → (length (list_at one left) ≡ 0 → ⊥) → (length (list_at other right) ≡ 0 → ⊥) → AreWithin (list_at one left) (list_at other right) least rules
  rules_within left right rules least size are some some_other i q e =
      let (n, p, at, is, l, r) = are i q e in
      let (fits, fits_right) = closed n p at in
      let first : place_of p.left < length (list_at one left) = subst (λ (k : ℕ). place_of p.left < length (list_at one k)) l (place_within (length parts) one p.left is_one fits (subst (λ (k : ℕ). length (list_at one k) ≡ 0 → ⊥) (sym l) some)) in
      let second : place_of p.right < length (list_at other right) = subst (λ (k : ℕ). place_of p.right < length (list_at other k)) r (place_within (length parts) other p.right is_other fits_right (subst (λ (k : ℕ). length (list_at other k) ≡ 0 → ⊥) (sym r) some_other)) in
      let within = slice_get_within parts n p at in
      subst (λ (q : Rule). (q.left < length (list_at one left)) × (q.right < length (list_at other right)) × (q.part < length least)) (sym is) (first, second, omega arith)

pub not_empty : {A : Type 0} (xs : List A) (b : Bool) → b ≡ false → b ≡ (length xs == 0) → length xs ≡ 0 → ⊥
not_empty xs b f is e = false≢true (sym f ∙ (is ∙ eq-eqb (length xs) 0 e))

-- nothing stands in an empty list
absent_left : (xs ys : List ℕ) (q : Rule) → length xs ≡ 0 → never ≤ given xs ys q
absent_left [] ys q e = omega arith
absent_left (x ∷ xs) ys q e = absurd (omega arith)

absent_right : (xs ys : List ℕ) (q : Rule) → length ys ≡ 0 → never ≤ given xs ys q
absent_right xs [] q e = omega arith
absent_right xs (y ∷ ys) q e = absurd (omega arith)

pub absent : (xs ys least : List ℕ) (q : Rule) → (length xs ≡ 0) ⊎ (length ys ≡ 0) → AreNumbers least → slice_index least q.part ≤ given xs ys q
absent xs ys least q (inl e) numbers = let a = absent_left xs ys q e in let n = numbers q.part in omega arith
absent xs ys least q (inr e) numbers = let a = absent_right xs ys q e in let n = numbers q.part in omega arith

-- the numbers of the parts of a group are not above what its rules give
abbrev pub IsLowBy : View → View → List ℕ → Group → Type 0
IsLowBy one other least g =
    (j : ℕ) (q : Rule) → slice_get g.rules.items j ≡ Some q → slice_index least q.part ≤ given (list_at one g.left) (list_at other g.right) q

-- so it is with the first groups
pub record AreLowBy (groups : List Group) (one other : View) (old new : List ℕ) (n : ℕ) : Type 0 where
  pub no_more : AreNoMore new old
  pub low : (i : ℕ) (g : Group) → i < n → slice_get groups i ≡ Some g → IsLowBy one other new g

pub low_more : (groups : List Group) (one other : View) (old mid new : List ℕ) (n : ℕ) (g : Group) → slice_get groups n ≡ Some g → AreNoMore new mid → IsLowBy one other new g → AreLowBy groups one other old mid n → AreLowBy groups one other old new (n + 1)
low_more groups one other old mid new n g at no_more low h = record {
  no_more = λ k. let a = no_more k in let b = h.no_more k in omega arith;
  low = λ i f lt e. by_place i f e (eq-or-lt_of_le {n = i} {m = n} (omega arith));
}
  where
    by_place : (i : ℕ) (f : Group) → slice_get groups i ≡ Some f → (i ≡ n) ⊎ (i < n) → IsLowBy one other new f
    by_place i f e (inl same) =
        let there : slice_get groups n ≡ Some f = subst (λ (j : ℕ). slice_get groups j ≡ Some f) same e in
        subst (IsLowBy one other new) (same_Some g f (sym at ∙ there)) low
    by_place i f e (inr lt) = λ j q k.
        let a = h.low i f lt e j q k in
        let b = no_more q.part in
        omega arith

pub low_parts : (parts : List Part) (groups : List Group) (one other : View) (old new : List ℕ) → AreGrouped parts groups → AreLowBy groups one other old new (length groups) → (n : ℕ) (p : Part) → slice_get parts n ≡ Some p → slice_index new n ≤ max (view_number one p.left) (view_number other p.right)
low_parts parts groups one other old new grouped h n p at =
    let (i, j, g, at_i, left, right, e) = grouped.whole n p at in
    let low = h.low i g (slice_get_within groups i g at_i) at_i j (rule_of n p) e in
    subst₂ (λ (l r : ℕ). slice_index new n ≤ given (list_at one l) (list_at other r) (rule_of n p)) left right low

-- both orders of a pair, of which one is enough where the classes are the same
pub low_pair : (r : Reading) (parts : List Part) (one other : View) (x y : ℕ) (least : List ℕ) → r.width ≡ length parts → AreClosed parts → HasSides r x one → HasSides r y other → ((n : ℕ) (p : Part) → slice_get parts n ≡ Some p → slice_index least n ≤ max (view_number one p.left) (view_number other p.right)) → ((n : ℕ) (p : Part) → slice_get parts n ≡ Some p → slice_index least n ≤ max (view_number other p.left) (view_number one p.right)) → (n : ℕ) (p : Part) → slice_get parts n ≡ Some p → slice_index least n ≤ pair_number r p x y
low_pair r parts one other x y least width closed first second low turned n p at =
    let (left, right) = subst (λ (w : ℕ). SideFits w p.left × SideFits w p.right) (sym width) (closed n p at) in
    let left_x = first p.left left in
    let right_x = first p.right right in
    let left_y = second p.left left in
    let right_y = second p.right right in
    let a = low n p at in
    let b = turned n p at in
    omega arith

pub same_views : (r : Reading) (parts : List Part) (one other : View) (x y : ℕ) (least : List ℕ) → r.width ≡ length parts → AreClosed parts → HasSides r x one → HasSides r y other → x ≡ y → ((n : ℕ) (p : Part) → slice_get parts n ≡ Some p → slice_index least n ≤ max (view_number one p.left) (view_number other p.right)) → (n : ℕ) (p : Part) → slice_get parts n ≡ Some p → slice_index least n ≤ max (view_number other p.left) (view_number one p.right)
same_views r parts one other x y least width closed first second same low n p at =
    let (left, right) = subst (λ (w : ℕ). SideFits w p.left × SideFits w p.right) (sym width) (closed n p at) in
    let left_is : view_number other p.left ≡ view_number one p.left = second p.left left ∙ (ap (side_number r p.left) (sym same) ∙ sym (first p.left left)) in
    let right_is : view_number one p.right ≡ view_number other p.right = first p.right right ∙ (ap (side_number r p.right) same ∙ sym (second p.right right)) in
    let a = low n p at in
    omega arith

-- the numbers of the parts are not above what the first n pairs give
pub record AreLeastBy (r : Reading) (parts : List Part) (pairs : List Pair) (old least : List ℕ) (n : ℕ) : Type 0 where
  pub no_more : AreNoMore least old
  pub low : (i : ℕ) (q : Pair) (k : ℕ) (p : Part) → i < n → slice_get pairs i ≡ Some q → slice_get parts k ≡ Some p → slice_index least k ≤ pair_number r p q.x.0 q.y.0

pub least_by_more : (r : Reading) (parts : List Part) (pairs : List Pair) (old mid new : List ℕ) (n : ℕ) (q : Pair) → slice_get pairs n ≡ Some q → AreNoMore new mid → ((k : ℕ) (p : Part) → slice_get parts k ≡ Some p → slice_index new k ≤ pair_number r p q.x.0 q.y.0) → AreLeastBy r parts pairs old mid n → AreLeastBy r parts pairs old new (n + 1)
least_by_more r parts pairs old mid new n q at no_more low h = record {
  no_more = λ k. let a = no_more k in let b = h.no_more k in omega arith;
  low = λ i pair k p lt here part. by_place i pair k p here part (eq-or-lt_of_le {n = i} {m = n} (omega arith));
}
  where
    by_place : (i : ℕ) (pair : Pair) (k : ℕ) (p : Part) → slice_get pairs i ≡ Some pair → slice_get parts k ≡ Some p → (i ≡ n) ⊎ (i < n) → slice_index new k ≤ pair_number r p pair.x.0 pair.y.0
    by_place i pair k p here part (inl same) =
        let there : slice_get pairs n ≡ Some pair = subst (λ (j : ℕ). slice_get pairs j ≡ Some pair) same here in
        subst (λ (w : Pair). slice_index new k ≤ pair_number r p w.x.0 w.y.0) (same_Some q pair (sym at ∙ there)) (low k p part)
    by_place i pair k p here part (inr lt) =
        let le = h.low i pair k p lt here part in
        let fell = no_more k in
        omega arith
