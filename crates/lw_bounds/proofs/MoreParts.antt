-- Shapes under more parts.
use Rattle.std.proofs.Common.{Vec, Global, ℕ, zero, suc, ◌⊎◌, ◌+◌, ◌<◌, ◌≤◌, ◌≡◌, Bool, true, false, not, position, if◌then◌else◌, List, [], ◌∷◌, ◌++◌, length, Some, slice_get, get_or, refl, sym, ap, ap₂, subst, ◌∙◌, inl, inr, arith, append-nil, append_assoc, eqb-true, nat_eq, zero-add, ◌-◌}
use Rattle.std.specs.List.{list_any}
use Rattle.std.proofs.lemmas.List.{length-append}
use Rattle.std.proofs.lemmas.List.Quantifiers.{position-Some}
use Rattle.std.proofs.lemmas.Option.{slice_get_within, slice_get-get_or}
use Rattle.std.specs.Cmp.{first_so, second_so}
use Rattle.lw_facts.proofs.Lists.{get_left, get_last_cases}
use Rattle.indexmap.specs.IndexSet.{insert_key}
use Rattle.lw_laws.specs.Trees.{Tree, leaf, const_one, const_zero, inv, nand}
use Rattle.lw_laws.specs.Covers.{Pattern}
use Rattle.lw_pattern.specs.declared.node.PatNode.{PatNode}
use Rattle.lw_pattern.specs.Nodes.{tree_at, nodes_of}
use Rattle.lw_bounds.specs.declared.parts.Kind.{Kind}
use Rattle.lw_bounds.specs.declared.parts.Kind.TheVariants.{Any, Leaf, One, Joined}
use Rattle.lw_bounds.specs.declared.parts.Side.{Side}
use Rattle.lw_bounds.specs.declared.parts.Part.{Part}
use Rattle.lw_bounds.specs.declared.shapes.Parts.{Parts}
use Rattle.lw_bounds.specs.Parts.{AreCollected, AreMore}
use Rattle.lw_bounds.specs.contracts.parts.KindPartialEq.TheImpl.{eq-value as kind_eq}
use Rattle.lw_bounds.specs.contracts.parts.SidePartialEq.TheImpl.{eq-value as side_eq}
use Rattle.lw_bounds.specs.contracts.parts.PartPartialEq.TheImpl.{eq-value as part_eq}
use native.Mathlib.Decide.{ℕ_discrete}
use Rattle.lw_bounds.specs.Shapes.{turned, HasPin, IsPinned, kind_base, kind_above, side_above, AreEitherOf, IsJoined, JoinsShapes, HasShape, KindFits, SideFits, AreClosed, AreParts, AreMoreParts, HaveShapes, AllHaveShapes, gaps_of}

-- a test of equality
pub same_kind : (a b : Kind) → kind_eq.it a b ≡ true → a ≡ b
same_kind Any Any e = refl
same_kind Any (Leaf n) e = cc
same_kind Any One e = cc
same_kind Any (Joined n d) e = cc
same_kind (Leaf m) Any e = cc
same_kind (Leaf m) (Leaf n) e = ap Leaf (eqb-true m n e)
same_kind (Leaf m) One e = cc
same_kind (Leaf m) (Joined n d) e = cc
same_kind One Any e = cc
same_kind One (Leaf n) e = cc
same_kind One One e = refl
same_kind One (Joined n d) e = cc
same_kind (Joined m c) Any e = cc
same_kind (Joined m c) (Leaf n) e = cc
same_kind (Joined m c) One e = cc
same_kind (Joined m c) (Joined n d) e =
    ap₂ Joined (eqb-true m n (first_so (nat_eq m n) (nat_eq c d) e)) (eqb-true c d (second_so (nat_eq m n) (nat_eq c d) e))

abbrev side_with : Kind → Bool → Side
side_with kind flipped = record { kind = kind; flipped = flipped }

side_by : (j k : Kind) (f g : Bool) → side_eq.it (side_with j f) (side_with k g) ≡ true → side_with j f ≡ side_with k g
side_by j k true true e = ap (λ (k : Kind). side_with k true) (same_kind j k (first_so (kind_eq.it j k) true e))
side_by j k true false e = let f = second_so (kind_eq.it j k) false e in cc
side_by j k false true e = let f = second_so (kind_eq.it j k) false e in cc
side_by j k false false e = ap (λ (k : Kind). side_with k false) (same_kind j k (first_so (kind_eq.it j k) true e))

pub same_side : (a b : Side) → side_eq.it a b ≡ true → a ≡ b
same_side a b e = side_by a.kind b.kind a.flipped b.flipped e

pub same_part : (a b : Part) → part_eq.it a b ≡ true → a ≡ b
same_part a b e =
    let left = same_side a.left b.left (first_so (side_eq.it a.left b.left) (side_eq.it a.right b.right) e) in
    let right = same_side a.right b.right (second_so (side_eq.it a.left b.left) (side_eq.it a.right b.right) e) in
    ap₂ (λ (l r : Side). let p : Part = record { left = l; right = r } in p) left right

pub found : (keys : List Part) (p : Part) (n : ℕ) → position (part_eq.it p) keys ≡ Some n → slice_get keys n ≡ Some p
found keys p n e =
    let (lt, same, first) = position-Some (part_eq.it p) keys n p e in
    slice_get-get_or keys n p lt ∙ ap Some (sym (same_part p (get_or keys n p) same))

pub turned_twice : (s : Side) → turned (turned s) ≡ s
turned_twice s = by_flag s.flipped
  where
    by_flag : (b : Bool) → side_with s.kind (not (not b)) ≡ side_with s.kind b
    by_flag true = refl
    by_flag false = refl

pub shape_more : (parts rest : List Part) (gaps : List ℕ) (base : ℕ) (t : Tree) (s : Side) → HasShape parts gaps base t s → HasShape (parts ++ rest) gaps base t s
shape_more parts rest gaps base (leaf k) s h = h
shape_more parts rest gaps base const_one s h = h
shape_more parts rest gaps base const_zero s h = h
shape_more parts rest gaps base (inv t) s h = shape_more parts rest gaps base t (turned s) h
shape_more parts rest gaps base (nand t u) s (inl e) = inl e
shape_more parts rest gaps base (nand t u) s (inr (n, d, p, e, at, pin, inl (left, right))) =
    inr (n, d, p, e, get_left parts rest n p at, pin, inl (shape_more parts rest gaps (base + d) t p.left left, shape_more parts rest gaps (base + d) u p.right right))
shape_more parts rest gaps base (nand t u) s (inr (n, d, p, e, at, pin, inr (right, left))) =
    inr (n, d, p, e, get_left parts rest n p at, pin, inr (shape_more parts rest gaps (base + d) t p.right right, shape_more parts rest gaps (base + d) u p.left left))

fits_plain : (n : ℕ) (s : Side) (kind : Kind) → s.kind ≡ kind → KindFits n kind → SideFits n s
fits_plain n s kind e h = subst (KindFits n) (sym e) h

pub shape_fits : (parts : List Part) (gaps : List ℕ) (base : ℕ) (t : Tree) (s : Side) → HasShape parts gaps base t s → SideFits (length parts) s
shape_fits parts gaps base (leaf k) s (inl e) = fits_plain (length parts) s Any e tt
shape_fits parts gaps base (leaf k) s (inr (d, e, gap)) = fits_plain (length parts) s (Leaf d) (ap (λ (s : Side). s.kind) e) tt
shape_fits parts gaps base const_one s (inl e) = fits_plain (length parts) s Any e tt
shape_fits parts gaps base const_one s (inr e) = fits_plain (length parts) s One (ap (λ (s : Side). s.kind) e) tt
shape_fits parts gaps base const_zero s (inl e) = fits_plain (length parts) s Any e tt
shape_fits parts gaps base const_zero s (inr e) = fits_plain (length parts) s One (ap (λ (s : Side). s.kind) e) tt
shape_fits parts gaps base (inv t) s h = shape_fits parts gaps base t (turned s) h
shape_fits parts gaps base (nand t u) s (inl e) = fits_plain (length parts) s Any e tt
shape_fits parts gaps base (nand t u) s (inr (n, d, p, e, at, pin, sides)) =
    fits_plain (length parts) s (Joined n d) (ap (λ (s : Side). s.kind) e) (slice_get_within parts n p at)

pub kind_fits_more : (n m : ℕ) (kind : Kind) → n ≤ m → KindFits n kind → KindFits m kind
kind_fits_more n m Any le h = tt
kind_fits_more n m (Leaf gap) le h = tt
kind_fits_more n m One le h = tt
kind_fits_more n m (Joined k d) le h = omega arith

-- one more part whose sides name earlier ones
pub closed_more : (parts : List Part) (p : Part) → AreClosed parts → SideFits (length parts) p.left → SideFits (length parts) p.right → AreClosed (parts ++ p ∷ [])
closed_more parts p closed left right n q e = by_place (get_last_cases parts p n q e)
  where
    long : length parts ≤ length (parts ++ p ∷ [])
    long = omega (arith, length-append parts (p ∷ []))

    wider : (q : Part) → SideFits (length parts) q.left × SideFits (length parts) q.right → SideFits (length (parts ++ p ∷ [])) q.left × SideFits (length (parts ++ p ∷ [])) q.right
    wider q (l, r) = (kind_fits_more (length parts) (length (parts ++ p ∷ [])) q.left.kind long l, kind_fits_more (length parts) (length (parts ++ p ∷ [])) q.right.kind long r)

    by_place : (slice_get parts n ≡ Some q) ⊎ ((n ≡ length parts) × (q ≡ p)) → SideFits (length (parts ++ p ∷ [])) q.left × SideFits (length (parts ++ p ∷ [])) q.right
    by_place (inl f) = wider q (closed n q f)
    by_place (inr (m, f)) = wider q (subst (λ (q : Part). SideFits (length parts) q.left × SideFits (length parts) q.right) (sym f) (left, right))

pub parts_grown : (room : ℕ) (keys new : List Part) (p : Part) → AreParts room keys → length keys < room → SideFits (length keys) p.left → SideFits (length keys) p.right → new ≡ insert_key part_eq.it keys p → AreParts room new
parts_grown room keys new p are few left right e = subst (AreParts room) (sym e) (by_test (list_any (part_eq.it p) keys))
  where
    by_test : (b : Bool) → AreParts room (if b then keys else keys ++ p ∷ [])
    by_test true = are
    by_test false = record { small = are.small; few = omega (arith, length-append keys (p ∷ [])); closed = closed_more keys p are.closed left right }

pin_above : (base : ℕ) (k : Kind) → (kind_base k ≡ 18446744073709551615 → ⊥) → HasPin (kind_above base k)
pin_above base Any some = absurd (some refl)
pin_above base (Leaf d) some = tt
pin_above base One some = absurd (some refl)
pin_above base (Joined p d) some = tt

-- what has a shape has it above a base, where each pin of the side is
pub shape_above : (parts : List Part) (gaps : List ℕ) (base : ℕ) (t : Tree) (s : Side) → base ≤ kind_base s.kind → HasShape parts gaps 0 t s → HasShape parts gaps base t (side_above base s)
shape_above parts gaps base (leaf k) s le (inl e) = inl (ap (kind_above base) e)
shape_above parts gaps base (leaf k) s le (inr (d, e, gap)) =
    let low : base ≤ d = subst (λ (s : Side). base ≤ kind_base s.kind) e le in
    inr (d - base, ap (side_above base) e, omega arith)
shape_above parts gaps base const_one s le (inl e) = inl (ap (kind_above base) e)
shape_above parts gaps base const_one s le (inr e) = inr (ap (side_above base) e)
shape_above parts gaps base const_zero s le (inl e) = inl (ap (kind_above base) e)
shape_above parts gaps base const_zero s le (inr e) = inr (ap (side_above base) e)
shape_above parts gaps base (inv t) s le h = shape_above parts gaps base t (turned s) le h
shape_above parts gaps base (nand t u) s le (inl e) = inl (ap (kind_above base) e)
shape_above parts gaps base (nand t u) s le (inr (n, d, p, e, at, pin, sides)) =
    let low : base ≤ d = subst (λ (s : Side). base ≤ kind_base s.kind) e le in
    let same : 0 + d ≡ base + (d - base) = omega arith in
    inr (n, d - base, p, ap (side_above base) e, at, pin, subst (λ (b : ℕ). (HasShape parts gaps b t p.left × HasShape parts gaps b u p.right) ⊎ (HasShape parts gaps b t p.right × HasShape parts gaps b u p.left)) same sides)

-- the sides of a part in the list make a NAND, one of which has a pin
pub joins : (parts new : List Part) (left right : Side) (base : ℕ) (p : Part) (s : Side) → base ≤ kind_base left.kind → base ≤ kind_base right.kind → (kind_base left.kind ≡ 18446744073709551615 → kind_base right.kind ≡ 18446744073709551615 → ⊥) → AreEitherOf (side_above base left) (side_above base right) p → AreMoreParts parts new → IsJoined new p base s → JoinsShapes parts new left right s
joins parts new left right base p s in_left in_right some either (rest, more) (n, e, at) gaps t u first second =
    inr (n, base, p, e, at, pinned either, sides either)
  where
    pins : HasPin (kind_above base left.kind) ⊎ HasPin (kind_above base right.kind)
    pins = by_test (ℕ_discrete (kind_base left.kind) 18446744073709551615)
      where
        by_test : Dec (kind_base left.kind ≡ 18446744073709551615) → HasPin (kind_above base left.kind) ⊎ HasPin (kind_above base right.kind)
        by_test (yes q) = inr (pin_above base right.kind (some q))
        by_test (no q) = inl (pin_above base left.kind q)

    pin_in : (a b : Side) → b ≡ a → HasPin a.kind → HasPin b.kind
    pin_in a b same h = subst (λ (s : Side). HasPin s.kind) (sym same) h

    pinned : AreEitherOf (side_above base left) (side_above base right) p → IsPinned p
    pinned (inl (l, r)) = elim pins [
      | inl h ↦ inl (pin_in (side_above base left) p.left l h)
      | inr h ↦ inr (pin_in (side_above base right) p.right r h)
    ]
    pinned (inr (l, r)) = elim pins [
      | inl h ↦ inr (pin_in (side_above base left) p.right r h)
      | inr h ↦ inl (pin_in (side_above base right) p.left l h)
    ]

    shape_in : (a b : Side) (t : Tree) → b ≡ side_above base a → base ≤ kind_base a.kind → HasShape parts gaps 0 t a → HasShape new gaps (0 + base) t b
    shape_in a b t same le h =
        subst (λ ps. HasShape ps gaps (0 + base) t b) (sym more) (shape_more parts rest gaps (0 + base) t b (subst (HasShape parts gaps (0 + base) t) (sym same) (subst (λ (d : ℕ). HasShape parts gaps d t (side_above base a)) (sym (zero-add base)) (shape_above parts gaps base t a le h))))

    sides : AreEitherOf (side_above base left) (side_above base right) p → (HasShape new gaps (0 + base) t p.left × HasShape new gaps (0 + base) u p.right) ⊎ (HasShape new gaps (0 + base) t p.right × HasShape new gaps (0 + base) u p.left)
    sides (inl (l, r)) = inl (shape_in left p.left t l in_left first, shape_in right p.right u r in_right second)
    sides (inr (l, r)) = inr (shape_in left p.right t r in_left first, shape_in right p.left u l in_right second)

-- under more parts
pub have_more : (keys more : List Part) (gaps : List ℕ) (nodes : List PatNode) (sides : List Side) → AreMoreParts keys more → HaveShapes keys gaps nodes sides → HaveShapes more gaps nodes sides
have_more keys more gaps nodes sides (rest, e) have place s at =
    subst (λ ps. HasShape ps gaps 0 (tree_at nodes place) s) (sym e) (shape_more keys rest gaps 0 (tree_at nodes place) s (have place s at))

more_twice : (a b c : List Part) → AreMoreParts a b → AreMoreParts b c → AreMoreParts a c
more_twice a b c (r, e) (q, f) = (r ++ q, f ∙ (ap (λ xs. xs ++ q) e ∙ append_assoc a r q))

-- the sides of the first nodes, and the parts with which they are made
pub record AreShaped (room : ℕ) (before keys : List Part) (gaps : List ℕ) (nodes : List PatNode) (sides : List Side) (n : ℕ) : Type 0 where
  pub parts : AreParts room keys
  pub more : AreMoreParts before keys
  pub count : length sides ≡ n
  pub shapes : HaveShapes keys gaps nodes sides

pub shaped_none : (room : ℕ) (keys : List Part) (gaps : List ℕ) (nodes : List PatNode) → AreParts room keys → AreShaped room keys keys gaps nodes [] 0
shaped_none room keys gaps nodes are =
    record { parts = are; more = ([], sym (append-nil keys)); count = refl; shapes = λ place s e. cc }

pub shaped_more : (room : ℕ) (before keys new : List Part) (gaps : List ℕ) (nodes : List PatNode) (sides : List Side) (n : ℕ) (s : Side) → AreShaped room before keys gaps nodes sides n → AreParts room new → AreMoreParts keys new → HasShape new gaps 0 (tree_at nodes (length sides)) s → AreShaped room before new gaps nodes (sides ++ s ∷ []) (n + 1)
shaped_more room before keys new gaps nodes sides n s h are more shape = record {
  parts = are;
  more = more_twice before keys new h.more more;
  count = let c = h.count in omega (arith, length-append sides (s ∷ []));
  shapes = λ place k e. at_place place k (get_last_cases sides s place k e);
}
  where
    at_place : (place : ℕ) (k : Side) → (slice_get sides place ≡ Some k) ⊎ ((place ≡ length sides) × (k ≡ s)) → HasShape new gaps 0 (tree_at nodes place) k
    at_place place k (inl e) = have_more keys new gaps nodes sides more h.shapes place k e
    at_place place k (inr (e, f)) =
        subst (λ p. HasShape new gaps 0 (tree_at nodes p) k) (sym e) (subst (λ (k : Side). HasShape new gaps 0 (tree_at nodes (length sides)) k) (sym f) shape)

get_in_sides : (all : List (List Side)) (sides : List Side) (i place : ℕ) (s : Side) → slice_get (get_or (all ++ sides ∷ []) i []) place ≡ Some s → (slice_get (get_or all i []) place ≡ Some s) ⊎ ((i ≡ length all) × (slice_get sides place ≡ Some s))
get_in_sides [] sides zero place s e = inr (refl, e)
get_in_sides [] sides (suc i) place s e = inl e
get_in_sides (xs ∷ all) sides zero place s e = inl e
get_in_sides (xs ∷ all) sides (suc i) place s e = deeper (get_in_sides all sides i place s e)
  where
    deeper : (slice_get (get_or all i []) place ≡ Some s) ⊎ ((i ≡ length all) × (slice_get sides place ≡ Some s)) → (slice_get (get_or (xs ∷ all) (suc i) []) place ≡ Some s) ⊎ ((suc i ≡ length (xs ∷ all)) × (slice_get sides place ≡ Some s))
    deeper (inl f) = inl f
    deeper (inr (f, g)) = inr (ap suc f, g)

-- the sides of one more pattern
pub all_more : (keys new : List Part) (gaps : List (List ℕ)) (pats : List Pattern) (all : List (List Side)) (p : Pattern) (sides : List Side) → AllHaveShapes keys gaps pats all → AreMoreParts keys new → slice_get pats (length all) ≡ Some p → HaveShapes new (gaps_of gaps (length all)) (nodes_of p.tree) sides → AllHaveShapes new gaps pats (all ++ sides ∷ [])
all_more keys new gaps pats all p sides have more listed shapes i q e place s at = by_place (get_in_sides all sides i place s at)
  where
    by_place : (slice_get (get_or all i []) place ≡ Some s) ⊎ ((i ≡ length all) × (slice_get sides place ≡ Some s)) → HasShape new (gaps_of gaps i) 0 (tree_at (nodes_of q.tree) place) s
    by_place (inl f) = have_more keys new (gaps_of gaps i) (nodes_of q.tree) (get_or all i []) more (have i q e) place s f
    by_place (inr (f, g)) =
        let there : slice_get pats (length all) ≡ Some q = subst (λ j. slice_get pats j ≡ Some q) f e in
        let same : q ≡ p = cc in
        subst (λ (q : Pattern). HasShape new (gaps_of gaps i) 0 (tree_at (nodes_of q.tree) place) s) (sym same) (subst (λ j. HasShape new (gaps_of gaps j) 0 (tree_at (nodes_of p.tree) place) s) (sym f) (shapes place s g))

abbrev pub items_of : Vec Side Global → List Side
items_of sides = sides.items

-- the sides of the first patterns
pub record AreAllShaped (room : ℕ) (keys : List Part) (gaps : List (List ℕ)) (pats : List Pattern) (all : List (List Side)) (n : ℕ) : Type 0 where
  pub parts : AreParts room keys
  pub count : length all ≡ n
  pub shapes : AllHaveShapes keys gaps pats all

pub none_shaped : (room : ℕ) (keys : List Part) (gaps : List (List ℕ)) (pats : List Pattern) → AreParts room keys → AreAllShaped room keys gaps pats [] 0
none_shaped room keys gaps pats are =
    record { parts = are; count = refl; shapes = λ i p e place s f. cc }

pub all_shaped_more : (room : ℕ) (keys new : List Part) (gaps : List (List ℕ)) (pats : List Pattern) (all : List (List Side)) (n : ℕ) (p : Pattern) (sides : List Side) → AreAllShaped room keys gaps pats all n → AreParts room new → AreMoreParts keys new → slice_get pats n ≡ Some p → HaveShapes new (gaps_of gaps n) (nodes_of p.tree) sides → AreAllShaped room new gaps pats (all ++ sides ∷ []) (n + 1)
all_shaped_more room keys new gaps pats all n p sides h are more listed shapes = record {
  parts = are;
  count = let c = h.count in omega (arith, length-append all (sides ∷ []));
  shapes = all_more keys new gaps pats all p sides h.shapes more (subst (λ i. slice_get pats i ≡ Some p) (sym h.count) listed) (subst (λ i. HaveShapes new (gaps_of gaps i) (nodes_of p.tree) sides) (sym h.count) shapes);
}

-- the parts that are there
pub same_parts : (parts : Parts) → AreCollected parts → AreMore parts parts
same_parts parts are =
    record { room = refl; parts = are; more = ([], sym (append-nil parts.all.keys)) }
