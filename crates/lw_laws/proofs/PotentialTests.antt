-- Tests of the labels of a small graph, which hold only where they are a potential of its matches.
use Rattle.std.proofs.Common.{ℕ, zero, suc, ◌+◌, ◌*◌, ◌<◌, ◌≤◌, ◌==◌, ◌≡◌, ◌⊎◌, inl, inr, Bool, true, false, ◌&&◌, cond, leb, List, [], ◌∷◌, ◌++◌, length, map, replicate, Contains, Option, Some, None, slice_get, slice_index_or, refl, ap₂, sym, subst, arith}
use Rattle.std.specs.List.{AllZip, list_all}
use Rattle.std.proofs.lemmas.Bool.{and_parts, leb-true}
use Rattle.std.proofs.lemmas.List.Elements.{Contains-append_left, Contains-append_right}
use Rattle.lw_laws.proofs.Deciding.{label_listed}
use Rattle.lw_facts.proofs.Lists.{contains_map}
use native.Mathlib.Decide.{ℕ_discrete, dec_lt}
use Rattle.lw_laws.specs.Flip.{flip}
use Rattle.lw_laws.specs.Trees.{Tree, leaf, const_one, const_zero, inv, nand}
use Rattle.lw_laws.specs.Graphs.{Pair, Graph, Stands}
use Rattle.lw_laws.specs.Covers.{Pattern, HasPins}
use Rattle.lw_laws.specs.Costs.{Cost}
use Rattle.lw_laws.specs.Choices.{HaveLabels, HasLabelAtMost}
use Rattle.lw_laws.specs.Rounds.{labels_in}
use Rattle.lw_laws.specs.Mapped.{IsPotentialOf}
use Rattle.lw_laws.proofs.Flips.{half-flip}
use Rattle.lw_laws.proofs.Facts.{eq_same, all_true}

-- a binding in part: a class for some of the pins
abbrev Partial : Type 0
Partial = List (Option ℕ)

abbrev bound_at : ℕ → ℕ → Partial → List Partial
bound_at k c [] = []
bound_at zero c (None ∷ w) = (Some c ∷ w) ∷ []
bound_at zero c (Some d ∷ w) = cond (d == c) ((Some d ∷ w) ∷ []) []
bound_at (suc k) c (o ∷ w) = map (λ v. o ∷ v) (bound_at k c w)

abbrev each_from : (Partial → List Partial) → List Partial → List Partial
each_from next [] = []
each_from next (w ∷ ws) = next w ++ each_from next ws

abbrev pairs_from : (ℕ → ℕ → List Partial) → List Pair → List Partial
pairs_from both [] = []
pairs_from both (p ∷ ps) = both p.x p.y ++ (both p.y p.x ++ pairs_from both ps)

module _ (g : Graph) where
  abbrev row : ℕ → List Pair
  row c = slice_index_or g.pairs c []

  -- the bindings with which the tree stands at the class, as far as it binds pins
  abbrev stands_all : Tree → ℕ → Partial → List Partial
  stands_all (leaf k) c w = bound_at k c w
  stands_all const_one c w = cond (c == g.one) (w ∷ []) []
  stands_all const_zero c w = cond (c == flip g.one) (w ∷ []) []
  stands_all (inv t) c w = stands_all t (flip c) w
  stands_all (nand t u) c w = pairs_from (λ x y. each_from (λ v. stands_all u y v) (stands_all t x w)) (row c)

-- the binding has the classes that the partial one has
abbrev Fits : Partial → List ℕ → Type 0
Fits w ps = AllZip (λ o p. (o ≡ None) ⊎ (o ≡ Some p)) w ps

in_each : (next : Partial → List Partial) (ws : List Partial) (w v : Partial) → Contains ws w → Contains (next w) v → Contains (each_from next ws) v
in_each next [] w v (k, lt, e) c = absurd (omega arith)
in_each next (u ∷ ws) w v (zero, lt, e) c = Contains-append_left (next u) (each_from next ws) v (subst (λ z. Contains (next z) v) (sym e) c)
in_each next (u ∷ ws) w v (suc k, lt, e) c = Contains-append_right (next u) (each_from next ws) v (in_each next ws w v (k, omega arith, e) c)

in_pairs : (both : ℕ → ℕ → List Partial) (row : List Pair) (x y : ℕ) (v : Partial) → Contains row (record { x = x; y = y }) ⊎ Contains row (record { x = y; y = x }) → Contains (both x y) v → Contains (pairs_from both row) v
in_pairs both [] x y v (inl (k, lt, e)) c = absurd (omega arith)
in_pairs both [] x y v (inr (k, lt, e)) c = absurd (omega arith)
in_pairs both (p ∷ ps) x y v (inl (zero, lt, e)) c =
    Contains-append_left (both p.x p.y) (both p.y p.x ++ pairs_from both ps) v (subst (λ q. Contains (both q.x q.y) v) (sym e) c)
in_pairs both (p ∷ ps) x y v (inl (suc k, lt, e)) c =
    Contains-append_right (both p.x p.y) (both p.y p.x ++ pairs_from both ps) v (Contains-append_right (both p.y p.x) (pairs_from both ps) v (in_pairs both ps x y v (inl (k, omega arith, e)) c))
in_pairs both (p ∷ ps) x y v (inr (zero, lt, e)) c =
    Contains-append_right (both p.x p.y) (both p.y p.x ++ pairs_from both ps) v (Contains-append_left (both p.y p.x) (pairs_from both ps) v (subst (λ q. Contains (both q.y q.x) v) (sym e) c))
in_pairs both (p ∷ ps) x y v (inr (suc k, lt, e)) c =
    Contains-append_right (both p.x p.y) (both p.y p.x ++ pairs_from both ps) v (Contains-append_right (both p.y p.x) (pairs_from both ps) v (in_pairs both ps x y v (inr (k, omega arith, e)) c))

bound_listed : (k c : ℕ) (w : Partial) (ps : List ℕ) → Fits w ps → slice_get ps k ≡ Some c → (v : Partial) × Contains (bound_at k c w) v × Fits v ps
bound_listed k c [] [] f e = cc
bound_listed k c [] (p ∷ ps) f e = absurd f
bound_listed k c (o ∷ w) [] f e = absurd f
bound_listed zero c (None ∷ w) (p ∷ ps) (o, f) e = (Some c ∷ w, (0, omega arith, refl), (inr (sym e), f))
bound_listed zero c (Some d ∷ w) (p ∷ ps) (inl h, f) e = cc
bound_listed zero c (Some d ∷ w) (p ∷ ps) (inr h, f) e = let same : d ≡ c = cc in by_test (d == c) (subst (λ k. (d == k) ≡ true) same (eq_same d))
  where
    by_test : (t : Bool) → t ≡ true → (v : Partial) × Contains (cond t ((Some d ∷ w) ∷ []) []) v × Fits v (p ∷ ps)
    by_test true s = (Some d ∷ w, (0, omega arith, refl), (inr h, f))
    by_test false s = cc
bound_listed (suc k) c (o ∷ w) (p ∷ ps) (a, f) e =
    let (v, at, fits) = bound_listed k c w ps f e in
    (o ∷ v, contains_map (λ u. o ∷ u) (bound_at k c w) v at, (a, fits))

listed_if : (t : Bool) (w : Partial) → t ≡ true → Contains (cond t (w ∷ []) []) w
listed_if true w e = (0, omega arith, refl)
listed_if false w e = cc

module _ (g : Graph) where
  -- each binding with which the tree stands is found
  stands_listed : (t : Tree) (c : ℕ) (w : Partial) (ps : List ℕ) → Fits w ps → Stands g ps t c → (v : Partial) × Contains (stands_all g t c w) v × Fits v ps
  stands_listed (leaf k) c w ps f s = bound_listed k c w ps f s
  stands_listed const_one c w ps f s = (w, listed_if (c == g.one) w (subst (λ k. (c == k) ≡ true) s (eq_same c)), f)
  stands_listed const_zero c w ps f s = (w, listed_if (c == flip g.one) w (subst (λ k. (c == k) ≡ true) s (eq_same c)), f)
  stands_listed (inv t) c w ps f s = stands_listed t (flip c) w ps f s
  stands_listed (nand t u) c w ps f (x, y, h, s, r) =
      let (v, at, fits) = stands_listed t x w ps f s in
      let (z, bt, last) = stands_listed u y v ps fits r in
      (z, in_pairs (λ a b. each_from (λ q. stands_all g u b q) (stands_all g t a w)) (row g c) x y z h (in_each (λ q. stands_all g u y q) (stands_all g t x w) v z at bt), last)

-- the binding where all pins are bound
abbrev with_first : Option ℕ → Option (List ℕ) → Option (List ℕ)
with_first None o = None
with_first (Some c) None = None
with_first (Some c) (Some ps) = Some (c ∷ ps)

abbrev all_bound : Partial → Option (List ℕ)
all_bound [] = Some []
all_bound (o ∷ w) = with_first o (all_bound w)

bound_fits : (w : Partial) (ps qs : List ℕ) → Fits w ps → all_bound w ≡ Some qs → qs ≡ ps
bound_fits [] [] qs f e = cc
bound_fits [] (p ∷ ps) qs f e = absurd f
bound_fits (o ∷ w) [] qs f e = absurd f
bound_fits (None ∷ w) (p ∷ ps) qs f e = cc
bound_fits (Some c ∷ w) (p ∷ ps) qs (inl h, f) e = cc
bound_fits (Some c ∷ w) (p ∷ ps) qs (inr h, f) e = by_rest (all_bound w) refl e (λ rs s. bound_fits w ps rs f s)
  where
    by_rest : (o : Option (List ℕ)) → all_bound w ≡ o → with_first (Some c) o ≡ Some qs → ((rs : List ℕ) → all_bound w ≡ Some rs → rs ≡ ps) → qs ≡ p ∷ ps
    by_rest None s r ih = cc
    by_rest (Some rs) s r ih = let rest = ih rs s in let same : c ≡ p = cc in cc

none_fits : (ps : List ℕ) → Fits (replicate (length ps) None) ps
none_fits [] = tt
none_fits (p ∷ ps) = (inl refl, none_fits ps)

module _ (labels : List (Option ℕ)) where
  abbrev known : ℕ → Option ℕ
  known = labels_in labels

  abbrev labels_of : List ℕ → Option (List ℕ)
  labels_of [] = Some []
  labels_of (p ∷ ps) = with_first (known p) (labels_of ps)

  labels_have : (ps ls : List ℕ) → HaveLabels known ps ls → labels_of ps ≡ Some ls
  labels_have [] [] a = refl
  labels_have [] (l ∷ ls) a = absurd a
  labels_have (p ∷ ps) [] a = absurd a
  labels_have (p ∷ ps) (l ∷ ls) (e, a) = ap₂ with_first e (labels_have ps ls a)

  abbrev is_at_most : Option ℕ → ℕ → Bool
  is_at_most None d = false
  is_at_most (Some l) d = leb l d

  at_most_true : (c d : ℕ) (o : Option ℕ) → known c ≡ o → is_at_most o d ≡ true → HasLabelAtMost known c d
  at_most_true c d None e t = cc
  at_most_true c d (Some l) e t = (l, e, leb-true l d t)

  module _ (g : Graph) (pats : List Pattern) (cost : Cost) where
    -- what each match with labelled pins is asked: its class, its cell, its pins and their labels
    module _ (test : ℕ → ℕ → List ℕ → List ℕ → Bool) where
      abbrev labels_pass : ℕ → ℕ → List ℕ → Option (List ℕ) → Bool
      labels_pass c cell ps None = true
      labels_pass c cell ps (Some ls) = test c cell ps ls

      abbrev pins_pass : ℕ → ℕ → Option (List ℕ) → Bool
      pins_pass c cell None = false
      pins_pass c cell (Some ps) = labels_pass c cell ps (labels_of ps)

      abbrev binding_passes : ℕ → ℕ → Partial → Bool
      binding_passes c cell w = pins_pass c cell (all_bound w)

      abbrev bindings_pass : ℕ → Pattern → Option ℕ → Bool
      bindings_pass c p None = true
      bindings_pass c p (Some n) = list_all (binding_passes c p.cell) (stands_all g p.tree c (replicate n None))

      abbrev pattern_passes : ℕ → Pattern → Bool
      pattern_passes c p = bindings_pass c p (slice_get cost.pin_counts p.cell)

      abbrev pub classes_pass : ℕ → Bool
      classes_pass zero = true
      classes_pass (suc c) = list_all (pattern_passes c) pats && classes_pass c

      class_passes : (n c : ℕ) → classes_pass n ≡ true → c < n → list_all (pattern_passes c) pats ≡ true
      class_passes zero c e lt = absurd (omega arith)
      class_passes (suc n) c e lt = by_place (ℕ_discrete c n) (and_parts (list_all (pattern_passes n) pats) (classes_pass n) e) (λ r l. class_passes n c r l)
        where
          by_place : Dec (c ≡ n) → (list_all (pattern_passes n) pats ≡ true) × (classes_pass n ≡ true) → (classes_pass n ≡ true → c < n → list_all (pattern_passes c) pats ≡ true) → list_all (pattern_passes c) pats ≡ true
          by_place (yes s) p ih = subst (λ k. list_all (pattern_passes k) pats ≡ true) (sym s) p.0
          by_place (no out) p ih = ih p.1 (omega arith)

    -- the label of the class is there, not above the match's value
    abbrev pub is_bounded : ℕ → ℕ → List ℕ → List ℕ → Bool
    is_bounded c cell ps ls = is_at_most (known c) (cost.value cell ls)

    -- inputs' classes are labelled, not above their leaves' costs
    abbrev leaves_bounded : ℕ → List ℕ → Bool
    leaves_bounded i [] = true
    leaves_bounded i (c ∷ cs) = is_at_most (known c) (cost.leaf i) && leaves_bounded (suc i) cs

    leaf_bounded : (first : ℕ) (cs : List ℕ) → leaves_bounded first cs ≡ true → (i c : ℕ) → slice_get cs i ≡ Some c → is_at_most (known c) (cost.leaf (first + i)) ≡ true
    leaf_bounded first [] e i c at = cc
    leaf_bounded first (d ∷ cs) e zero c at =
        let s : d ≡ c = cc in
        let z : first ≡ first + 0 = omega arith in
        subst (λ k. is_at_most (known c) (cost.leaf k) ≡ true) z (subst (λ k. is_at_most (known k) (cost.leaf first) ≡ true) s (and_parts (is_at_most (known d) (cost.leaf first)) (leaves_bounded (suc first) cs) e).0)
    leaf_bounded first (d ∷ cs) e (suc i) c at =
        let s : suc first + i ≡ first + suc i = omega arith in
        subst (λ k. is_at_most (known c) (cost.leaf k) ≡ true) s (leaf_bounded (suc first) cs (and_parts (is_at_most (known d) (cost.leaf first)) (leaves_bounded (suc first) cs) e).1 i c at)

    pub record PassesLabelTests : Type 0 where
      pub even : ℕ
      pub count : length g.pairs ≡ 2 * even
      pub listed : length labels ≤ length g.pairs
      pub one : g.one < length g.pairs
      pub matches : classes_pass is_bounded (length g.pairs) ≡ true
      pub leaves : leaves_bounded 0 g.leaves ≡ true

    module _ (passes : PassesLabelTests) where
      pin_known : (ps ls : List ℕ) (k c : ℕ) → HaveLabels known ps ls → slice_get ps k ≡ Some c → c < length labels
      pin_known [] ls k c a e = cc
      pin_known (p ∷ ps) [] k c a e = absurd a
      pin_known (p ∷ ps) (l ∷ ls) zero c (h, a) e = let s : p ≡ c = cc in label_listed labels c l (subst (λ q. known q ≡ Some l) s h)
      pin_known (p ∷ ps) (l ∷ ls) (suc k) c (h, a) e = pin_known ps ls k c a e

      past_row : (rows : List (List Pair)) (c : ℕ) (p : Pair) → length rows ≤ c → Contains (slice_index_or rows c []) p → ⊥
      past_row [] c p le (k, lt, e) = omega arith
      past_row (r ∷ rows) zero p le at = omega arith
      past_row (r ∷ rows) (suc c) p le at = past_row rows c p (omega arith) at

      -- no tree with labelled pins stands past the classes
      none_past : (t : Tree) (c : ℕ) (ps ls : List ℕ) → length g.pairs ≤ c → HaveLabels known ps ls → Stands g ps t c → ⊥
      none_past (leaf k) c ps ls le a s = let lt = pin_known ps ls k c a s in let most = passes.listed in omega arith
      none_past const_one c ps ls le a s = let lt = passes.one in omega arith
      none_past const_zero c ps ls le a s =
          let lt = passes.one in
          let half = half-flip g.one in
          let even = passes.count in
          omega arith
      none_past (inv t) c ps ls le a s = let half = half-flip c in let even = passes.count in none_past t (flip c) ps ls (omega arith) a s
      none_past (nand t u) c ps ls le a (x, y, inl h, s, r) = past_row g.pairs c (record { x = x; y = y }) le h
      none_past (nand t u) c ps ls le a (x, y, inr h, s, r) = past_row g.pairs c (record { x = y; y = x }) le h

      -- a test of all bindings that are found is one of all matches
      pub match_passes : (test : ℕ → ℕ → List ℕ → List ℕ → Bool) → classes_pass test (length g.pairs) ≡ true → (c : ℕ) (p : Pattern) (ps ls : List ℕ) → Contains pats p → HasPins cost.pin_counts p.cell (length ps) → Stands g ps p.tree c → HaveLabels known ps ls → test c p.cell ps ls ≡ true
      match_passes test all_pass c p ps ls listed pins stands have = by_place (dec_lt c (length g.pairs))
        where
          by_bound : (v : Partial) → Fits v ps → (o : Option (List ℕ)) → all_bound v ≡ o → pins_pass test c p.cell o ≡ true → test c p.cell ps ls ≡ true
          by_bound v fits None e t = cc
          by_bound v fits (Some qs) e t =
              let same = bound_fits v ps qs fits e in
              let t' = subst (λ rs. labels_pass test c p.cell rs (labels_of rs) ≡ true) same t in
              subst (λ o. labels_pass test c p.cell ps o ≡ true) (labels_have ps ls have) t'

          by_place : Dec (c < length g.pairs) → test c p.cell ps ls ≡ true
          by_place (no out) = absurd (none_past p.tree c ps ls (omega arith) have stands)
          by_place (yes lt) =
              let here = all_true (pattern_passes test c) pats p (class_passes test (length g.pairs) c all_pass lt) listed in
              let bindings = subst (λ o. bindings_pass test c p o ≡ true) pins here in
              let (v, at, fits) = stands_listed g p.tree c (replicate (length ps) None) ps (none_fits ps) stands in
              by_bound v fits (all_bound v) refl (all_true (binding_passes test c p.cell) (stands_all g p.tree c (replicate (length ps) None)) v bindings at)

      match_at_most : (c : ℕ) (p : Pattern) (ps ls : List ℕ) → Contains pats p → HasPins cost.pin_counts p.cell (length ps) → Stands g ps p.tree c → HaveLabels known ps ls → HasLabelAtMost known c (cost.value p.cell ls)
      match_at_most c p ps ls listed pins stands have =
          at_most_true c (cost.value p.cell ls) (known c) refl (match_passes is_bounded passes.matches c p ps ls listed pins stands have)

      -- labels that pass the tests are a potential
      pub tests_bound : IsPotentialOf g pats cost labels
      tests_bound = record {
        inputs = λ c i at. let z : 0 + i ≡ i = omega arith in at_most_true c (cost.leaf i) (known c) refl (subst (λ k. is_at_most (known c) (cost.leaf k) ≡ true) z (leaf_bounded 0 g.leaves passes.leaves i c at));
        matches = λ c cell ps ls m have.
            subst (λ k. HasLabelAtMost known c (cost.value k ls)) m.cell_is (match_at_most c m.pattern ps ls m.listed (subst (λ k. HasPins cost.pin_counts k (length ps)) (sym m.cell_is) m.pins) m.stands have);
      }
