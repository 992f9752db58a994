-- Tests of a small graph, which hold only where it encodes the listed forms.
use Rattle.std.proofs.Common.{ℕ, zero, suc, ◌+◌, ◌*◌, ◌<◌, ◌==◌, ◌≡◌, ◌⊎◌, inl, inr, Bool, true, false, ◌&&◌, ◌||◌, if◌then◌else◌, List, [], ◌∷◌, ◌++◌, length, Contains, Option, Some, None, slice_get, slice_index_or, refl, ap, ap₂, sym, ◌∙◌, subst, arith}
use Rattle.std.specs.List.{AllByRecursion, list_all, list_any}
use Rattle.std.proofs.lemmas.Bool.{eqb-true, and_parts, or_cases}
use Rattle.std.proofs.lemmas.List.Elements.{Contains-append_left, Contains-append_right}
use native.Mathlib.Nat.{eq-or-lt_of_le}
use Rattle.lw_laws.specs.Flip.{flip}
use Rattle.lw_laws.specs.Graphs.{Pair, Graph, class_of, HoldsPair, PairsInOneClass}
use Rattle.lw_laws.specs.Families.{IsNand, Equivalent}
use Rattle.lw_laws.specs.Families.Equivalent.{same}
use Rattle.lw_laws.specs.Encodings.{HasNand, Encodes}
use Rattle.lw_laws.specs.Drafts.{NandFact}
use Rattle.lw_laws.specs.Modes.{Mode}
use Rattle.lw_laws.specs.NumberedForms.{Base, NumberedForms, family_of, NumberOccurs}
use Rattle.lw_laws.specs.NumberedForms.Base.{base_true, base_input, base_and}
use Rattle.lw_laws.proofs.Flips.{class_of-flip}
use Rattle.lw_laws.proofs.Closure.{Equivalent-name}
use Rattle.lw_laws.proofs.Facts.{eq_same, all_true, any_true, nand_facts, fact_listed, fact_is}

-- the pair is that of x and y
abbrev is_pair : ℕ → ℕ → Pair → Bool
is_pair x y p = (p.x == x && p.y == y) || (p.x == y && p.y == x)

pair_either : (row : List Pair) (x y : ℕ) (p : Pair) → is_pair x y p ≡ true → Contains row p → Contains row (record { x = x; y = y }) ⊎ Contains row (record { x = y; y = x })
pair_either row x y p e at = by_side (or_cases (p.x == x && p.y == y) (p.x == y && p.y == x) e)
  where
    by_side : ((p.x == x && p.y == y) ≡ true) ⊎ ((p.x == y && p.y == x) ≡ true) → Contains row (record { x = x; y = y }) ⊎ Contains row (record { x = y; y = x })
    by_side (inl h) =
        let (a, b) = and_parts (p.x == x) (p.y == y) h in
        let first = eqb-true p.x x a in
        let second = eqb-true p.y y b in
        let s : p ≡ record { x = x; y = y } = ap₂ (λ u v. record { x = u; y = v }) first second in
        inl (subst (Contains row) s at)
    by_side (inr h) =
        let (a, b) = and_parts (p.x == y) (p.y == x) h in
        let first = eqb-true p.x y a in
        let second = eqb-true p.y x b in
        let s : p ≡ record { x = y; y = x } = ap₂ (λ u v. record { x = u; y = v }) first second in
        inr (subst (Contains row) s at)

-- two forms
pub record Two : Type 0 where
  pub first : ℕ
  pub second : ℕ

module _ (g : Graph) where
  abbrev class : ℕ → ℕ
  class f = class_of g f

  abbrev row_has : ℕ → ℕ → ℕ → Bool
  row_has c x y = list_any (is_pair x y) (slice_index_or g.pairs c [])

  row_holds : (c x y : ℕ) → row_has c x y ≡ true → HoldsPair g c x y
  row_holds c x y e =
      let (p, at, is) = any_true (is_pair x y) (slice_index_or g.pairs c []) e in
      pair_either (slice_index_or g.pairs c []) x y p is at

  -- each fact is held
  abbrev fact_held : NandFact → Bool
  fact_held F = row_has (class F.form) (class F.left) (class F.right)

  -- each pair held comes from a fact
  abbrev is_from : ℕ → Pair → NandFact → Bool
  is_from c p F = class F.form == c && ((class F.left == p.x && class F.right == p.y) || (class F.left == p.y && class F.right == p.x))

  abbrev rows_from : List NandFact → ℕ → List (List Pair) → Bool
  rows_from facts c [] = true
  rows_from facts c (row ∷ rows) = list_all (λ p. list_any (is_from c p) facts) row && rows_from facts (suc c) rows

  rows_hold : (facts : List NandFact) (first : ℕ) (rows : List (List Pair)) → rows_from facts first rows ≡ true → (c : ℕ) (p : Pair) → Contains (slice_index_or rows c []) p → (F : NandFact) × Contains facts F × (is_from (first + c) p F ≡ true)
  rows_hold facts first [] e c p (k, lt, f) = absurd (omega arith)
  rows_hold facts first (row ∷ rows) e zero p at =
      let (a, b) = and_parts (list_all (λ q. list_any (is_from first q) facts) row) (rows_from facts (suc first) rows) e in
      let (F, listed, is) = any_true (is_from first p) facts (all_true (λ q. list_any (is_from first q) facts) row p a at) in
      let z : first ≡ first + 0 = omega arith in
      (F, listed, subst (λ k. is_from k p F ≡ true) z is)
  rows_hold facts first (row ∷ rows) e (suc c) p at =
      let (a, b) = and_parts (list_all (λ q. list_any (is_from first q) facts) row) (rows_from facts (suc first) rows) e in
      let (F, listed, is) = rows_hold facts (suc first) rows b c p at in
      let s : suc first + c ≡ first + suc c = omega arith in
      (F, listed, subst (λ k. is_from k p F ≡ true) s is)

  -- each pair is held once
  record Held : Type 0 where
    at : ℕ
    pair : Pair

  abbrev held_in_row : ℕ → List Pair → List Held
  held_in_row c [] = []
  held_in_row c (p ∷ row) = record { at = c; pair = p } ∷ held_in_row c row

  abbrev held_from : ℕ → List (List Pair) → List Held
  held_from c [] = []
  held_from c (row ∷ rows) = held_in_row c row ++ held_from (suc c) rows

  row_listed : (c : ℕ) (row : List Pair) (p : Pair) → Contains row p → Contains (held_in_row c row) (record { at = c; pair = p })
  row_listed c [] p (k, lt, e) = absurd (omega arith)
  row_listed c (q ∷ row) p (zero, lt, e) = (0, omega arith, ap (λ z. record { at = c; pair = z }) e)
  row_listed c (q ∷ row) p (suc k, lt, e) = let (j, l, f) = row_listed c row p (k, omega arith, e) in (suc j, omega arith, f)

  held_listed : (first : ℕ) (rows : List (List Pair)) (c : ℕ) (p : Pair) → Contains (slice_index_or rows c []) p → Contains (held_from first rows) (record { at = first + c; pair = p })
  held_listed first [] c p (k, lt, e) = absurd (omega arith)
  held_listed first (row ∷ rows) zero p at =
      let z : first ≡ first + 0 = omega arith in
      subst (λ k. Contains (held_from first (row ∷ rows)) (record { at = k; pair = p })) z (Contains-append_left (held_in_row first row) (held_from (suc first) rows) (record { at = first; pair = p }) (row_listed first row p at))
  held_listed first (row ∷ rows) (suc c) p at =
      let s : suc first + c ≡ first + suc c = omega arith in
      subst (λ k. Contains (held_from first (row ∷ rows)) (record { at = k; pair = p })) s (Contains-append_right (held_in_row first row) (held_from (suc first) rows) (record { at = suc first + c; pair = p }) (held_listed (suc first) rows c p at))

  abbrev agree : Held → Held → Bool
  agree a b = if is_pair a.pair.x a.pair.y b.pair then a.at == b.at else true

  abbrev held_once : List Held → Bool
  held_once hs = list_all (λ a. list_all (agree a) hs) hs

  once_true : (p q : Pair) (c d : ℕ) → held_once (held_from 0 g.pairs) ≡ true → Contains (slice_index_or g.pairs c []) p → Contains (slice_index_or g.pairs d []) q → is_pair p.x p.y q ≡ true → c ≡ d
  once_true p q c d e at bt is =
      let hs = held_from 0 g.pairs in
      let a = held_listed 0 g.pairs c p at in
      let b = held_listed 0 g.pairs d q bt in
      let one = all_true (λ k. list_all (agree k) hs) hs (record { at = 0 + c; pair = p }) e a in
      let two = all_true (agree (record { at = 0 + c; pair = p })) hs (record { at = 0 + d; pair = q }) one b in
      let three : ((0 + c) == (0 + d)) ≡ true = by_test (is_pair p.x p.y q) is two in
      let four = eqb-true (0 + c) (0 + d) three in
      omega arith
    where
      by_test : (t : Bool) → t ≡ true → (if t then (0 + c) == (0 + d) else true) ≡ true → ((0 + c) == (0 + d)) ≡ true
      by_test true e f = f
      by_test false e f = cc

  straight : (x y : ℕ) → is_pair x y (record { x = x; y = y }) ≡ true
  straight x y = rw (eq_same x, eq_same y) refl

  turned : (x y : ℕ) → is_pair x y (record { x = y; y = x }) ≡ true
  turned x y = both (y == x) (x == y) (x == x) (y == y) (eq_same x) (eq_same y)
    where
      both : (a b c d : Bool) → c ≡ true → d ≡ true → ((a && b) || (d && c)) ≡ true
      both true true c d e f = refl
      both true false true true e f = refl
      both true false true false e f = cc
      both true false false d e f = cc
      both false b true true e f = refl
      both false b true false e f = cc
      both false b false d e f = cc

  pairs_once : held_once (held_from 0 g.pairs) ≡ true → PairsInOneClass g
  pairs_once e c d x y (inl a) (inl b) = once_true (record { x = x; y = y }) (record { x = x; y = y }) c d e a b (straight x y)
  pairs_once e c d x y (inl a) (inr b) = once_true (record { x = x; y = y }) (record { x = y; y = x }) c d e a b (turned x y)
  pairs_once e c d x y (inr a) (inl b) = once_true (record { x = y; y = x }) (record { x = x; y = y }) c d e a b (turned y x)
  pairs_once e c d x y (inr a) (inr b) = once_true (record { x = y; y = x }) (record { x = y; y = x }) c d e a b (straight y x)

  -- true stands at the first class, and each input at its leaf
  abbrev is_some : Option ℕ → ℕ → Bool
  is_some None c = false
  is_some (Some d) c = d == c

  some_true : (o : Option ℕ) (c : ℕ) → is_some o c ≡ true → o ≡ Some c
  some_true None c e = cc
  some_true (Some d) c e = ap Some (eqb-true d c e)

  abbrev base_right : ℕ → Base → Bool
  base_right b base_true = class (2 * b) == g.one
  base_right b (base_input i) = is_some (slice_get g.leaves i) (class (2 * b))
  base_right b (base_and fs) = true

  abbrev bases_right : ℕ → List Base → Bool
  bases_right b [] = true
  bases_right b (base ∷ bases) = base_right b base && bases_right (suc b) bases

  base_is_right : (first : ℕ) (bases : List Base) → bases_right first bases ≡ true → (b : ℕ) (base : Base) → slice_get bases b ≡ Some base → base_right (first + b) base ≡ true
  base_is_right first [] e b base at = cc
  base_is_right first (d ∷ bases) e zero base at =
      let s : d ≡ base = cc in
      let z : first ≡ first + 0 = omega arith in
      subst (λ k. base_right k base ≡ true) z (subst (λ k. base_right first k ≡ true) s (and_parts (base_right first d) (bases_right (suc first) bases) e).0)
  base_is_right first (d ∷ bases) e (suc b) base at =
      let s : suc first + b ≡ first + suc b = omega arith in
      subst (λ k. base_right k base ≡ true) s (base_is_right (suc first) bases (and_parts (base_right first d) (bases_right (suc first) bases) e).1 b base at)

  abbrev is_input_at : ℕ → ℕ → Base → Bool
  is_input_at i b base_true = false
  is_input_at i b (base_input j) = j == i
  is_input_at i b (base_and fs) = false

  abbrev is_true_base : Base → Bool
  is_true_base base_true = true
  is_true_base (base_input j) = false
  is_true_base (base_and fs) = false

  -- a listed base of the kind
  abbrev input_listed : ℕ → List Base → Bool
  input_listed i bases = list_any (is_input_at i 0) bases

  abbrev leaves_listed : ℕ → List ℕ → List Base → Bool
  leaves_listed i [] bases = true
  leaves_listed i (c ∷ cs) bases = input_listed i bases && leaves_listed (suc i) cs bases

  leaf_listed : (first : ℕ) (cs : List ℕ) (bases : List Base) → leaves_listed first cs bases ≡ true → (i c : ℕ) → slice_get cs i ≡ Some c → input_listed (first + i) bases ≡ true
  leaf_listed first [] bases e i c at = cc
  leaf_listed first (d ∷ cs) bases e zero c at =
      let z : first ≡ first + 0 = omega arith in
      subst (λ k. input_listed k bases ≡ true) z (and_parts (input_listed first bases) (leaves_listed (suc first) cs bases) e).0
  leaf_listed first (d ∷ cs) bases e (suc i) c at =
      let s : suc first + i ≡ first + suc i = omega arith in
      subst (λ k. input_listed k bases ≡ true) s (leaf_listed (suc first) cs bases (and_parts (input_listed first bases) (leaves_listed (suc first) cs bases) e).1 i c at)

  place_of : (bases : List Base) (base : Base) → Contains bases base → (b : ℕ) × (slice_get bases b ≡ Some base)
  place_of [] base (k, lt, e) = absurd (omega arith)
  place_of (d ∷ bases) base (zero, lt, e) = (0, ap Some e)
  place_of (d ∷ bases) base (suc k, lt, e) = let (b, f) = place_of bases base (k, omega arith, e) in (suc b, f)

  input_base : (i : ℕ) (base : Base) → is_input_at i 0 base ≡ true → base ≡ base_input i
  input_base i base_true e = cc
  input_base i (base_input j) e = ap base_input (eqb-true j i e)
  input_base i (base_and fs) e = cc

  true_base : (base : Base) → is_true_base base ≡ true → base ≡ base_true
  true_base base_true e = refl
  true_base (base_input j) e = cc
  true_base (base_and fs) e = cc

  -- the two forms of a signal have one class
  abbrev links_same : List ℕ → List ℕ → Bool
  links_same [] facs = true
  links_same (f ∷ sops) [] = true
  links_same (f ∷ sops) (h ∷ facs) = (class f == class h) && links_same sops facs

  link_same : (sops facs : List ℕ) → links_same sops facs ≡ true → (s f h : ℕ) → slice_get sops s ≡ Some f → slice_get facs s ≡ Some h → class f ≡ class h
  link_same [] facs e s f h a b = cc
  link_same (x ∷ sops) [] e s f h a b = cc
  link_same (x ∷ sops) (y ∷ facs) e zero f h a b =
      let p : x ≡ f = cc in
      let q : y ≡ h = cc in
      let r = eqb-true (class x) (class y) (and_parts (class x == class y) (links_same sops facs) e).0 in
      ap class (sym p) ∙ (r ∙ ap class q)
  link_same (x ∷ sops) (y ∷ facs) e (suc s) f h a b = link_same sops facs (and_parts (class x == class y) (links_same sops facs) e).1 s f h a b

  -- forms of one class are one form, or two that are known to be equivalent
  abbrev is_two : ℕ → ℕ → Two → Bool
  is_two f h t = t.first == f && t.second == h

  abbrev apart : List Two → ℕ → ℕ → Bool
  apart merged f h = if class f == class h then f == h || list_any (is_two f h) merged else true

  abbrev apart_below : List Two → ℕ → ℕ → Bool
  apart_below merged f zero = true
  apart_below merged f (suc n) = apart merged f n && apart_below merged f n

  abbrev all_apart : List Two → ℕ → ℕ → Bool
  all_apart merged count zero = true
  all_apart merged count (suc n) = apart_below merged n count && all_apart merged count n

  apart_at : (merged : List Two) (f n h : ℕ) → apart_below merged f n ≡ true → h < n → apart merged f h ≡ true
  apart_at merged f zero h e lt = absurd (omega arith)
  apart_at merged f (suc n) h e lt = by_place (eq-or-lt_of_le {n = h} {m = n} (omega arith)) (apart_at merged f n h (and_parts (apart merged f n) (apart_below merged f n) e).1)
    where
      by_place : (h ≡ n) ⊎ (h < n) → (h < n → apart merged f h ≡ true) → apart merged f h ≡ true
      by_place (inl s) ih = subst (λ k. apart merged f k ≡ true) (sym s) (and_parts (apart merged f n) (apart_below merged f n) e).0
      by_place (inr l) ih = ih l

  all_apart_at : (merged : List Two) (count n f h : ℕ) → all_apart merged count n ≡ true → f < n → h < count → apart merged f h ≡ true
  all_apart_at merged count zero f h e lt m = absurd (omega arith)
  all_apart_at merged count (suc n) f h e lt m = by_place (eq-or-lt_of_le {n = f} {m = n} (omega arith)) (λ l. all_apart_at merged count n f h (and_parts (apart_below merged n count) (all_apart merged count n) e).1 l m)
    where
      by_place : (f ≡ n) ⊎ (f < n) → (f < n → apart merged f h ≡ true) → apart merged f h ≡ true
      by_place (inl s) ih = subst (λ k. apart merged k h ≡ true) (sym s) (apart_at merged n count h (and_parts (apart_below merged n count) (all_apart merged count n) e).0 m)
      by_place (inr l) ih = ih l

module _ (mode : Mode) (forms : NumberedForms) (g : Graph) (merged : List Two) where
  -- the tests, all of which the graph passes
  pub record PassesTests : Type 0 where
    pub facts : list_all (fact_held g) (nand_facts mode forms) ≡ true
    pub rows : rows_from g (nand_facts mode forms) 0 g.pairs ≡ true
    pub once : held_once g (held_from g 0 g.pairs) ≡ true
    pub bases : bases_right g 0 forms.bases ≡ true
    pub tops : list_any (is_true_base g) forms.bases ≡ true
    pub leaves : leaves_listed g 0 g.leaves forms.bases ≡ true
    pub links : links_same g forms.sops forms.facs ≡ true
    pub apart : all_apart g merged (2 * length forms.bases) (2 * length forms.bases) ≡ true
    pub merges : AllByRecursion (λ t. Equivalent (family_of mode forms) t.first t.second) merged

  module _ (passes : PassesTests) where
    abbrev F : Rattle.lw_laws.specs.Families.Family
    F = family_of mode forms

    held_fact : (f x y : ℕ) → IsNand F f x y → HoldsPair g (class g f) (class g x) (class g y)
    held_fact f x y (inl cut) = row_holds g (class g f) (class g x) (class g y) (all_true (fact_held g) (nand_facts mode forms) (record { form = f; left = x; right = y }) passes.facts (fact_listed forms mode f x y cut))
    held_fact f x y (inr cut) =
        swapped (row_holds g (class g f) (class g y) (class g x) (all_true (fact_held g) (nand_facts mode forms) (record { form = f; left = y; right = x }) passes.facts (fact_listed forms mode f y x cut)))
      where
        swapped : HoldsPair g (class g f) (class g y) (class g x) → HoldsPair g (class g f) (class g x) (class g y)
        swapped (inl h) = inr h
        swapped (inr h) = inl h

    from_fact : (c x y : ℕ) → Contains (slice_index_or g.pairs c []) (record { x = x; y = y }) → HasNand F g c x y
    from_fact c x y at =
        let p : Pair = record { x = x; y = y } in
        let (k, listed, is) = rows_hold g (nand_facts mode forms) 0 g.pairs passes.rows c p at in
        let (a, b) = and_parts (class g k.form == 0 + c) ((class g k.left == x && class g k.right == y) || (class g k.left == y && class g k.right == x)) is in
        let z : 0 + c ≡ c = omega arith in
        by_side k (fact_is forms mode k listed) (eqb-true (class g k.form) (0 + c) a ∙ z) (or_cases (class g k.left == x && class g k.right == y) (class g k.left == y && class g k.right == x) b)
      where
        by_side : (k : NandFact) → F.IsSplit k.form k.left k.right → class g k.form ≡ c → ((class g k.left == x && class g k.right == y) ≡ true) ⊎ ((class g k.left == y && class g k.right == x) ≡ true) → HasNand F g c x y
        by_side k cut here (inl h) =
            let (a, b) = and_parts (class g k.left == x) (class g k.right == y) h in
            record { form = k.form; left = k.left; right = k.right; is_nand = inl cut; form_at = here; left_at = eqb-true (class g k.left) x a; right_at = eqb-true (class g k.right) y b }
        by_side k cut here (inr h) =
            let (a, b) = and_parts (class g k.left == y) (class g k.right == x) h in
            record { form = k.form; left = k.right; right = k.left; is_nand = inr cut; form_at = here; left_at = eqb-true (class g k.right) x b; right_at = eqb-true (class g k.left) y a }

    turned_nand : (c x y : ℕ) → HasNand F g c y x → HasNand F g c x y
    turned_nand c x y h = record { form = h.form; left = h.right; right = h.left; is_nand = other h.is_nand; form_at = h.form_at; left_at = h.right_at; right_at = h.left_at }
      where
        other : IsNand F h.form h.left h.right → IsNand F h.form h.right h.left
        other (inl s) = inr s
        other (inr s) = inl s

    pairs_to : (c x y : ℕ) → HoldsPair g c x y → HasNand F g c x y
    pairs_to c x y (inl at) = from_fact c x y at
    pairs_to c x y (inr at) = turned_nand c x y (from_fact c y x at)

    pairs_from : (c x y : ℕ) → HasNand F g c x y → HoldsPair g c x y
    pairs_from c x y h =
        let p = held_fact h.form h.left h.right h.is_nand in
        subst (λ k. HoldsPair g k x y) h.form_at (subst (λ k. HoldsPair g (class g h.form) x k) h.right_at (subst (λ k. HoldsPair g (class g h.form) k (class g h.right)) h.left_at p))

    equivalent_same : {f h : ℕ} → Equivalent F f h → class g f ≡ class g h
    equivalent_same e =
        Equivalent-name F (class g)
        (λ f h (s, a, b). link_same g forms.sops forms.facs passes.links s f h a b)
        (λ f h e. class_of-flip g f ∙ (ap flip e ∙ sym (class_of-flip g h)))
        (λ f h x y u v n m p q. pairs_once g passes.once (class g f) (class g h) (class g u) (class g v) (subst (λ k. HoldsPair g (class g f) (class g u) k) q (subst (λ k. HoldsPair g (class g f) k (class g y)) p (held_fact f x y n))) (held_fact h u v m))
        e

    same_equivalent : (f h : ℕ) → NumberOccurs forms f → NumberOccurs forms h → class g f ≡ class g h → Equivalent F f h
    same_equivalent f h o p e = by_test (all_apart_at g merged (2 * length forms.bases) (2 * length forms.bases) f h passes.apart (omega arith) (omega arith))
      where
        equal : (class g f == class g h) ≡ true
        equal = subst (λ k. (class g f == k) ≡ true) e (eq_same (class g f))

        opened : (t : Bool) → t ≡ true → (if t then f == h || list_any (is_two g f h) merged else true) ≡ true → (f == h || list_any (is_two g f h) merged) ≡ true
        opened true s r = r
        opened false s r = cc

        find : (ts : List Two) → AllByRecursion (λ t. Equivalent F t.first t.second) ts → list_any (is_two g f h) ts ≡ true → Equivalent F f h
        find [] a r = cc
        find (t ∷ ts) (q, a) r = either (or_cases (is_two g f h t) (list_any (is_two g f h) ts) r) (find ts a)
          where
            either : (is_two g f h t ≡ true) ⊎ (list_any (is_two g f h) ts ≡ true) → (list_any (is_two g f h) ts ≡ true → Equivalent F f h) → Equivalent F f h
            either (inl s) ih =
                let (x, y) = and_parts (t.first == f) (t.second == h) s in
                subst (λ k. Equivalent F f k) (eqb-true t.second h y) (subst (λ k. Equivalent F k t.second) (eqb-true t.first f x) q)
            either (inr s) ih = ih s

        by_test : apart g merged f h ≡ true → Equivalent F f h
        by_test r = either (or_cases (f == h) (list_any (is_two g f h) merged) (opened (class g f == class g h) equal r))
          where
            either : ((f == h) ≡ true) ⊎ (list_any (is_two g f h) merged ≡ true) → Equivalent F f h
            either (inl s) = subst (λ k. Equivalent F f k) (eqb-true f h s) (same o)
            either (inr s) = find merged passes.merges s

    -- a graph that passes the tests encodes the forms
    pub tests_encode : Encodes F g
    tests_encode = record {
      classes = λ f h o p. (same_equivalent f h o p, λ e. equivalent_same e);
      pairs = λ c x y. (pairs_to c x y, pairs_from c x y);
      leaves = λ i c. (leaf_to i c, leaf_from i c);
      one = λ c. (one_to c, one_from c);
    }
      where
        leaf_to : (i c : ℕ) → slice_get g.leaves i ≡ Some c → (f : ℕ) × F.IsInput f i × (class g f ≡ c)
        leaf_to i c at =
            let z : 0 + i ≡ i = omega arith in
            let listed = subst (λ k. input_listed g k forms.bases ≡ true) z (leaf_listed g 0 g.leaves forms.bases passes.leaves i c at) in
            let (base, has, is) = any_true (is_input_at g i 0) forms.bases listed in
            let (b, here) = place_of g forms.bases base has in
            let e = here ∙ ap Some (input_base g i base is) in
            let right = some_true g (slice_get g.leaves i) (class g (2 * (0 + b))) (base_is_right g 0 forms.bases passes.bases b (base_input i) e) in
            let y : 0 + b ≡ b = omega arith in
            let right' : slice_get g.leaves i ≡ Some (class g (2 * b)) = subst (λ k. slice_get g.leaves i ≡ Some (class g (2 * k))) y right in
            (2 * b, (b, e, refl), cc)

        leaf_from : (i c : ℕ) → (f : ℕ) × F.IsInput f i × (class g f ≡ c) → slice_get g.leaves i ≡ Some c
        leaf_from i c (f, (b, e, s), here) =
            let y : 0 + b ≡ b = omega arith in
            let right = some_true g (slice_get g.leaves i) (class g (2 * (0 + b))) (base_is_right g 0 forms.bases passes.bases b (base_input i) e) in
            subst (λ k. slice_get g.leaves i ≡ Some (class g (2 * k))) y right ∙ ap Some (ap (class g) (sym s) ∙ here)

        one_to : (c : ℕ) → c ≡ g.one → (f : ℕ) × F.IsTop f × (class g f ≡ c)
        one_to c s =
            let (base, has, is) = any_true (is_true_base g) forms.bases passes.tops in
            let (b, here) = place_of g forms.bases base has in
            let e = here ∙ ap Some (true_base g base is) in
            let y : 0 + b ≡ b = omega arith in
            let right = eqb-true (class g (2 * (0 + b))) g.one (base_is_right g 0 forms.bases passes.bases b base_true e) in
            (2 * b, (b, e, refl), subst (λ k. class g (2 * k) ≡ g.one) y right ∙ sym s)

        one_from : (c : ℕ) → (f : ℕ) × F.IsTop f × (class g f ≡ c) → c ≡ g.one
        one_from c (f, (b, e, s), here) =
            let y : 0 + b ≡ b = omega arith in
            let right = eqb-true (class g (2 * (0 + b))) g.one (base_is_right g 0 forms.bases passes.bases b base_true e) in
            sym here ∙ (ap (class g) s ∙ subst (λ k. class g (2 * k) ≡ g.one) y right)
