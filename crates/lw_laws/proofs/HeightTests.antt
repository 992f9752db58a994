-- Tests of the heights of a small graph, which hold only where they are 0 at inputs and elsewhere what the attaining matches give.
use Rattle.std.proofs.Common.{ℕ, zero, suc, ◌+◌, ◌≤◌, ◌≡◌, ◌==◌, ◌⊎◌, max, Bool, true, false, not, ◌||◌, leb, List, [], ◌∷◌, length, Option, Some, None, slice_get, slice_index_or, ap, sym, ◌∙◌, subst, arith}
use Rattle.std.specs.List.{AllByRecursion}
use Rattle.std.proofs.lemmas.Bool.{leb-true}
use Rattle.lw_laws.specs.Graphs.{Graph}
use Rattle.lw_laws.specs.Covers.{Pattern, HasPins}
use Rattle.lw_laws.specs.Costs.{Cost}
use Rattle.lw_laws.specs.Choices.{Choices, Attains, IsInputClass, AreHeights}
use Rattle.lw_laws.specs.Matches.{choices_of}
use Rattle.lw_laws.specs.Rounds.{labels_in}
use Rattle.lw_laws.proofs.Facts.{eq_same}
use Rattle.lw_laws.proofs.PotentialTests.{PassesLabelTests, classes_pass, match_passes}

module _ (labels : List (Option ℕ)) (heights : List ℕ) where
  abbrev known : ℕ → Option ℕ
  known = labels_in labels

  abbrev pub height : ℕ → ℕ
  height c = slice_index_or heights c 0

  -- the greatest of the heights of some classes
  abbrev greatest : List ℕ → ℕ
  greatest [] = 0
  greatest (p ∷ ps) = max (height p) (greatest ps)

  greatest_low : (h : ℕ) (ps : List ℕ) → AllByRecursion (λ p. height p ≤ h) ps → greatest ps ≤ h
  greatest_low h [] a = omega arith
  greatest_low h (p ∷ ps) (le, a) = let ih = greatest_low h ps a in omega arith

  abbrev is_label : Option ℕ → ℕ → Bool
  is_label None d = false
  is_label (Some l) d = l == d

  label_same : (o : Option ℕ) (d : ℕ) → o ≡ Some d → is_label o d ≡ true
  label_same None d e = cc
  label_same (Some l) d e = let same : l ≡ d = cc in subst (λ k. (l == k) ≡ true) same (eq_same l)

  module _ (g : Graph) (pats : List Pattern) (cost : Cost) where
    abbrev M : Choices
    M = choices_of g cost.pin_counts pats

    -- the match does not attain the label of the class, or the class is at most 1 higher than its pins
    abbrev pub is_low : ℕ → ℕ → List ℕ → List ℕ → Bool
    is_low c cell ps ls = not (is_label (known c) (cost.value cell ls)) || leb (height c) (suc (greatest ps))

    low_true : (h k : ℕ) (t : Bool) → t ≡ true → (not t || leb h k) ≡ true → h ≤ k
    low_true h k true s e = leb-true h k e
    low_true h k false s e = cc

    -- an input's class, or one with an attaining match whose pins are lower
    abbrev pub IsReached : ℕ → Type 0
    IsReached c = IsInputClass M c ⊎ ((cell : ℕ) × (ps : List ℕ) × (h : ℕ) × Attains M cost known c cell ps × AllByRecursion (λ p. height p ≤ h) ps × (suc h ≤ height c))

    abbrev pub AreReached : ℕ → List (Option ℕ) → Type 0
    AreReached c [] = Unit {0}
    AreReached c (None ∷ os) = AreReached (suc c) os
    AreReached c (Some l ∷ os) = IsReached c × AreReached (suc c) os

    reached_at : (first : ℕ) (os : List (Option ℕ)) → AreReached first os → (k l : ℕ) → slice_index_or os k None ≡ Some l → IsReached (first + k)
    reached_at first [] a k l e = cc
    reached_at first (None ∷ os) a zero l e = cc
    reached_at first (Some m ∷ os) (r, a) zero l e = let z : first ≡ first + 0 = omega arith in subst IsReached z r
    reached_at first (None ∷ os) a (suc k) l e = let z : suc first + k ≡ first + suc k = omega arith in subst IsReached z (reached_at (suc first) os a k l e)
    reached_at first (Some m ∷ os) (r, a) (suc k) l e = let z : suc first + k ≡ first + suc k = omega arith in subst IsReached z (reached_at (suc first) os a k l e)

    leaf_low : (cs : List ℕ) → AllByRecursion (λ c. height c ≡ 0) cs → (c i : ℕ) → slice_get cs i ≡ Some c → height c ≡ 0
    leaf_low [] a c i e = cc
    leaf_low (d ∷ cs) (z, a) c zero e = let same : d ≡ c = cc in subst (λ k. height k ≡ 0) same z
    leaf_low (d ∷ cs) (z, a) c (suc i) e = leaf_low cs a c i e

    pub record PassesHeightTests : Type 0 where
      pub inputs : AllByRecursion (λ c. height c ≡ 0) g.leaves
      pub reached : AreReached 0 labels
      pub low : classes_pass labels g pats cost is_low (length g.pairs) ≡ true

    -- heights that pass the tests are the heights
    pub tests_heights : PassesLabelTests labels g pats cost → PassesHeightTests → AreHeights M cost known height
    tests_heights labelled passes = record {
      inputs = λ c i at. leaf_low g.leaves passes.inputs c i at;
      reached = λ c l e. let z : 0 + c ≡ c = omega arith in subst IsReached z (reached_at 0 labels passes.reached c l e);
      bounded = bounded_at;
    }
      where
        bounded_at : (c cell : ℕ) (ps : List ℕ) (h : ℕ) → Attains M cost known c cell ps → AllByRecursion (λ p. height p ≤ h) ps → height c ≤ suc h
        bounded_at c cell ps h a low =
            let m = a.stands in
            let pins = subst (λ k. HasPins cost.pin_counts k (length ps)) (sym m.cell_is) m.pins in
            let test = match_passes labels g pats cost labelled is_low passes.low c m.pattern ps a.pin_labels m.listed pins m.stands a.have in
            let value = a.value ∙ ap (λ k. Some (cost.value k a.pin_labels)) (sym m.cell_is) in
            let most = low_true (height c) (suc (greatest ps)) (is_label (known c) (cost.value m.pattern.cell a.pin_labels)) (label_same (known c) (cost.value m.pattern.cell a.pin_labels) value) test in
            let all = greatest_low h ps low in
            omega arith
