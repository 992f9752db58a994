-- The chosen match of a class cannot fail to be there.
use Rattle.std.proofs.Common.{ℕ, suc, ◌<◌, ◌≤◌, ◌≡◌, ◌⊎◌, inl, inr, List, length, Some, slice_get, ap, sym, ◌∙◌, subst, arith}
use Rattle.std.specs.List.{AllByRecursion}
use native.Mathlib.Nat.{eq-or-lt_of_le}
use Rattle.lw_facts.proofs.Lists.{contained_at}
use Rattle.lw_laws.specs.Graphs.{Graph}
use Rattle.lw_laws.specs.Covers.{Pattern, HasPins}
use Rattle.lw_laws.specs.Costs.{Cost}
use Rattle.lw_laws.specs.Choices.{Labels, Attains, IsInputClass, AreHeights}
use Rattle.lw_laws.specs.Matches.{choices_of}
use Rattle.lw_laws.specs.Extracts.{Match, Supports, IsMatchAtMost, IsChosen, IsLeafClass}
use Rattle.lw_laws.proofs.Heights.{all_weaker}
use Rattle.lw_exists.specs.Weakly.{Weakly}
use Rattle.lw_exists.proofs.Weak.{and_then, weaker, weak_least}
use Rattle.lw_exists.proofs.FirstLists.{IsFirstList, weak_first}

module _ (g : Graph) (cost : Cost) (pats : List Pattern) (labels : Labels) (heights : ℕ → ℕ) (c : ℕ) where
  abbrev HasSupport : Type 0
  HasSupport = (m : Match) × (p : Pattern) × Supports g cost pats labels heights c m p

  abbrev of_pins : ℕ → List ℕ → Match
  of_pins n pins = record { pattern = n; pins = pins }

  -- a supporting match by this pattern
  abbrev SupportsBy : ℕ → Type 0
  SupportsBy n = (pins : List ℕ) × (p : Pattern) × Supports g cost pats labels heights c (of_pins n pins) p

  abbrev HasPinsFor : ℕ → List ℕ → Type 0
  HasPinsFor n pins = (p : Pattern) × Supports g cost pats labels heights c (of_pins n pins) p

  supported : AreHeights (choices_of g cost.pin_counts pats) cost labels heights → (l : ℕ) → labels c ≡ Some l → (IsLeafClass g c → ⊥) → HasSupport
  supported are l e inner = by_case (are.reached c l e)
    where
      by_match : (cell : ℕ) (ps : List ℕ) (h : ℕ) → Attains (choices_of g cost.pin_counts pats) cost labels c cell ps → AllByRecursion (λ p. heights p ≤ h) ps → suc h ≤ heights c → HasSupport
      by_match cell ps h a low lt =
          let m = a.stands in
          let (n, at) = contained_at pats m.pattern m.listed in (
            of_pins n ps,
            m.pattern,
            record {
              matches = record { listed = at; pins = subst (λ k. HasPins cost.pin_counts k (length ps)) (sym m.cell_is) m.pins; stands = m.stands };
              pin_labels = a.pin_labels;
              have = a.have;
              value = a.value ∙ ap (λ k. Some (cost.value k a.pin_labels)) (sym m.cell_is);
              lower = all_weaker (λ p. heights p ≤ h) (λ q. suc (heights q) ≤ heights c) (λ q le. omega arith) ps low;
            },
          )

      by_case : IsInputClass (choices_of g cost.pin_counts pats) c ⊎ ((cell : ℕ) × (ps : List ℕ) × (h : ℕ) × Attains (choices_of g cost.pin_counts pats) cost labels c cell ps × AllByRecursion (λ p. heights p ≤ h) ps × (suc h ≤ heights c)) → HasSupport
      by_case (inl leaf) = absurd (inner leaf)
      by_case (inr (cell, ps, h, a, low, lt)) = by_match cell ps h a low lt

  -- the matches of one pattern have as many pins
  as_many : (n : ℕ) (xs ys : List ℕ) → HasPinsFor n xs → HasPinsFor n ys → length ys ≡ length xs
  as_many n xs ys (p, a) (q, b) =
      let e = a.matches.listed in
      let f = b.matches.listed in
      let same : p ≡ q = cc in
      let i : slice_get cost.pin_counts q.cell ≡ Some (length xs) = subst (λ (r : Pattern). slice_get cost.pin_counts r.cell ≡ Some (length xs)) same a.matches.pins in
      let j = b.matches.pins in
      cc

  chosen_is : (n : ℕ) (pins : List ℕ) → ((k : ℕ) → SupportsBy k → n ≤ k) → IsFirstList (HasPinsFor n) pins → (m : Match) × (p : Pattern) × IsChosen g cost pats labels heights c m p
  chosen_is n pins least ((p, is), firsts) = (of_pins n pins, p, record { supports = is; first = first })
    where
      by_pattern : (k : Match) (q : Pattern) → Supports g cost pats labels heights c k q → (n ≡ k.pattern) ⊎ (n < k.pattern) → IsMatchAtMost (of_pins n pins) k
      by_pattern k q s (inl e) = inr (e, firsts k.pins (q, subst (λ j. Supports g cost pats labels heights c (of_pins j k.pins) q) (sym e) s))
      by_pattern k q s (inr l) = inl l

      first : (k : Match) (q : Pattern) → Supports g cost pats labels heights c k q → IsMatchAtMost (of_pins n pins) k
      first k q s = by_pattern k q s (eq-or-lt_of_le {n = n} {m = k.pattern} (least k.pattern (k.pins, q, s)))

  pub weak_chosen : AreHeights (choices_of g cost.pin_counts pats) cost labels heights → (l : ℕ) → labels c ≡ Some l → (IsLeafClass g c → ⊥) → Weakly ((m : Match) × (p : Pattern) × IsChosen g cost pats labels heights c m p)
  weak_chosen are l e inner =
      let (m, p, s) = supported are l e inner in
      and_then (weak_least SupportsBy m.pattern (m.pins, p, s)) by_pins
    where
      by_pins : (n : ℕ) × SupportsBy n × ((k : ℕ) → SupportsBy k → n ≤ k) → Weakly ((m : Match) × (p : Pattern) × IsChosen g cost pats labels heights c m p)
      by_pins (n, (pins, p, s), least) =
          weaker (λ (ys, is). chosen_is n ys least is) (weak_first (length pins) (HasPinsFor n) (λ ys q. as_many n pins ys (p, s) q) pins (p, s))
