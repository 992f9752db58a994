-- Labels that are no bound.
use Rattle.std.proofs.Common.{ℕ, ◌<◌, ◌≡◌, ◌%◌, ◌⊎◌, ◌↔◌, inl, inr, List, length, Option, Some, None, IsNone, IfSome, option_map, refl, ap, sym, ◌∙◌, subst, arith}
use Rattle.std.proofs.lemmas.Option.{same_Some}
use Rattle.lw_facts.proofs.Lists.{all_at, contained_at}
use native.Mathlib.Decide.{dec_lt}
use Rattle.lw_pool.specs.declared.id.ClassId.{ClassId}
use Rattle.lw_laws.specs.Graphs.{Graph}
use Rattle.lw_laws.specs.Costs.{Cost}
use Rattle.lw_laws.specs.Covers.{Pattern, HasPins}
use Rattle.lw_laws.specs.Choices.{Labels, HasLabelAtMost}
use Rattle.lw_laws.specs.Extracts.{Match, IsMatchOf}
use Rattle.lw_laws.specs.Laws.{HasClasses}
use Rattle.lw_laws.specs.Mapped.{IsPotentialOf}
use Rattle.lw_laws.specs.Rounds.{labels_in}
use Rattle.lw_laws.proofs.Extracts.{listed_at}
use Rattle.lw_laws.proofs.RoundLaws.{match_in}
use Rattle.lw_graph.specs.Graphs.{IsGraph}
use Rattle.lw_cost.specs.Coming.{IsPatternMatch}
use Rattle.lw_cost.specs.Least.{AreOfCells}
use Rattle.lw_cost.proofs.CellMatches.{of_cell, of_pattern}
use Rattle.lw_check.specs.Claims.{class_number}
use Rattle.lw_check.specs.Failing.{IsMatchCost, Gives, IsAbove, IsFailing, IsFirstFailing}
use Rattle.lw_check.specs.Least.{IsLeastOf, IsLate, IsLow, IsByPattern, CostsBy, IsLowMatch, lesser_of}
use Rattle.lw_check.proofs.Lesser.{lesser_least}

-- a label that is there and not above d is not above it
pub at_most_not_above : (labels : Labels) (c d : ℕ) → HasLabelAtMost labels c d → IsAbove (labels c) d → ⊥
at_most_not_above labels c d (l, e, le) above = let lt : d < l = subst (λ o. IsAbove o d) e above in omega arith

pub not_above_at_most : (labels : Labels) (c d : ℕ) → (IsAbove (labels c) d → ⊥) → HasLabelAtMost labels c d
not_above_at_most labels c d not = by_label (labels c) refl not
  where
    by_order : (l : ℕ) → labels c ≡ Some l → (d < l → ⊥) → Dec (d < l) → HasLabelAtMost labels c d
    by_order l e not (yes lt) = absurd (not lt)
    by_order l e not (no ge) = (l, e, omega arith)

    by_label : (o : Option ℕ) → labels c ≡ o → (IsAbove o d → ⊥) → HasLabelAtMost labels c d
    by_label None e not = absurd (not tt)
    by_label (Some l) e not = by_order l e not (dec_lt d l)

module _ (g : Graph) (cost : Cost) (pats : List Pattern) where
  module _ (labels : Labels) where
    pub failing_of : (c : ℕ) → IsLate g cost labels c ⊎ IsLow g cost pats labels c → IsFailing g cost pats labels c
    failing_of c (inl (d, leaf, above)) = record { value = d; gives = inl leaf; above = above }
    failing_of c (inr (d, match', above)) = record { value = d; gives = inr match'; above = above }

    pub of_failing : (c : ℕ) → IsFailing g cost pats labels c → IsLate g cost labels c ⊎ IsLow g cost pats labels c
    of_failing c is = by_side is.gives
      where
        by_side : Gives g cost pats labels c is.value → IsLate g cost labels c ⊎ IsLow g cost pats labels c
        by_side (inl leaf) = inl (is.value, leaf, is.above)
        by_side (inr match') = inr (is.value, match', is.above)

    -- a match and what it costs, as one at its class
    pub cost_at : (c : ℕ) (m : Match) (d : ℕ) → AreOfCells cost.pin_counts pats → IsPatternMatch g pats c m → CostsBy cost pats labels m d → IsMatchCost g cost pats labels c d
    cost_at c m d cells is by =
        let (p, at) = of_cell g cost pats c m cells is in
        let same : p ≡ by.pattern = same_Some p by.pattern (sym at.listed ∙ by.listed) in
        record {
          cell = p.cell;
          pins = m.pins;
          stands = record { pattern = p; listed = listed_at pats m.pattern p at.listed; cell_is = refl; pins = at.pins; stands = at.stands };
          pin_labels = by.pin_labels;
          have = by.have;
          value = by.value ∙ ap (λ (q : Pattern). cost.value q.cell by.pin_labels) (sym same);
        }

    -- what a match at a class costs, by the match
    pub at_cost : (c d : ℕ) → AreOfCells cost.pin_counts pats → IsMatchCost g cost pats labels c d → (m : Match) × IsPatternMatch g pats c m × CostsBy cost pats labels m d
    at_cost c d cells is =
        let s = is.stands in
        let (n, at) = contained_at pats s.pattern s.listed in
        let m : Match = record { pattern = n; pins = is.pins } in
        let matches : IsMatchOf g cost pats c m s.pattern = record { listed = at; pins = subst (λ cell. HasPins cost.pin_counts cell (length is.pins)) (sym s.cell_is) s.pins; stands = s.stands } in (
          m,
          of_pattern g cost pats c m cells (s.pattern, matches),
          record { pattern = s.pattern; listed = at; pin_labels = is.pin_labels; have = is.have; value = is.value ∙ ap (λ cell. cost.value cell is.pin_labels) (sym s.cell_is) },
        )

    pub low_of : (c : ℕ) (m : Match) → AreOfCells cost.pin_counts pats → IsPatternMatch g pats c m → IsLowMatch cost pats labels (labels c) m → IsLow g cost pats labels c
    low_of c m cells is (d, by, above) = (d, cost_at c m d cells is by, above)

    pub by_pattern : (c : ℕ) (m : Match) → AreOfCells cost.pin_counts pats → IsPatternMatch g pats c m → IsByPattern cost.pin_counts pats m
    by_pattern c m cells is = let (p, at) = of_cell g cost pats c m cells is in record { pattern = p; listed = at.listed; pins = at.pins }

  module _ (labels : List (Option ℕ)) where
    abbrev pub known : Labels
    known = labels_in labels

    abbrev pub Fails : ℕ → Type 0
    Fails c = IsLate g cost known c ⊎ IsLow g cost pats known c

    -- the earlier of the first late class and the first low one
    pub fails_least : (late low result : Option ClassId) → option_map class_number result ≡ lesser_of (option_map class_number late) (option_map class_number low) → IsLeastOf (IsLate g cost known) (option_map class_number late) → IsLeastOf (IsLow g cost pats known) (option_map class_number low) → IsLeastOf Fails (option_map class_number result)
    fails_least late low result e by_input by_match =
        subst (λ o. IsLeastOf Fails o) (sym e) (lesser_least (IsLate g cost known) (IsLow g cost pats known) (option_map class_number late) (option_map class_number low) by_input by_match)

    -- labels with no failing class are a potential
    pub none_failing : ((c : ℕ) → Fails c → ⊥) → IsPotentialOf g pats cost labels
    none_failing none = record {
      inputs = λ c i at. not_above_at_most known c (cost.leaf i) (λ above. none c (inl (cost.leaf i, (i, at, refl), above)));
      matches = λ c cell ps ls m have. not_above_at_most known c (cost.value cell ls) (λ above. none c (inr (cost.value cell ls, record { cell = cell; pins = ps; stands = m; pin_labels = ls; have = have; value = refl }, above)));
    }

    pub potential_fails_not : IsPotentialOf g pats cost labels → (c : ℕ) → Fails c → ⊥
    potential_fails_not is c (inl (d, (i, at, e), above)) =
        at_most_not_above known c d (subst (λ k. HasLabelAtMost known c k) (sym e) (is.inputs c i at)) above
    potential_fails_not is c (inr (d, m, above)) =
        at_most_not_above known c d (subst (λ k. HasLabelAtMost known c k) (sym m.value) (is.matches c m.cell m.pins m.pin_labels m.stands m.have)) above

    module _ (is_graph : IsGraph g) (one_each : length labels ≡ length g.pairs) where
      classes : HasClasses g (length labels)
      classes = record { all = sym one_each; even = subst (λ n. n % 2 ≡ 0) (sym one_each) is_graph.even; one = subst (λ n. g.one < n) (sym one_each) is_graph.one }

      pub low_in : (c : ℕ) → IsLow g cost pats known c → c < length g.pairs
      low_in c (d, m, above) =
          subst (λ n. c < n) one_each (match_in g pats cost labels classes c m.cell m.pins m.pin_labels m.stands m.have)

      late_in : (c : ℕ) → IsLate g cost known c → c < length g.pairs
      late_in c (d, (i, at, e), above) = all_at (λ b. b < length g.pairs) g.leaves i c is_graph.leaves at

      pub fails_in : (c : ℕ) → Fails c → c < length g.pairs
      fails_in c (inl late) = late_in c late
      fails_in c (inr low) = low_in c low

      pub first_fails : (c : ℕ) → IsLeastOf Fails (Some c) → IsFirstFailing g cost pats known c
      first_fails c (at, least) = record {
        in_range = fails_in c at;
        fails = failing_of known c at;
        first = λ b lt is. let le = least b (of_failing known b is) in absurd (omega arith);
      }

  -- what the first class that fails, or none, says of the labels
  module _ (labels : List (Option ℕ)) (result : Option ClassId) (least : IsLeastOf (Fails labels) (option_map class_number result)) where
    pub none_is_potential : IsNone result ↔ IsPotentialOf g pats cost labels
    none_is_potential = by_result result least
      where
        by_result : (r : Option ClassId) → IsLeastOf (Fails labels) (option_map class_number r) → IsNone r ↔ IsPotentialOf g pats cost labels
        by_result None none = (λ e. none_failing labels none, λ is. refl)
        by_result (Some c) (at, least') = (λ e. absurd (cc), λ is. absurd (potential_fails_not labels is c.0 at))

    pub some_is_first : IsGraph g → length labels ≡ length g.pairs → IfSome result (λ (c : ClassId). IsFirstFailing g cost pats (labels_in labels) c.0)
    some_is_first is_graph one_each = by_result result least
      where
        by_result : (r : Option ClassId) → IsLeastOf (Fails labels) (option_map class_number r) → IfSome r (λ (c : ClassId). IsFirstFailing g cost pats (labels_in labels) c.0)
        by_result None none = tt
        by_result (Some c) least' = first_fails labels is_graph one_each c.0 least'
