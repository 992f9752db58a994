-- The chosen matches of a class are the least ones by the marks of their pins.
use Rattle.std.proofs.Common.{ℕ, zero, suc, ◌≤◌, ◌≡◌, ◌↔◌, inl, inr, List, [], ◌∷◌, length, Option, Some, None, option_map, unwrap_or, refl, ap, ap₂, sym, ◌∙◌, subst, arith}
use Rattle.std.specs.List.{AllByRecursion}
use Rattle.std.proofs.lemmas.Option.{same_Some}
use Rattle.lw_facts.proofs.Lists.{contained_at}
use Rattle.lw_laws.specs.Graphs.{Graph}
use Rattle.lw_laws.specs.Costs.{Cost}
use Rattle.lw_laws.specs.Covers.{Pattern, HasPins}
use Rattle.lw_laws.specs.Choices.{Choices, Labels, HaveLabels, Attains, IsWithin}
use Rattle.lw_laws.specs.Matches.{choices_of, IsMatchAt}
use Rattle.lw_laws.specs.Marks.{Mark, IsMarkAtMost, Marks, HaveMarks, HasMarkAtMost, greatest_height, costs_in, price, labels_of, heights_of}
use Rattle.lw_laws.specs.Extracts.{Match, IsMatchOf, Supports, IsChosen, IsMatchAtMost, IsLeafClass}
use Rattle.lw_laws.specs.Priced.{IsPriced, IsPricedAtMost, AreMarks}
use Rattle.lw_laws.proofs.Heights.{IsWithin_more}
use Rattle.lw_laws.proofs.Extracts.{listed_at}

module _ (g : Graph) (cost : Cost) (pats : List Pattern) (marks : Marks) where
  abbrev M : Choices
  M = choices_of g cost.pin_counts pats

  abbrev known : Labels
  known = labels_of marks

  abbrev Within : ℕ → ℕ → Type 0
  Within c h = IsWithin M cost known c h

  label_is : (c : ℕ) (k : Mark) → marks c ≡ Some k → known c ≡ Some k.cost
  label_is c k e = ap (option_map (λ m. m.cost)) e

  height_is : (c : ℕ) (k : Mark) → marks c ≡ Some k → heights_of marks c ≡ k.height
  height_is c k e = ap (λ o. unwrap_or (option_map (λ m. m.height) o) 0) e

  mark_of : (c l : ℕ) → known c ≡ Some l → (k : Mark) × (marks c ≡ Some k) × (k.cost ≡ l)
  mark_of c l e = by_mark (marks c) refl e
    where
      by_mark : (o : Option Mark) → marks c ≡ o → option_map (λ m. m.cost) o ≡ Some l → (k : Mark) × (marks c ≡ Some k) × (k.cost ≡ l)
      by_mark None s f = cc
      by_mark (Some k) s f = (k, s, cc)

  have_labels : (ps : List ℕ) (ms : List Mark) → HaveMarks marks ps ms → HaveLabels known ps (costs_in ms)
  have_labels [] [] a = tt
  have_labels [] (m ∷ ms) a = absurd a
  have_labels (p ∷ ps) [] a = absurd a
  have_labels (p ∷ ps) (m ∷ ms) (e, a) = (label_is p m e, have_labels ps ms a)

  have_marks : (ps ls : List ℕ) → HaveLabels known ps ls → (ms : List Mark) × HaveMarks marks ps ms × (costs_in ms ≡ ls)
  have_marks [] [] a = ([], tt, refl)
  have_marks [] (l ∷ ls) a = absurd a
  have_marks (p ∷ ps) [] a = absurd a
  have_marks (p ∷ ps) (l ∷ ls) (e, a) =
      let (k, at, s) = mark_of p l e in
      let (ms, have, t) = have_marks ps ls a in
      (k ∷ ms, (at, have), ap₂ (λ x xs. x ∷ xs) s t)

  standing : (c : ℕ) (m : Match) (p : Pattern) → IsMatchOf g cost pats c m p → IsMatchAt g cost.pin_counts pats c p.cell m.pins
  standing c m p at = record { pattern = p; listed = listed_at pats m.pattern p at.listed; cell_is = refl; pins = at.pins; stands = at.stands }

  module _ (are : AreMarks g cost pats marks) where
    -- the pins are within the greatest of their heights
    pins_within : (h : ℕ) (ps : List ℕ) (ms : List Mark) → HaveMarks marks ps ms → greatest_height ms ≤ h → AllByRecursion (λ q. Within q h) ps
    pins_within h [] ms a le = tt
    pins_within h (p ∷ ps) [] a le = absurd a
    pins_within h (p ∷ ps) (m ∷ ms) (e, a) le = (IsWithin_more M cost known m.height h (omega arith) p (are.heights p m e).within, pins_within h ps ms a (omega arith))

    -- no match is priced below the mark of its class
    pub priced_above : (c : ℕ) (m : Match) (p : Pattern) (k : Mark) → IsPriced g cost pats marks c m p k → HasMarkAtMost marks c k
    priced_above c m p k is =
        let stands = standing c m p is.matches in
        let (l, e, le) = are.potential.matches c p.cell m.pins (costs_in is.pin_marks) stands (have_labels m.pins is.pin_marks is.have) in
        let (j, at, s) = mark_of c l e in
        let costs : k.cost ≡ cost.value p.cell (costs_in is.pin_marks) = ap (λ z. z.cost) is.mark_is in
        let heights : k.height ≡ suc (greatest_height is.pin_marks) = ap (λ z. z.height) is.mark_is in (
          j,
          at,
          record {
            cost = omega arith;
            height = λ same.
                let value : known c ≡ Some (cost.value p.cell (costs_in is.pin_marks)) = label_is c j at ∙ ap Some (same ∙ costs) in
                let attains : Attains M cost known c p.cell m.pins = record { stands = stands; pin_labels = costs_in is.pin_marks; have = have_labels m.pins is.pin_marks is.have; value = value } in
                let low = (are.heights c j at).least (suc (greatest_height is.pin_marks)) (inr (p.cell, m.pins, attains, pins_within (greatest_height is.pin_marks) m.pins is.pin_marks is.have (omega arith))) in
                omega arith;
          },
        )

    greatest_low : (h : ℕ) (ps : List ℕ) (ms : List Mark) → HaveMarks marks ps ms → AllByRecursion (λ q. suc (heights_of marks q) ≤ h) ps → 1 ≤ h → suc (greatest_height ms) ≤ h
    greatest_low h [] [] a b one = omega arith
    greatest_low h [] (m ∷ ms) a b one = absurd a
    greatest_low h (p ∷ ps) [] a b one = absurd a
    greatest_low h (p ∷ ps) (m ∷ ms) (e, a) (lt, b) one =
        let here = height_is p m e in
        let rest = greatest_low h ps ms a b one in
        omega arith

    pins_lower : (h : ℕ) (ps : List ℕ) (ms : List Mark) → HaveMarks marks ps ms → suc (greatest_height ms) ≤ h → AllByRecursion (λ q. suc (heights_of marks q) ≤ h) ps
    pins_lower h [] ms a le = tt
    pins_lower h (p ∷ ps) [] a le = absurd a
    pins_lower h (p ∷ ps) (m ∷ ms) (e, a) le = let here = height_is p m e in (omega arith, pins_lower h ps ms a (omega arith))

    -- a class that is no input's has a height
    height_some : (c : ℕ) (k : Mark) → (IsLeafClass g c → ⊥) → marks c ≡ Some k → 1 ≤ k.height
    height_some c k out e = by_height k.height refl (are.heights c k e).within
      where
        by_height : (h : ℕ) → k.height ≡ h → Within c k.height → 1 ≤ k.height
        by_height zero s w = absurd (out (subst (Within c) s w))
        by_height (suc h) s w = omega arith

    mark_same : (k j : Mark) → k.cost ≡ j.cost → k.height ≡ j.height → k ≡ j
    mark_same k j e f = ap₂ (λ x y. record { cost = x; height = y }) e f

    -- the matches that attain the label and the height of a class are those priced at its mark
    pub supports_priced : (c : ℕ) (m : Match) (p : Pattern) (k : Mark) → (IsLeafClass g c → ⊥) → marks c ≡ Some k → Supports g cost pats known (heights_of marks) c m p ↔ IsPriced g cost pats marks c m p k
    supports_priced c m p k out e = (to, from)
      where
        to : Supports g cost pats known (heights_of marks) c m p → IsPriced g cost pats marks c m p k
        to s =
            let (ms, have, same) = have_marks m.pins s.pin_labels s.have in
            let label : Some k.cost ≡ Some (cost.value p.cell s.pin_labels) = sym (label_is c k e) ∙ s.value in
            let value : k.cost ≡ cost.value p.cell s.pin_labels = cc in
            let value' : k.cost ≡ cost.value p.cell (costs_in ms) = value ∙ ap (cost.value p.cell) (sym same) in
            let here = height_is c k e in
            let one = height_some c k out e in
            let lower = subst (λ h. AllByRecursion (λ q. suc (heights_of marks q) ≤ h) m.pins) here s.lower in
            let low = greatest_low k.height m.pins ms have lower one in
            let priced : IsPriced g cost pats marks c m p (price cost p.cell ms) = record { matches = s.matches; pin_marks = ms; have = have; mark_is = refl } in
            let (j, at, above) = priced_above c m p (price cost p.cell ms) priced in
            let one_mark : k ≡ j = same_Some k j (sym e ∙ at) in
            let up = above.height (ap (λ z. z.cost) (sym one_mark) ∙ value') in
            let heights : j.height ≡ k.height = ap (λ z. z.height) (sym one_mark) in
            record { matches = s.matches; pin_marks = ms; have = have; mark_is = mark_same k (price cost p.cell ms) value' (omega arith) }

        from : IsPriced g cost pats marks c m p k → Supports g cost pats known (heights_of marks) c m p
        from is =
            let heights : k.height ≡ suc (greatest_height is.pin_marks) = ap (λ z. z.height) is.mark_is in
            let here = height_is c k e in
            record {
              matches = is.matches;
              pin_labels = costs_in is.pin_marks;
              have = have_labels m.pins is.pin_marks is.have;
              value = label_is c k e ∙ ap (λ z. Some z.cost) is.mark_is;
              lower = pins_lower (heights_of marks c) m.pins is.pin_marks is.have (omega arith);
            }

    lower_pins : (h : ℕ) (ps ls : List ℕ) → HaveLabels known ps ls → AllByRecursion (λ q. Within q h) ps → AllByRecursion (λ q. suc (heights_of marks q) ≤ suc h) ps
    lower_pins h [] ls a w = tt
    lower_pins h (p ∷ ps) [] a w = absurd a
    lower_pins h (p ∷ ps) (l ∷ ls) (e, a) (v, w) =
        let (k, at, s) = mark_of p l e in
        let low = (are.heights p k at).least h v in
        let here = height_is p k at in
        (omega arith, lower_pins h ps ls a w)

    -- a marked class that is no input's has such a match
    pub some_supports : (c : ℕ) (k : Mark) → (IsLeafClass g c → ⊥) → marks c ≡ Some k → (m : Match) × (p : Pattern) × Supports g cost pats known (heights_of marks) c m p
    some_supports c k out e = by_height k.height refl (are.heights c k e).within
      where
        by_match : (h cell : ℕ) (ps : List ℕ) → k.height ≡ suc h → Attains M cost known c cell ps → AllByRecursion (λ q. Within q h) ps → (m : Match) × (p : Pattern) × Supports g cost pats known (heights_of marks) c m p
        by_match h cell ps s a w =
            let st = a.stands in
            let (place, listed) = contained_at pats st.pattern st.listed in
            let here : suc h ≡ heights_of marks c = sym s ∙ sym (height_is c k e) in (
              record { pattern = place; pins = ps },
              st.pattern,
              record {
                matches = record { listed = listed; pins = subst (λ n. HasPins cost.pin_counts n (length ps)) (sym st.cell_is) st.pins; stands = st.stands };
                pin_labels = a.pin_labels;
                have = a.have;
                value = a.value ∙ ap (λ n. Some (cost.value n a.pin_labels)) (sym st.cell_is);
                lower = subst (λ n. AllByRecursion (λ q. suc (heights_of marks q) ≤ n) ps) here (lower_pins h ps a.pin_labels a.have w);
              },
            )

        by_step : (h : ℕ) → k.height ≡ suc h → Within c (suc h) → (m : Match) × (p : Pattern) × Supports g cost pats known (heights_of marks) c m p
        by_step h s (inl i) = absurd (out i)
        by_step h s (inr (cell, ps, a, w)) = by_match h cell ps s a w

        by_height : (h : ℕ) → k.height ≡ h → Within c k.height → (m : Match) × (p : Pattern) × Supports g cost pats known (heights_of marks) c m p
        by_height zero s w = absurd (out (subst (Within c) s w))
        by_height (suc h) s w = by_step h s (subst (Within c) s w)

    -- the least of the priced matches is the chosen one, and is priced at the mark of the class
    pub least_chosen : (c : ℕ) (m : Match) (p : Pattern) (k j : Mark) → (IsLeafClass g c → ⊥) → marks c ≡ Some j → IsPriced g cost pats marks c m p k → ((n : Match) (q : Pattern) (i : Mark) → IsPriced g cost pats marks c n q i → IsPricedAtMost k m i n) → (k ≡ j) × IsChosen g cost pats known (heights_of marks) c m p
    least_chosen c m p k j out e priced least =
        let (n, q, s) = some_supports c j out e in
        let (i, at, above) = priced_above c m p k priced in
        let one : j ≡ i = same_Some j i (sym e ∙ at) in
        let same = both_ways n k j (least n q j ((supports_priced c n q j out e).0 s)) (subst (λ (z : Mark). IsMarkAtMost z k) (sym one) above) in (
          same,
          record {
            supports = (supports_priced c m p j out e).1 (subst (λ (z : Mark). IsPriced g cost pats marks c m p z) same priced);
            first = λ b r t. by_match k j b same (least b r j ((supports_priced c b r j out e).0 t));
          },
        )
      where
        both_ways : (n : Match) (k j : Mark) → IsPricedAtMost k m j n → IsMarkAtMost j k → k ≡ j
        both_ways n k j (inl lt) above = let le = above.cost in absurd (omega arith)
        both_ways n k j (inr (f, inl lt)) above = let le = above.height (sym f) in absurd (omega arith)
        both_ways n k j (inr (f, inr (h, b))) above = mark_same k j f h

        by_match : (k j : Mark) (b : Match) → k ≡ j → IsPricedAtMost k m j b → IsMatchAtMost m b
        by_match k j b s (inl lt) = let f : k.cost ≡ j.cost = ap (λ z. z.cost) s in absurd (omega arith)
        by_match k j b s (inr (f, inl lt)) = let h : k.height ≡ j.height = ap (λ z. z.height) s in absurd (omega arith)
        by_match k j b s (inr (f, inr (h, at))) = at
