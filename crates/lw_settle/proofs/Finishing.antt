-- How settling starts, and what it ends with.
use Rattle.std.proofs.Common.{ℕ, zero, suc, ◌+◌, ◌^◌, ◌<◌, ◌≤◌, ◌≡◌, ◌⊎◌, Bool, true, false, cond, eqb, is_some, List, [], ◌∷◌, length, map, replicate, get_or, Option, Some, None, option_map, unwrap_or, slice_get, refl, ap, sym, ◌∙◌, subst, subst₂, inl, inr, arith}
use Rattle.std.specs.List.{AllByRecursion}
use Rattle.std.proofs.lemmas.Bool.{cases_eq, eq-eqb, ne_eqb, cond-true, cond-false}
use Rattle.std.proofs.lemmas.List.{length-map, get_or-map, length-replicate}
use Rattle.std.proofs.lemmas.Option.{same_Some, slice_get_within, get_or_from_slice_get}
use Rattle.lw_graph.specs.Graphs.{IsGraph}
use Rattle.lw_laws.specs.Graphs.{Graph}
use Rattle.lw_laws.specs.Costs.{Cost, IsCost}
use Rattle.lw_laws.specs.Choices.{Choices, HasCost, HaveCosts, IsLeastCost, Labels, IsPotential, IsAttained, Attains, IsInputClass, IsHeight, AreHeights}
use Rattle.lw_laws.specs.Choices.HasCost.{by_wire, by_gate}
use Rattle.lw_laws.specs.Choices.HaveCosts.{no_pins, pin}
use Rattle.lw_laws.specs.Marks.{Mark as PlainMark, Marks, HaveMarks, IsMarkAtMost, leaf_mark, price, costs_in, greatest_height, heights_of}
use Rattle.lw_laws.specs.Rounds.{labels_in}
use Rattle.lw_laws.proofs.Potentials.{labels_are_least, IsLeast_once}
use Rattle.lw_laws.proofs.Heights.{heights_are}
use Rattle.lw_cost.specs.declared.mark.Mark.{Mark}
use Rattle.lw_cost.specs.Values.{marks_in}
use Rattle.lw_cost.specs.Labels.{costs_of}
use Rattle.lw_cost.proofs.MarksAsLabels.{marked_most, label_at, label_of_mark, mark_of_label, labels_of_marks, marks_of_labels}
use Rattle.lw_settle.specs.Queues.{AreNone}
use Rattle.lw_settle.specs.Stores.{Stored, Placed, placed, pins_of, AreOfStoredCells}
use Rattle.lw_settle.specs.Settled.{choices_among, AreSettledMarks, HaveLeafCosts, labelled, labelled_uses, labelled_matches, settle_steps}
use Rattle.lw_settle.specs.Settling.{HasAtMost, IsReading, IsSettling, AreInputsOffered, Stage, first_stage, untaken, used, zeros, pin_count}
use Rattle.lw_settle.proofs.Rising.{used_none, zeros_none}
use Rattle.lw_settle.proofs.Taking.{none_untaken}
use Rattle.lw_laws.proofs.Words.{AreChoices}

-- no class has a mark
marks_none_at : (n c : ℕ) → marks_in (replicate n None) c ≡ None
marks_none_at zero c = refl
marks_none_at (suc n) zero = refl
marks_none_at (suc n) (suc c) = marks_none_at n c

untaken_all : (taken : Marks) (ps : List ℕ) → ((p : ℕ) → taken p ≡ None) → untaken taken ps ≡ length ps
untaken_all taken [] none = refl
untaken_all taken (p ∷ ps) none =
    cond-false (is_some (taken p)) (untaken taken ps) (suc (untaken taken ps)) (ap is_some (none p)) ∙ ap suc (untaken_all taken ps none)

pub starting : (cost : Cost) (lists : List (List Stored)) (g : Graph) (done : ℕ) (marks wait : List (Option Mark)) (left : List ℕ) → IsGraph g → IsCost cost → length lists ≡ length g.pairs → done < 2 ^ 62 → marks ≡ replicate (length g.pairs) None → AreInputsOffered g cost (length g.leaves) wait → left ≡ map pin_count (placed lists) → IsSettling cost lists (first_stage g done) (length g.leaves) 0 [] done marks wait left
starting cost lists g done marks wait left is costs one_each fresh none inputs all_left = record {
  one_each = one_each;
  few = omega (arith, is.even, is.few);
  fresh = fresh;
  one_mark = ap length none ∙ (length-replicate (length g.pairs) None ∙ sym one_each);
  one_wait = inputs.one_each ∙ sym one_each;
  sound = record {
    apart = λ c k e. let n = no_mark c in absurd (cc);
    taken_by = λ c k e. let n = no_mark c in absurd (cc);
    wait_by = λ c k e. inl (inputs.from c k e);
    low = λ c k e. let n = no_mark c in absurd (cc);
    high = λ c k e. record { cost = omega arith; height = λ s. omega arith };
    taken_fits = λ c k e. let n = no_mark c in absurd (cc);
    wait_fits = λ c k e.
        let (i, at, leaf) = inputs.from c k e in
        let few = slice_get_within g.leaves i c at in
        let low = costs.leaf_capped i (omega (arith, is.few_inputs)) in
        let cost_is = ap (λ (x : PlainMark). x.cost) leaf in
        let height_is = ap (λ (x : PlainMark). x.height) leaf in
        (omega arith, omega arith);
  };
  covered = record {
    left_is = λ i m at. let here = left_at i m at in let all = untaken_all (marks_in marks) (pins_of m) no_mark in omega arith;
    matches = λ i m ks lt at e have. absurd (omega arith);
    leaves = λ i c lt at. let (j, e, le) = inputs.leaves i c lt at in (j, inr e, le);
  };
  counted = record {
    one_each = ap length all_left ∙ length-map (placed lists) pin_count;
    most = λ i m at. let here = left_at i m at in omega arith;
    sum = let u = ap (used (placed lists)) all_left ∙ used_none (placed lists) in let z = zeros_none left in omega arith;
  };
}
  where
    no_mark : (c : ℕ) → marks_in marks c ≡ None
    no_mark c = ap (λ ms. marks_in ms c) none ∙ marks_none_at (length g.pairs) c

    left_at : (i : ℕ) (m : Placed) → slice_get (placed lists) i ≡ Some m → get_or left i 0 ≡ length (pins_of m)
    left_at i m at =
        ap (λ xs. get_or xs i 0) all_left ∙ (get_or-map pin_count (placed lists) i m 0 (slice_get_within (placed lists) i m at) ∙ ap pin_count (get_or_from_slice_get (placed lists) i m m at))

module _ (cost : Cost) (lists : List (List Stored)) (s : Stage) (done : ℕ) (marks wait : List (Option Mark)) (left : List ℕ) (graph : IsGraph s.graph) (is : IsCost cost) (of : AreOfStoredCells cost.pin_counts lists) (leaf_costs : HaveLeafCosts s.graph cost lists) (w : IsReading cost lists s [] done marks wait left) (empty : AreNone wait) where
  abbrev g : Graph
  g = s.graph

  abbrev ms : List Placed
  ms = placed lists

  abbrev M : Choices
  M = choices_among g ms

  abbrev taken : Marks
  taken = marks_in marks

  abbrev labels : Labels
  labels = labels_in (costs_of marks)

  choices : AreChoices M cost
  choices = record {
    inputs = λ c i at. let lt = slice_get_within g.leaves i c at in omega (arith, graph.few_inputs);
    matches = λ c cell ps h.
        let (i, m, at, class, cell_is, pins_are) = h in
        subst₂ (λ k qs. slice_get cost.pin_counts k ≡ Some (length qs)) cell_is pins_are (of i m at);
  }

  closed : (c : ℕ) (k : PlainMark) → HasAtMost taken (marks_in wait) c k → (j : PlainMark) × (taken c ≡ Some j) × IsMarkAtMost j k
  closed c k (j, inl t, le) = (j, t, le)
  closed c k (j, inr e, le) = let none = ap (option_map plain) (empty c) in absurd (cc)
    where
      plain : Mark → PlainMark
      plain m = record { cost = m.cost; height = m.height }

  costs_below : (n : ℕ) → ((c : ℕ) (k : PlainMark) → k.height < n → taken c ≡ Some k → HasCost M cost c k.cost) → (ps : List ℕ) (ks : List PlainMark) → HaveMarks taken ps ks → greatest_height ks < n → HaveCosts M cost ps (costs_in ks)
  costs_below n below [] [] have lt = no_pins
  costs_below n below [] (k ∷ ks) have lt = absurd have
  costs_below n below (p ∷ ps) [] have lt = absurd have
  costs_below n below (p ∷ ps) (k ∷ ks) (e, have) lt =
      pin (below p k (omega arith) e) (costs_below n below ps ks have (omega arith))

  attained_below : (n c : ℕ) (k : PlainMark) → k.height < n → taken c ≡ Some k → HasCost M cost c k.cost
  attained_below zero c k lt e = absurd (omega arith)
  attained_below (suc n) c k lt e = by (attained_below n) (w.sound.taken_by c k e)
    where
      by : ((d : ℕ) (j : PlainMark) → j.height < n → taken d ≡ Some j → HasCost M cost d j.cost) → ((i : ℕ) × (slice_get g.leaves i ≡ Some c) × (k ≡ leaf_mark cost i)) ⊎ ((i : ℕ) × (m : Placed) × (ks : List PlainMark) × (slice_get ms i ≡ Some m) × (m.class ≡ c) × HaveMarks taken (pins_of m) ks × (k ≡ price cost m.stored.cell ks)) → HasCost M cost c k.cost
      by below (inl (i, at, f)) = subst (HasCost M cost c) (sym (ap (λ (x : PlainMark). x.cost) f)) (by_wire at)
      by below (inr (i, m, ks, at, class, have, f)) =
          let high = ap (λ (x : PlainMark). x.height) f in
          let covers = costs_below n below (pins_of m) ks have (omega arith) in
          subst (HasCost M cost c) (sym (ap (λ (x : PlainMark). x.cost) f)) (by_gate (i, m, at, class, refl, refl) covers)

  attained : IsAttained M cost labels
  attained c l e =
      let (k, t, same) = mark_of_label marks c l e in
      subst (HasCost M cost c) same (attained_below (suc k.height) c k (omega arith) t)

  -- the match at a class whose pins have marks, against the mark of the class
  match_low : (c cell : ℕ) (ps : List ℕ) (ks : List PlainMark) → M.IsMatch c cell ps → HaveMarks taken ps ks → (j : PlainMark) × (taken c ≡ Some j) × IsMarkAtMost j (price cost cell ks)
  match_low c cell ps ks (i, m, at, class, cell_is, pins_are) have =
      let mine = subst (λ qs. HaveMarks taken qs ks) (sym pins_are) have in
      let none = none_untaken taken (pins_of m) ks mine in
      let was = w.covered.left_is i m at in
      let zero_left : get_or left i 0 ≡ 0 = omega arith in
      let low = closed m.class (price cost m.stored.cell ks) (w.covered.matches i m ks (slice_get_within ms i m at) at zero_left mine) in
      subst₂ (λ d k. (j : PlainMark) × (taken d ≡ Some j) × IsMarkAtMost j (price cost k ks)) class cell_is low

  potential : IsPotential M cost labels
  potential = record {
    inputs = λ c i at.
        let (j, t, le) = closed c (leaf_mark cost i) (w.covered.leaves i c (slice_get_within g.leaves i c at) at) in
        (j.cost, label_of_mark marks c j t, le.cost);
    matches = λ c cell ps ls m have.
        let (ks, marks_have, same) = marks_of_labels marks ps ls have in
        let (j, t, le) = match_low c cell ps ks m marks_have in
        (j.cost, label_of_mark marks c j t, subst (λ ds. j.cost ≤ cost.value cell ds) same le.cost);
  }

  least : (c : ℕ) → IsLeastCost M cost c (labels c)
  least = labels_are_least M cost is choices labels potential attained

  abbrev heights : ℕ → ℕ
  heights = heights_of taken

  height_is : (c : ℕ) (k : PlainMark) → taken c ≡ Some k → heights c ≡ k.height
  height_is c k e = ap (λ o. unwrap_or (option_map (λ (m : PlainMark). m.height) o) 0) e

  pins_low : (h : ℕ) (ps : List ℕ) (ks : List PlainMark) → HaveMarks taken ps ks → greatest_height ks ≤ h → AllByRecursion (λ p. heights p ≤ h) ps
  pins_low h [] ks have le = tt
  pins_low h (p ∷ ps) [] have le = absurd have
  pins_low h (p ∷ ps) (k ∷ ks) (e, have) le =
      let here = height_is p k e in
      (omega arith, pins_low h ps ks have (omega arith))

  greatest_low : (h : ℕ) (ps : List ℕ) (ks : List PlainMark) → HaveMarks taken ps ks → AllByRecursion (λ p. heights p ≤ h) ps → greatest_height ks ≤ h
  greatest_low h [] [] have low = omega arith
  greatest_low h [] (k ∷ ks) have low = absurd have
  greatest_low h (p ∷ ps) [] have low = absurd have
  greatest_low h (p ∷ ps) (k ∷ ks) (e, have) (le, low) =
      let here = height_is p k e in
      let ih = greatest_low h ps ks have low in
      omega arith

  are_heights : AreHeights M cost labels heights
  are_heights = record {
    inputs = λ c i at. input_height c i at;
    reached = λ c l e. reached c l e;
    bounded = λ c cell ps h a low. bounded c cell ps h a low;
  }
    where
      input_height : (c i : ℕ) → slice_get g.leaves i ≡ Some c → heights c ≡ 0
      input_height c i at =
          let (j, t, le) = closed c (leaf_mark cost i) (w.covered.leaves i c (slice_get_within g.leaves i c at) at) in
          let one = IsLeast_once M cost is choices c (labels c) (Some (cost.leaf i)) (least c) (leaf_costs i c at) in
          let same : j.cost ≡ cost.leaf i = same_Some j.cost (cost.leaf i) (sym (label_of_mark marks c j t) ∙ one) in
          let low = le.height same in
          height_is c j t ∙ omega arith

      reached : (c l : ℕ) → labels c ≡ Some l → IsInputClass M c ⊎ ((cell : ℕ) × (ps : List ℕ) × (h : ℕ) × Attains M cost labels c cell ps × AllByRecursion (λ p. heights p ≤ h) ps × (suc h ≤ heights c))
      reached c l e =
          let (k, t, same) = mark_of_label marks c l e in
          by k t (w.sound.taken_by c k t)
        where
          by : (k : PlainMark) → taken c ≡ Some k → ((i : ℕ) × (slice_get g.leaves i ≡ Some c) × (k ≡ leaf_mark cost i)) ⊎ ((i : ℕ) × (m : Placed) × (ks : List PlainMark) × (slice_get ms i ≡ Some m) × (m.class ≡ c) × HaveMarks taken (pins_of m) ks × (k ≡ price cost m.stored.cell ks)) → IsInputClass M c ⊎ ((cell : ℕ) × (ps : List ℕ) × (h : ℕ) × Attains M cost labels c cell ps × AllByRecursion (λ p. heights p ≤ h) ps × (suc h ≤ heights c))
          by k t (inl (i, at, f)) = inl (i, at)
          by k t (inr (i, m, ks, at, class, have, f)) =
              let high = ap (λ (x : PlainMark). x.height) f in
              let here = height_is c k t in
              inr (
                m.stored.cell,
                pins_of m,
                greatest_height ks,
                record {
                  stands = (i, m, at, class, refl, refl);
                  pin_labels = costs_in ks;
                  have = labels_of_marks marks (pins_of m) ks have;
                  value = label_of_mark marks c k t ∙ ap (λ (x : PlainMark). Some x.cost) f;
                },
                pins_low (greatest_height ks) (pins_of m) ks have (omega arith),
                omega arith,
              )

      bounded : (c cell : ℕ) (ps : List ℕ) (h : ℕ) → Attains M cost labels c cell ps → AllByRecursion (λ p. heights p ≤ h) ps → heights c ≤ suc h
      bounded c cell ps h a low =
          let (ks, have, same) = marks_of_labels marks ps a.pin_labels a.have in
          let (j, t, le) = match_low c cell ps ks a.stands have in
          let value : j.cost ≡ cost.value cell (costs_in ks) = same_Some j.cost (cost.value cell (costs_in ks)) (sym (label_of_mark marks c j t) ∙ (a.value ∙ ap (λ ds. Some (cost.value cell ds)) (sym same))) in
          let high = le.height value in
          let deep = greatest_low h ps ks have low in
          let here = height_is c j t in
          omega arith

  pub finished : AreSettledMarks g cost lists marks
  finished = record {
    one_each = w.one_mark ∙ w.one_each;
    least = least;
    heights = λ c m e. subst (IsHeight M cost labels c) (height_is c m e) (heights_are M cost labels heights are_heights c m.cost (label_of_mark marks c m e));
    in_range = λ c k e. let (low, high) = w.sound.taken_fits c k e in (low, omega (arith, marked_most marks, w.one_mark, w.few));
  }

  -- how many classes of a list have labels
  labelled_is : (p : ℕ) → is_some (labels p) ≡ is_some (taken p)
  labelled_is p = ap is_some (label_at marks p) ∙ by (taken p)
    where
      by : (o : Option PlainMark) → is_some (option_map (λ (m : PlainMark). m.cost) o) ≡ is_some o
      by None = refl
      by (Some m) = refl

  labelled_untaken : (ps : List ℕ) → labelled labels ps + untaken taken ps ≡ length ps
  labelled_untaken [] = refl
  labelled_untaken (p ∷ ps) = by (is_some (taken p)) refl (labelled_untaken ps)
    where
      by : (b : Bool) → is_some (taken p) ≡ b → labelled labels ps + untaken taken ps ≡ length ps → labelled labels (p ∷ ps) + untaken taken (p ∷ ps) ≡ suc (length ps)
      by true t ih =
          let one : labelled labels (p ∷ ps) ≡ suc (labelled labels ps) = cond-true (is_some (labels p)) (suc (labelled labels ps)) (labelled labels ps) (labelled_is p ∙ t) in
          let none : untaken taken (p ∷ ps) ≡ untaken taken ps = cond-true (is_some (taken p)) (untaken taken ps) (suc (untaken taken ps)) t in
          omega arith
      by false t ih =
          let none : labelled labels (p ∷ ps) ≡ labelled labels ps = cond-false (is_some (labels p)) (suc (labelled labels ps)) (labelled labels ps) (labelled_is p ∙ t) in
          let one : untaken taken (p ∷ ps) ≡ suc (untaken taken ps) = cond-false (is_some (taken p)) (untaken taken ps) (suc (untaken taken ps)) t in
          omega arith

  counts : (qs : List Placed) (ls : List ℕ) → length ls ≡ length qs → ((i : ℕ) (m : Placed) → slice_get qs i ≡ Some m → get_or ls i 0 ≡ untaken taken (pins_of m)) → (used qs ls ≡ labelled_uses labels qs) × (zeros (length qs) ls ≡ labelled_matches labels qs)
  counts [] [] long each = (refl, refl)
  counts [] (l ∷ ls) long each = absurd (omega arith)
  counts (m ∷ qs) [] long each = absurd (omega arith)
  counts (m ∷ qs) (l ∷ ls) long each =
      let (u, z) = counts qs ls (omega arith) (λ i q at. each (suc i) q at) in
      let here = each 0 m refl in
      let split = labelled_untaken (pins_of m) in
      (omega arith, by (cases_eq l 0) here split z)
    where
      by : (l ≡ 0) ⊎ (l ≡ 0 → ⊥) → l ≡ untaken taken (pins_of m) → labelled labels (pins_of m) + untaken taken (pins_of m) ≡ length (pins_of m) → zeros (length qs) ls ≡ labelled_matches labels qs → zeros (suc (length qs)) (l ∷ ls) ≡ labelled_matches labels (m ∷ qs)
      by (inl e) here split z =
          let left_one : cond {A = ℕ} (eqb l 0) 1 0 ≡ 1 = cond-true {A = ℕ} (eqb l 0) 1 0 (eq-eqb l 0 e) in
          let right_one : cond {A = ℕ} (eqb (labelled labels (pins_of m)) (length (pins_of m))) 1 0 ≡ 1 = cond-true {A = ℕ} (eqb (labelled labels (pins_of m)) (length (pins_of m))) 1 0 (eq-eqb (labelled labels (pins_of m)) (length (pins_of m)) (omega arith)) in
          omega arith
      by (inr ne) here split z =
          let left_none : cond {A = ℕ} (eqb l 0) 1 0 ≡ 0 = cond-false {A = ℕ} (eqb l 0) 1 0 (ne_eqb l 0 ne) in
          let right_none : cond {A = ℕ} (eqb (labelled labels (pins_of m)) (length (pins_of m))) 1 0 ≡ 0 = cond-false {A = ℕ} (eqb (labelled labels (pins_of m)) (length (pins_of m))) 1 0 (ne_eqb (labelled labels (pins_of m)) (length (pins_of m)) (λ e. ne (omega arith))) in
          omega arith

  pub steps_are : done ≡ s.start + settle_steps labels lists
  steps_are =
      let (u, z) = counts ms left w.counted.one_each (λ i m at. let was = w.covered.left_is i m at in omega arith) in
      omega (arith, w.counted.sum)
