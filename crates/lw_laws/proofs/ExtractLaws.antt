-- The netlist that the chosen matches make is one, and its nets cost their classes' labels.
use Rattle.std.proofs.Common.{ℕ, zero, suc, ◌+◌, ◌<◌, ◌≤◌, ◌≡◌, ◌⊎◌, inl, inr, List, [], ◌∷◌, ◌++◌, length, Contains, Some, slice_get, slice_index_or, map, min, refl, ap, ap₂, sym, ◌∙◌, subst, arith}
use Rattle.std.specs.List.{AllZip, AllByRecursion}
use Rattle.std.proofs.lemmas.Option.{same_Some, slice_get_within}
use Rattle.lw_facts.proofs.Lists.{contains_tail}
use Rattle.std.proofs.lemmas.Bool.{cases_eq, cases_order}
use Rattle.std.proofs.lemmas.List.{length-append}
use Rattle.lw_laws.specs.Graphs.{Graph}
use Rattle.lw_laws.specs.Costs.{Cost}
use Rattle.lw_laws.specs.Choices.{Labels}
use Rattle.lw_laws.specs.Covers.{Timing, Pattern, start_of, latest, delays_of}
use Rattle.lw_laws.specs.Delays.{delay_cost}
use Rattle.lw_laws.specs.Netlists.{Gate, Netlist, AreOrdered, AreArrivals, AreNetCosts}
use Rattle.lw_laws.specs.Mapped.{IsMapped}
use Rattle.lw_laws.specs.MatchLists.{AreGatesApart, HasNetBefore, IsMatchNetlist}
use Rattle.lw_laws.proofs.MatchLists.{class_net_once}
use Rattle.lw_laws.specs.Extracts.IsNeeded.{by_pin}
use Rattle.lw_laws.specs.Extracts.{Match, IsChosen, IsGateBefore, IsLeafClass, IsNeeded, AreGateClasses, IsNetOf, IsExtracted, class_at, AreDistinctLeaves, HaveLeafLabels}
use Rattle.lw_laws.proofs.Extracts.{slice_get_left, slice_get_right, lower_before, IsChosen_once, extracted_ordered, extracted_mapped, net_cost}
use Rattle.lw_laws.proofs.Delays.{latest-cut}

not_both : (heights : ℕ → ℕ) (c d : ℕ) → IsGateBefore heights c d → IsGateBefore heights d c → ⊥
not_both heights c d (inl a) (inl b) = omega arith
not_both heights c d (inl a) (inr (e, b)) = omega arith
not_both heights c d (inr (e, a)) (inl b) = omega arith
not_both heights c d (inr (e, a)) (inr (f, b)) = omega arith

not_itself : (heights : ℕ → ℕ) (c : ℕ) → IsGateBefore heights c c → ⊥
not_itself heights c b = not_both heights c c b b

-- a class is an input's or it is not
leaf_or_not : (leaves : List ℕ) (c : ℕ) → ((i : ℕ) × (slice_get leaves i ≡ Some c)) ⊎ ((i : ℕ) × (slice_get leaves i ≡ Some c) → ⊥)
leaf_or_not [] c = inr (λ (i, e). cc)
leaf_or_not (x ∷ leaves) c = by_head (leaf_or_not leaves c) (cases_eq x c)
  where
    by_rest : (x ≡ c → ⊥) → ((i : ℕ) × (slice_get leaves i ≡ Some c)) ⊎ ((i : ℕ) × (slice_get leaves i ≡ Some c) → ⊥) → ((i : ℕ) × (slice_get (x ∷ leaves) i ≡ Some c)) ⊎ ((i : ℕ) × (slice_get (x ∷ leaves) i ≡ Some c) → ⊥)
    by_rest other (inl (i, e)) = inl (suc i, e)
    by_rest other (inr out) = inr at_none
      where
        at_none : (i : ℕ) × (slice_get (x ∷ leaves) i ≡ Some c) → ⊥
        at_none (zero, e) = other (same_Some x c e)
        at_none (suc i, e) = out (i, e)

    by_head : ((i : ℕ) × (slice_get leaves i ≡ Some c)) ⊎ ((i : ℕ) × (slice_get leaves i ≡ Some c) → ⊥) → (x ≡ c) ⊎ (x ≡ c → ⊥) → ((i : ℕ) × (slice_get (x ∷ leaves) i ≡ Some c)) ⊎ ((i : ℕ) × (slice_get (x ∷ leaves) i ≡ Some c) → ⊥)
    by_head rest (inl same) = inl (0, ap Some same)
    by_head rest (inr other) = by_rest other rest

module _ (heights : ℕ → ℕ) where
  abbrev IsSorted : List ℕ → Type 0
  IsSorted xs = (i j c d : ℕ) → slice_get xs i ≡ Some c → slice_get xs j ≡ Some d → i < j → IsGateBefore heights c d

  abbrev IsAmong : List ℕ → List ℕ → Type 0
  IsAmong xs ys = (i c : ℕ) → slice_get xs i ≡ Some c → (j : ℕ) × (slice_get ys j ≡ Some c)

  tail_sorted : (x : ℕ) (xs : List ℕ) → IsSorted (x ∷ xs) → IsSorted xs
  tail_sorted x xs s i j c d e f lt = s (suc i) (suc j) c d e f (omega arith)

  heads_same : (x y : ℕ) (xs ys : List ℕ) → IsSorted (x ∷ xs) → IsSorted (y ∷ ys) → (j : ℕ) × (slice_get (y ∷ ys) j ≡ Some x) → (i : ℕ) × (slice_get (x ∷ xs) i ≡ Some y) → x ≡ y
  heads_same x y xs ys s t (zero, e) (i, f) = cc
  heads_same x y xs ys s t (suc j, e) (zero, f) = cc
  heads_same x y xs ys s t (suc j, e) (suc i, f) = absurd (not_both heights x y (s 0 (suc i) x y refl f (omega arith)) (t 0 (suc j) y x refl e (omega arith)))

  tail_among : (x : ℕ) (xs ys : List ℕ) → IsSorted (x ∷ xs) → IsAmong (x ∷ xs) (x ∷ ys) → IsAmong xs ys
  tail_among x xs ys s among i c e = by_place (among (suc i) c e)
    where
      by_place : (j : ℕ) × (slice_get (x ∷ ys) j ≡ Some c) → (j : ℕ) × (slice_get ys j ≡ Some c)
      by_place (zero, f) = let same : x ≡ c = cc in absurd (not_itself heights c (subst (λ d. IsGateBefore heights d c) same (s 0 (suc i) x c refl e (omega arith))))
      by_place (suc j, f) = (j, f)

  sorted_once : (xs ys : List ℕ) → IsSorted xs → IsSorted ys → IsAmong xs ys → IsAmong ys xs → xs ≡ ys
  sorted_once [] [] s t a b = refl
  sorted_once [] (y ∷ ys) s t a b = let (j, e) = b 0 y refl in cc
  sorted_once (x ∷ xs) [] s t a b = let (j, e) = a 0 x refl in cc
  sorted_once (x ∷ xs) (y ∷ ys) s t a b =
      let same = heads_same x y xs ys s t (a 0 x refl) (b 0 y refl) in
      let t' = subst (λ z. IsSorted (z ∷ ys)) (sym same) t in
      let a' = subst (λ z. IsAmong (x ∷ xs) (z ∷ ys)) (sym same) a in
      let b' = subst (λ z. IsAmong (z ∷ ys) (x ∷ xs)) (sym same) b in
      ap₂ (λ z zs. z ∷ zs) same (sorted_once xs ys (tail_sorted x xs s) (tail_sorted x ys t') (tail_among x xs ys s a') (tail_among x ys xs t' b'))

pub chosen_once : (g : Graph) (cost : Cost) (pats : List Pattern) (labels : Labels) (heights : ℕ → ℕ) (c : ℕ) (m k : Match) (p q : Pattern) → IsChosen g cost pats labels heights c m p → IsChosen g cost pats labels heights c k q → m ≡ k
chosen_once g cost pats labels heights c m k p q a b =
    let once = IsChosen_once g cost pats labels heights c m k p q a b in
    ap₂ (λ z zs. record { pattern = z; pins = zs }) once.0 once.1

module _ (g : Graph) (cost : Cost) (pats : List Pattern) (labels : Labels) (heights : ℕ → ℕ) (roots : List ℕ) where
  -- the list of classes with a gate is one
  pub gate_classes_once : (gates others : List ℕ) → AreGateClasses g cost pats labels heights roots gates → AreGateClasses g cost pats labels heights roots others → gates ≡ others
  gate_classes_once gates others a b =
      sorted_once heights gates others a.sorted b.sorted
      (λ i c e. let (n, out) = a.needed i c e in b.all c n out)
      (λ i c e. let (n, out) = b.needed i c e in a.all c n out)

  module _ (gates : List ℕ) (classes : AreGateClasses g cost pats labels heights roots gates) where
    pub ordered_and_mapped : (n : Netlist) → IsExtracted g cost pats labels heights gates n → AreOrdered n × IsMapped g cost.pin_counts pats n (class_at g gates)
    ordered_and_mapped n is = (extracted_ordered g cost pats labels heights gates n classes.sorted is, extracted_mapped g cost pats labels heights gates n classes.sorted is)

    pub gate_once : (i j c : ℕ) → slice_get gates i ≡ Some c → slice_get gates j ≡ Some c → i ≡ j
    gate_once i j c e f = by_order (cases_order i j)
      where
        by_order : (i ≡ j) ⊎ ((i < j) ⊎ (j < i)) → i ≡ j
        by_order (inl s) = s
        by_order (inr (inl l)) = absurd (not_itself heights c (classes.sorted i j c c e f l))
        by_order (inr (inr l)) = absurd (not_itself heights c (classes.sorted j i c c f e l))

    -- no class stands twice or is an input's
    pub gates_apart : AreGatesApart g gates
    gates_apart = record { once = gate_once; no_leaf = λ j c at. (classes.needed j c at).1 }

    -- each needed class has a net
    pub needed_net : (c : ℕ) → IsNeeded g cost pats labels heights roots c → (net : ℕ) × IsNetOf g gates c net
    needed_net c need = by_leaf (leaf_or_not g.leaves c)
      where
        by_leaf : IsLeafClass g c ⊎ (IsLeafClass g c → ⊥) → (net : ℕ) × IsNetOf g gates c net
        by_leaf (inl (i, here)) = (i, slice_get_left g.leaves gates i c here)
        by_leaf (inr out) = let (j, here) = classes.all c need out in (length g.leaves + j, slice_get_right g.leaves gates j c here)

    -- each pin of a chosen match has a net before
    pub chosen_before : (j c : ℕ) (m : Match) (p : Pattern) → slice_get gates j ≡ Some c → IsChosen g cost pats labels heights c m p → AllByRecursion (HasNetBefore g gates j) m.pins
    chosen_before j c m p at chosen = of_pins m.pins (λ q held. held) chosen.supports.lower
      where
        need : IsNeeded g cost pats labels heights roots c × (IsLeafClass g c → ⊥)
        need = classes.needed j c at

        of_pin : (q : ℕ) → Contains m.pins q → suc (heights q) ≤ heights c → HasNetBefore g gates j q
        of_pin q held low = by_leaf (leaf_or_not g.leaves q)
          where
            by_leaf : IsLeafClass g q ⊎ (IsLeafClass g q → ⊥) → HasNetBefore g gates j q
            by_leaf (inl (i, here)) = let lt = slice_get_within g.leaves i q here in (i, omega arith, slice_get_left g.leaves gates i q here)
            by_leaf (inr out) =
                let (i, here) = classes.all q (by_pin need.0 need.1 chosen held) out in
                let lt = lower_before heights gates classes.sorted i j q c here at (omega arith) in
                (length g.leaves + i, omega arith, slice_get_right g.leaves gates i q here)

        of_pins : (qs : List ℕ) → ((q : ℕ) → Contains qs q → Contains m.pins q) → AllByRecursion (λ q. suc (heights q) ≤ heights c) qs → AllByRecursion (HasNetBefore g gates j) qs
        of_pins [] sub low = tt
        of_pins (q ∷ qs) sub (lt, low) = (of_pin q (sub q (0, omega arith, refl)) lt, of_pins qs (λ r held. sub r (contains_tail q qs r held)) low)

    -- the netlist of the chosen matches is one of matches
    pub extracted_is_matches : (n : Netlist) → IsExtracted g cost pats labels heights gates n → IsMatchNetlist g cost.pin_counts pats gates n
    extracted_is_matches n is = record {
      inputs = is.inputs;
      one_each = is.one_each;
      apart = gates_apart;
      ordered = (ordered_and_mapped n is).0;
      mapped = (ordered_and_mapped n is).1;
    }

    pins_once : AreDistinctLeaves g → (qs ks ls : List ℕ) → AllZip (λ q net. IsNetOf g gates q net) qs ks → AllZip (λ q net. IsNetOf g gates q net) qs ls → ks ≡ ls
    pins_once distinct [] [] [] a b = refl
    pins_once distinct [] [] (l ∷ ls) a b = absurd b
    pins_once distinct [] (k ∷ ks) ls a b = absurd a
    pins_once distinct (q ∷ qs) [] ls a b = absurd a
    pins_once distinct (q ∷ qs) (k ∷ ks) [] a b = absurd b
    pins_once distinct (q ∷ qs) (k ∷ ks) (l ∷ ls) (e, a) (f, b) = ap₂ (λ x xs. x ∷ xs) (class_net_once g gates gates_apart distinct q k l e f) (pins_once distinct qs ks ls a b)

    gates_same : (xs ys : List Gate) → length xs ≡ length ys → ((j : ℕ) (x y : Gate) → slice_get xs j ≡ Some x → slice_get ys j ≡ Some y → x ≡ y) → xs ≡ ys
    gates_same [] [] len f = refl
    gates_same [] (y ∷ ys) len f = absurd (omega arith)
    gates_same (x ∷ xs) [] len f = absurd (omega arith)
    gates_same (x ∷ xs) (y ∷ ys) len f = ap₂ (λ z zs. z ∷ zs) (f 0 x y refl refl) (gates_same xs ys (omega arith) (λ j z w e h. f (suc j) z w e h))

    -- the netlist is one
    pub extracted_once : AreDistinctLeaves g → (n m : Netlist) → IsExtracted g cost pats labels heights gates n → IsExtracted g cost pats labels heights gates m → n ≡ m
    extracted_once distinct n m is also =
        ap₂ (λ k gs. record { inputs = k; gates = gs }) (is.inputs ∙ sym also.inputs) (gates_same n.gates m.gates (is.one_each ∙ sym also.one_each) same_gate)
      where
        same_gate : (j : ℕ) (x y : Gate) → slice_get n.gates j ≡ Some x → slice_get m.gates j ≡ Some y → x ≡ y
        same_gate j x y e f =
            let (c, a, p, at, chosen, cell, nets) = is.chosen j x e in
            let (d, b, q, bt, chosen', cell', nets') = also.chosen j y f in
            let same : d ≡ c = cc in
            let once = IsChosen_once g cost pats labels heights c a b p q chosen (subst (λ z. IsChosen g cost pats labels heights z b q) same chosen') in
            let pat : p ≡ q = some_same p q (sym chosen.supports.matches.listed ∙ (ap (slice_get pats) once.0 ∙ chosen'.supports.matches.listed)) in
            let cells : x.cell ≡ y.cell = cell ∙ (ap (λ z. z.cell) pat ∙ sym cell') in
            let pins = pins_once distinct b.pins x.pins y.pins (subst (λ zs. AllZip (λ r net. IsNetOf g gates r net) zs x.pins) once.1 nets) nets' in
            ap₂ (λ z zs. record { cell = z; pins = zs }) cells pins
          where
            some_same : (p q : Pattern) → Some p ≡ Some q → p ≡ q
            some_same p q e = cc

-- the cost of each net is the label of its class
pub extracted_costs : (g : Graph) (cost : Cost) (pats : List Pattern) (labels : Labels) (heights : ℕ → ℕ) (roots gates : List ℕ) (n : Netlist) (costs : List ℕ) → AreGateClasses g cost pats labels heights roots gates → IsExtracted g cost pats labels heights gates n → AreNetCosts cost n costs → HaveLeafLabels g cost labels → (c net : ℕ) → IsNetOf g gates c net → labels c ≡ Some (slice_index_or costs net 0)
extracted_costs g cost pats labels heights roots gates n costs classes is are leaf c net at = net_cost g cost pats labels heights gates n classes.sorted is costs are leaf c net at in_range
  where
    in_range : net < n.inputs + length n.gates
    in_range =
        let lt = slice_get_within (g.leaves ++ gates) net c at in
        let a = is.inputs in
        let b = is.one_each in
        let l = length-append g.leaves gates in
        omega arith

index_cut : (cap : ℕ) (xs : List ℕ) (k : ℕ) → slice_index_or (map (min cap) xs) k 0 ≡ min cap (slice_index_or xs k 0)
index_cut cap [] k = omega arith
index_cut cap (x ∷ xs) zero = refl
index_cut cap (x ∷ xs) (suc k) = index_cut cap xs k

indexes_cut : (cap : ℕ) (xs nets : List ℕ) → map (λ p. slice_index_or (map (min cap) xs) p 0) nets ≡ map (min cap) (map (λ p. slice_index_or xs p 0) nets)
indexes_cut cap xs [] = refl
indexes_cut cap xs (net ∷ nets) = ap₂ (λ y ys. y ∷ ys) (index_cut cap xs net) (indexes_cut cap xs nets)

length_cut : (cap : ℕ) (xs : List ℕ) → length (map (min cap) xs) ≡ length xs
length_cut cap [] = refl
length_cut cap (x ∷ xs) = ap suc (length_cut cap xs)

get_cut : (cap : ℕ) (xs : List ℕ) (k x : ℕ) → slice_get xs k ≡ Some x → slice_get (map (min cap) xs) k ≡ Some (min cap x)
get_cut cap [] k x e = cc
get_cut cap (y ∷ xs) zero x e = let same : y ≡ x = cc in ap (λ z. Some (min cap z)) same
get_cut cap (y ∷ xs) (suc k) x e = get_cut cap xs k x e

-- the costs of nets under the delay cost are their arrivals, cut at the cap
pub cut_arrivals : (timing : Timing) (cap : ℕ) (n : Netlist) (arrivals : List ℕ) → AreArrivals timing n arrivals → AreNetCosts (delay_cost timing cap) n (map (min cap) arrivals)
cut_arrivals timing cap n arrivals are = record {
  one_each = length_cut cap arrivals ∙ are.one_each;
  inputs = λ i lt. get_cut cap arrivals i (start_of timing.starts i) (are.inputs i lt);
  gates = λ j gt at.
      let ts = map (λ p. slice_index_or arrivals p 0) gt.pins in
      let cut = latest-cut cap (delays_of timing.delays gt.cell) ts in
      get_cut cap arrivals (n.inputs + j) (latest (delays_of timing.delays gt.cell) ts) (are.gates j gt at)
      ∙ ap Some (sym cut ∙ ap (λ us. min cap (latest (delays_of timing.delays gt.cell) us)) (sym (indexes_cut cap arrivals gt.pins)));
}

-- the arrival of each net is the label of its class, where no label reaches the cap
pub extracted_arrivals : (g : Graph) (pats : List Pattern) (timing : Timing) (cap : ℕ) (labels : Labels) (heights : ℕ → ℕ) (roots gates : List ℕ) (n : Netlist) (arrivals : List ℕ) → AreGateClasses g (delay_cost timing cap) pats labels heights roots gates → IsExtracted g (delay_cost timing cap) pats labels heights gates n → AreArrivals timing n arrivals → HaveLeafLabels g (delay_cost timing cap) labels → ((c l : ℕ) → labels c ≡ Some l → l < cap) → (c net : ℕ) → IsNetOf g gates c net → labels c ≡ Some (slice_index_or arrivals net 0)
extracted_arrivals g pats timing cap labels heights roots gates n arrivals classes is are leaf low c net at =
    let cut = extracted_costs g (delay_cost timing cap) pats labels heights roots gates n (map (min cap) arrivals) classes is (cut_arrivals timing cap n arrivals are) leaf c net at ∙ ap Some (index_cut cap arrivals net) in
    let room = low c (min cap (slice_index_or arrivals net 0)) cut in
    let same : min cap (slice_index_or arrivals net 0) ≡ slice_index_or arrivals net 0 = omega arith in
    cut ∙ ap Some same
