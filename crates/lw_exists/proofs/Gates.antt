-- The needed classes, their chosen matches and a gate for each cannot fail to be there.
use Rattle.std.proofs.Common.{ℕ, suc, ◌+◌, ◌<◌, ◌≤◌, ◌≡◌, ◌⊎◌, ◌↔◌, inl, inr, List, [], ◌∷◌, length, Option, Some, Contains, slice_get, refl, subst, arith}
use Rattle.std.specs.List.{AllByRecursion, AllZip}
use Rattle.std.proofs.lemmas.Option.{slice_get_within}
use Rattle.lw_facts.proofs.Lists.{contains_cases, at_contained, contained_at}
use Rattle.lw_laws.specs.Graphs.{Graph}
use Rattle.lw_laws.specs.Covers.{Pattern}
use Rattle.lw_laws.specs.Costs.{Cost}
use Rattle.lw_laws.specs.Choices.{Labels, HaveLabels, AreHeights}
use Rattle.lw_laws.specs.Matches.{choices_of}
use Rattle.lw_laws.specs.Rounds.{labels_in}
use Rattle.lw_laws.specs.Extracts.{Match, IsChosen, IsLeafClass, IsNeeded, AreGateClasses, IsNetOf}
use Rattle.lw_laws.specs.Extracts.IsNeeded.{by_root, by_pin}
use Rattle.lw_laws.proofs.Lists.{all_contains, slice_get_some}
use Rattle.lw_laws.proofs.Deciding.{label_listed}
use Rattle.lw_laws.proofs.Extracts.{lower_before, slice_get_left, slice_get_right}
use Rattle.lw_exists.specs.Weakly.{Weakly}
use Rattle.lw_exists.proofs.Weak.{sure, and_then, weaker, either, weak_all, Decided, weak_decided, some_zip}
use Rattle.lw_exists.proofs.Chosen.{weak_chosen}
use Rattle.lw_exists.proofs.Sorted.{AreSorted, some_sorted, sorted_at}

-- a gate of the class at this place of the gates' classes: the cell of the chosen match, and a net for each of its pins,
-- before its own
pub record IsGateFor (g : Graph) (cost : Cost) (pats : List Pattern) (labels : Labels) (heights : ℕ → ℕ) (gates : List ℕ) (j cell : ℕ) (nets : List ℕ) : Type 0 where
  pub class : ℕ
  pub match : Match
  pub pattern : Pattern
  pub at : slice_get gates j ≡ Some class
  pub chosen : IsChosen g cost pats labels heights class match pattern
  pub cell_is : cell ≡ pattern.cell
  pub nets_are : AllZip (λ q net. IsNetOf g gates q net) match.pins nets
  pub before : AllByRecursion (λ net. net < length g.leaves + j) nets

-- the classes that have gates, a gate for each, and a net for each root
pub record HaveGates (g : Graph) (cost : Cost) (pats : List Pattern) (labels : Labels) (heights : ℕ → ℕ) (roots gates : List ℕ) : Type 0 where
  pub are : AreGateClasses g cost pats labels heights roots gates
  pub each : (j : ℕ) → j < length gates → (cell : ℕ) × (nets : List ℕ) × IsGateFor g cost pats labels heights gates j cell nets
  pub root_nets : (c : ℕ) → Contains roots c → (net : ℕ) × IsNetOf g gates c net × (net < length g.leaves + length gates)

module _ (g : Graph) (cost : Cost) (pats : List Pattern) (labels : List (Option ℕ)) (heights : ℕ → ℕ) (roots : List ℕ) (are : AreHeights (choices_of g cost.pin_counts pats) cost (labels_in labels) heights) (rooted : (c : ℕ) → Contains roots c → (l : ℕ) × (labels_in labels c ≡ Some l)) where
  abbrev known : Labels
  known = labels_in labels

  abbrev Needed : ℕ → Type 0
  Needed c = IsNeeded g cost pats known heights roots c

  abbrev HasGate : ℕ → Type 0
  HasGate c = Needed c × (IsLeafClass g c → ⊥)

  abbrev HasChosen : ℕ → Type 0
  HasChosen c = (m : Match) × (p : Pattern) × IsChosen g cost pats known heights c m p

  pin_label : (ps ls : List ℕ) → HaveLabels known ps ls → (q : ℕ) → Contains ps q → (l : ℕ) × (known q ≡ Some l)
  pin_label [] ls a q (k, lt, e) = absurd (omega arith)
  pin_label (p ∷ ps) [] a q at = absurd a
  pin_label (p ∷ ps) (l ∷ ls) (e, a) q at = by_place (pin_label ps ls a q) (contains_cases p ps q at)
    where
      by_place : (Contains ps q → (l : ℕ) × (known q ≡ Some l)) → (p ≡ q) ⊎ Contains ps q → (l : ℕ) × (known q ≡ Some l)
      by_place rest (inl same) = (l, subst (λ z. known z ≡ Some l) same e)
      by_place rest (inr in') = rest in'

  needed_label : {c : ℕ} → Needed c → (l : ℕ) × (known c ≡ Some l)
  needed_label (by_root {c = c} r) = rooted c r
  needed_label (by_pin {q = q} {m = m} n inner chosen at) =
      let s = chosen.supports in pin_label m.pins s.pin_labels s.have q at

  needed_low : (c : ℕ) → Needed c → c < length labels
  needed_low c n = let (l, e) = needed_label n in label_listed labels c l e

  weakly_chosen : Weakly ((c : ℕ) → c < length labels → HasGate c → HasChosen c)
  weakly_chosen = weak_all (λ c. HasGate c → HasChosen c) (length labels) (λ c lt. and_then (either (HasGate c)) (by_case c))
    where
      by_case : (c : ℕ) → HasGate c ⊎ (HasGate c → ⊥) → Weakly (HasGate c → HasChosen c)
      by_case c (inl (n, inner)) = let (l, e) = needed_label n in weaker (λ h has. h) (weak_chosen g cost pats known heights c are l e inner)
      by_case c (inr out) = sure (λ has. absurd (out has))

  module _ (chosen_at : (c : ℕ) → c < length labels → HasGate c → HasChosen c) (leaf_or_not : Decided (IsLeafClass g) (length labels)) (gates : List ℕ) (sorted : AreSorted heights gates) (those : (c : ℕ) → Contains gates c ↔ ((c < length labels) × HasGate c)) where
    gate_at : (j c : ℕ) → slice_get gates j ≡ Some c → (c < length labels) × HasGate c
    gate_at j c e = (those c).0 (at_contained gates j c e)

    gate_classes : AreGateClasses g cost pats known heights roots gates
    gate_classes = record {
      needed = λ j c e. let (lt, has) = gate_at j c e in has;
      all = λ c n inner. contained_at gates c ((those c).1 (needed_low c n, (n, inner)));
      sorted = sorted_at heights gates sorted;
    }

    -- the net of a needed class: an input's, or that of a gate
    abbrev HasNet : ℕ → Type 0
    HasNet c =
        ((i : ℕ) × (slice_get g.leaves i ≡ Some c)) ⊎ ((j : ℕ) × (slice_get gates j ≡ Some c))

    net_at : (c : ℕ) → Needed c → HasNet c
    net_at c n = by_leaf (leaf_or_not c (needed_low c n))
      where
        by_leaf : IsLeafClass g c ⊎ (IsLeafClass g c → ⊥) → HasNet c
        by_leaf (inl leaf) = inl leaf
        by_leaf (inr inner) = inr (gate_classes.all c n inner)

    root_net : (c : ℕ) → Contains roots c → (net : ℕ) × IsNetOf g gates c net × (net < length g.leaves + length gates)
    root_net c r = by_net (net_at c (by_root r))
      where
        by_net : HasNet c → (net : ℕ) × IsNetOf g gates c net × (net < length g.leaves + length gates)
        by_net (inl (i, e)) = let lt = slice_get_within g.leaves i c e in (i, slice_get_left g.leaves gates i c e, omega arith)
        by_net (inr (j, e)) = let lt = slice_get_within gates j c e in (length g.leaves + j, slice_get_right g.leaves gates j c e, omega arith)

    -- a pin's net is before that of its gate
    pin_net : (j c q : ℕ) → slice_get gates j ≡ Some c → Needed q → suc (heights q) ≤ heights c → (net : ℕ) × (IsNetOf g gates q net × (net < length g.leaves + j))
    pin_net j c q at n lower = by_net (net_at q n)
      where
        by_net : HasNet q → (net : ℕ) × (IsNetOf g gates q net × (net < length g.leaves + j))
        by_net (inl (i, e)) = let lt = slice_get_within g.leaves i q e in (i, (slice_get_left g.leaves gates i q e, omega arith))
        by_net (inr (i, e)) =
            let lt = lower_before heights gates (sorted_at heights gates sorted) i j q c e at (omega arith) in
            (length g.leaves + i, (slice_get_right g.leaves gates i q e, omega arith))

    zip_left : (bound : ℕ) (qs nets : List ℕ) → AllZip (λ q net. IsNetOf g gates q net × (net < bound)) qs nets → AllZip (λ q net. IsNetOf g gates q net) qs nets
    zip_left bound [] [] a = tt
    zip_left bound [] (n ∷ nets) a = absurd a
    zip_left bound (q ∷ qs) [] a = absurd a
    zip_left bound (q ∷ qs) (n ∷ nets) ((is, lt), a) = (is, zip_left bound qs nets a)

    zip_right : (bound : ℕ) (qs nets : List ℕ) → AllZip (λ q net. IsNetOf g gates q net × (net < bound)) qs nets → AllByRecursion (λ net. net < bound) nets
    zip_right bound [] [] a = tt
    zip_right bound [] (n ∷ nets) a = absurd a
    zip_right bound (q ∷ qs) [] a = absurd a
    zip_right bound (q ∷ qs) (n ∷ nets) ((is, lt), a) = (lt, zip_right bound qs nets a)

    gate_for : (j : ℕ) → j < length gates → (cell : ℕ) × (nets : List ℕ) × IsGateFor g cost pats known heights gates j cell nets
    gate_for j lt =
        let (c, at) = slice_get_some gates j lt in
        let (low, (n, inner)) = gate_at j c at in
        let (m, p, chosen) = chosen_at c low (n, inner) in
        let (nets, zip) = some_zip (λ q net. IsNetOf g gates q net × (net < length g.leaves + j)) m.pins (λ q in'. pin_net j c q at (by_pin n inner chosen in') (all_contains (λ q. suc (heights q) ≤ heights c) m.pins q chosen.supports.lower in')) in (
          p.cell,
          nets,
          record {
            class = c;
            match = m;
            pattern = p;
            at = at;
            chosen = chosen;
            cell_is = refl;
            nets_are = zip_left (length g.leaves + j) m.pins nets zip;
            before = zip_right (length g.leaves + j) m.pins nets zip;
          },
        )

    have_gates : HaveGates g cost pats known heights roots gates
    have_gates = record { are = gate_classes; each = gate_for; root_nets = root_net }

  pub some_gates : Weakly ((gates : List ℕ) × HaveGates g cost pats (labels_in labels) heights roots gates)
  some_gates =
      and_then weakly_chosen (λ chosen_at.
      and_then (weak_decided (IsLeafClass g) (length labels)) (λ leaf_or_not.
      weaker (λ d.
      let (gates, (few, sorted, those)) = some_sorted heights HasGate (length labels) d in
      (gates, have_gates chosen_at leaf_or_not gates sorted those)) (weak_decided HasGate (length labels))))
