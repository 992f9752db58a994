-- Classes that have covers are classes of the graph.
use Rattle.std.proofs.Common.{◌≡◌, ℕ, zero, suc, ◌<◌, inl, inr, List, [], ◌∷◌, length, Some, slice_get, slice_index_or, sym, ◌∙◌, subst}
use Rattle.std.specs.List.{AllByRecursion}
use Rattle.std.proofs.lemmas.Option.{same_Some, slice_get_within}
use Rattle.lw_laws.proofs.Lists.{held_in}
use Rattle.lw_laws.specs.Flip.{flip}
use Rattle.lw_laws.specs.Trees.{Tree, leaf, const_one, const_zero, inv, nand}
use Rattle.lw_laws.specs.Graphs.{Graph, Stands}
use Rattle.lw_laws.specs.Covers.{Pattern}
use Rattle.lw_laws.specs.Costs.{Cost}
use Rattle.lw_laws.specs.Choices.{HasCost, HaveCosts}
use Rattle.lw_laws.specs.Choices.HasCost.{by_wire, by_gate}
use Rattle.lw_laws.specs.Choices.HaveCosts.{no_pins, pin}
use Rattle.lw_laws.specs.Matches.{choices_of}
use Rattle.lw_laws.proofs.Flips.{flip-flip}
use Rattle.lw_graph.specs.Graphs.{IsGraph}
use Rattle.lw_choices.proofs.Lists.{got}
use Rattle.lw_graph.proofs.Graphs.{flip_below}

module _ (g : Graph) (is : IsGraph g) where
  abbrev All-in : List ℕ → Type 0
  All-in ps = AllByRecursion (λ p. p < length g.pairs) ps

  all_at : (ps : List ℕ) (k c : ℕ) → All-in ps → slice_get ps k ≡ Some c → c < length g.pairs
  all_at [] k c all at = cc
  all_at (p ∷ ps) zero c (lt, all) at = subst (λ q. q < length g.pairs) (same_Some p c at) lt
  all_at (p ∷ ps) (suc k) c (lt, all) at = all_at ps k c all at

  stands_in : (ps : List ℕ) (t : Tree) (c : ℕ) → All-in ps → Stands g ps t c → c < length g.pairs
  stands_in ps (leaf k) c all at = all_at ps k c all at
  stands_in ps const_one c all at = subst (λ q. q < length g.pairs) (sym at) is.one
  stands_in ps const_zero c all at = subst (λ q. q < length g.pairs) (sym at) (flip_below (length g.pairs) g.one is.even is.one)
  stands_in ps (inv t) c all at = subst (λ q. q < length g.pairs) (flip-flip c) (flip_below (length g.pairs) (flip c) is.even (stands_in ps t (flip c) all at))
  stands_in ps (nand t u) c all (x, y, inl h, at, bt) = held_in g.pairs c (record { x = x; y = y }) h
  stands_in ps (nand t u) c all (x, y, inr h, at, bt) = held_in g.pairs c (record { x = y; y = x }) h

  module _ (pin_counts : List ℕ) (pats : List Pattern) (cost : Cost) where
    mutual
      pub cost_in : {c d : ℕ} → HasCost (choices_of g pin_counts pats) cost c d → c < length g.pairs
      cost_in (by_wire {c = c} {i = i} h) =
          let lt = slice_get_within g.leaves i c h in
          subst (λ q. q < length g.pairs) (same_Some (slice_index_or g.leaves i 0) c (sym (got g.leaves i 0 lt) ∙ h)) (is.leaves i 0 lt)
      cost_in (by_gate {c = c} {ps = ps} m ks) = stands_in ps m.pattern.tree c (costs_in ks) m.stands

      costs_in : {ps ds : List ℕ} → HaveCosts (choices_of g pin_counts pats) cost ps ds → All-in ps
      costs_in no_pins = tt
      costs_in (pin k ks) = (cost_in k, costs_in ks)
