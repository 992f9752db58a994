-- The class at which a tree stands, by those of its parts.
use Rattle.std.proofs.Common.{ℕ, ◌+◌, ◌-◌, ◌<◌, ◌≤◌, ◌≡◌, ◌⊎◌, List, length, Option, Some, None, IfSome, IsNone, slice_get, slice_index_or, refl, ap, sym, ◌∙◌, subst, arith}
use Rattle.std.proofs.lemmas.Option.{same_Some, none-some}
use Rattle.lw_facts.proofs.Lists.{all_at}
use Rattle.lw_pool.specs.declared.id.ClassId.{ClassId}
use Rattle.lw_laws.specs.Flip.{flip}
use Rattle.lw_laws.specs.Graphs.{Graph, HoldsPair, Stands}
use Rattle.lw_laws.specs.Trees.{Tree, leaf, const_one, const_zero, inv, nand}
use Rattle.lw_laws.proofs.Flips.{flip-flip, half-flip}
use Rattle.lw_graph.specs.Graphs.{IsGraph}
use Rattle.lw_pattern.specs.declared.node.PatNode.{PatNode}
use Rattle.lw_pattern.specs.Nodes.{tree_at, tree_of}
use Rattle.lw_check.specs.Claims.{class_number}
use Rattle.lw_check.specs.Standing.{AreStanding, AreWithin, StandsAlone}
use Rattle.lw_check.proofs.Places.{from_map, map_at}
use Rattle.lw_pool.specs.Numbers.{numbers}

module _ (g : Graph) where
  pub pin_alone : (pins : List ClassId) (k : ℕ) → AreWithin g pins → StandsAlone g (numbers pins) (leaf k) (slice_get pins k)
  pin_alone pins k within = by_pin (slice_get pins k) refl
    where
      by_pin : (o : Option ClassId) → slice_get pins k ≡ o → StandsAlone g (numbers pins) (leaf k) o
      by_pin None e = λ c s. let (pin, at, same) = from_map class_number pins k c s in none-some pin (sym e ∙ at)
      by_pin (Some pin) e =
          let here = map_at class_number pins k pin e in (
            here,
            λ c s. same_Some c pin.0 (sym s ∙ here),
            all_at (λ (class : ClassId). class.0 < length g.pairs) pins k pin within e,
          )

  pub one_alone : (w : List ℕ) (class : ClassId) → class.0 ≡ g.one → class.0 < length g.pairs → StandsAlone g w const_one (Some class)
  one_alone w class e lt = (e, λ c s. s ∙ sym e, lt)

  pub zero_alone : (w : List ℕ) (class : ClassId) → class.0 ≡ flip g.one → IsGraph g → StandsAlone g w const_zero (Some class)
  zero_alone w class e is = (e, λ c s. s ∙ sym e, (let half = half-flip g.one in let even = is.even in let lt = is.one in omega arith))

  pub inv_alone : (w : List ℕ) (t : Tree) (class other : ClassId) → IsGraph g → other.0 ≡ flip class.0 → StandsAlone g w t (Some class) → StandsAlone g w (inv t) (Some other)
  inv_alone w t class other is e (stands, only, lt) = (
    subst (λ c. Stands g w t c) (sym (ap flip e ∙ flip-flip class.0)) stands,
    λ c s. sym (flip-flip c) ∙ (ap flip (only (flip c) s) ∙ sym e),
    let half = half-flip class.0 in let even = is.even in omega arith,
  )

  -- where a tree stands is a class of the graph
  pub alone_within : (w : List ℕ) (t : Tree) (o : Option ClassId) → StandsAlone g w t o → IfSome o (λ (class : ClassId). class.0 < length g.pairs)
  alone_within w t None alone = tt
  alone_within w t (Some class) alone = alone.2

  -- a pair of trees whose classes are known
  module _ (w : List ℕ) (t u : Tree) where
    pub pair_alone : (left right : ClassId) (result : Option ClassId) → IsGraph g → IfSome result (λ (c : ClassId). HoldsPair g c.0 left.0 right.0) → (IsNone result → (c : ℕ) → HoldsPair g c left.0 right.0 → ⊥) → IfSome result (λ (c : ClassId). c.0 < length g.pairs) → StandsAlone g w t (Some left) → StandsAlone g w u (Some right) → StandsAlone g w (nand t u) result
    pair_alone left right None is some none within l r = λ c (x, y, holds, s, z). none refl c (moved c x y holds (l.1 x s) (r.1 y z))
      where
        moved : (c x y : ℕ) → HoldsPair g c x y → x ≡ left.0 → y ≡ right.0 → HoldsPair g c left.0 right.0
        moved c x y h e f = subst (λ b. HoldsPair g c left.0 b) f (subst (λ a. HoldsPair g c a y) e h)
    pair_alone left right (Some class) is some none within l r = (
      (left.0, right.0, some, l.0, r.0),
      λ c (x, y, holds, s, z). is.once c class.0 left.0 right.0 (moved c x y holds (l.1 x s) (r.1 y z)) some,
      within,
    )
      where
        moved : (c x y : ℕ) → HoldsPair g c x y → x ≡ left.0 → y ≡ right.0 → HoldsPair g c left.0 right.0
        moved c x y h e f = subst (λ b. HoldsPair g c left.0 b) f (subst (λ a. HoldsPair g c a y) e h)

  -- where all nodes are known, so is the last
  pub last_alone : (w : List ℕ) (nodes : List PatNode) (count last : ℕ) (classes : List (Option ClassId)) → length nodes ≤ count → 0 < length nodes → last ≡ length nodes - 1 → AreStanding g w nodes count classes → StandsAlone g w (tree_of nodes) (slice_index_or classes last None)
  unfolding tree_of
  last_alone w nodes count last classes all some e are =
      subst (λ n. StandsAlone g w (tree_at nodes (length nodes - 1)) (slice_index_or classes n None)) (sym e) (are (length nodes - 1) (omega arith))
