-- The least costs of the classes of a graph cannot fail to be there.
use Rattle.std.proofs.Common.{ℕ, ◌<◌, ◌≤◌, ◌≡◌, ◌⊎◌, inl, inr, List, length, Option, Some, None, slice_get, refl, sym, subst, arith}
use Rattle.std.proofs.lemmas.List.{get_or_past}
use Rattle.std.proofs.lemmas.Option.{get_or_from_slice_get}
use native.Mathlib.Decide.{dec_lt}
use Rattle.lw_laws.specs.Trees.{Tree}
use Rattle.lw_laws.specs.Graphs.{Graph, Unfolds}
use Rattle.lw_laws.specs.Covers.{Pattern, Cover, IsCover, tree_of}
use Rattle.lw_laws.specs.Costs.{Cost, cost_of}
use Rattle.lw_laws.specs.Matches.{IsLeastCover}
use Rattle.lw_laws.specs.Rounds.{labels_in}
use Rattle.lw_laws.proofs.Lists.{slice_get_some}
use Rattle.lw_exists.specs.Weakly.{Weakly}
use Rattle.lw_exists.proofs.Weak.{sure, and_then, weaker, either, weak_all, weak_least, some_list}

module _ (g : Graph) (pats : List Pattern) (cost : Cost) (low : (t : Tree) (c : ℕ) → Unfolds g t c → c < length g.pairs) where
  -- a cover of the class has this cost
  abbrev HasCover : ℕ → ℕ → Type 0
  HasCover c d = (k : Cover) × IsCover cost.pin_counts pats k × Unfolds g (tree_of k) c × (cost_of cost k ≡ d)

  abbrev HasLeast : ℕ → Type 0
  HasLeast c = (o : Option ℕ) × IsLeastCover g pats cost c o

  least_at : (c : ℕ) → Weakly (HasLeast c)
  least_at c = and_then (either ((d : ℕ) × HasCover c d)) by_case
    where
      found : (m : ℕ) × HasCover c m × ((d : ℕ) → HasCover c d → m ≤ d) → HasLeast c
      found (m, is, least) = (Some m, (is, λ k k_is u. least (cost_of cost k) (k, k_is, u, refl)))

      by_case : ((d : ℕ) × HasCover c d) ⊎ (((d : ℕ) × HasCover c d) → ⊥) → Weakly (HasLeast c)
      by_case (inl (d, is)) = weaker found (weak_least (HasCover c) d is)
      by_case (inr none) = sure (None, λ k k_is u. none (cost_of cost k, (k, k_is, u, refl)))

  past : (c : ℕ) → length g.pairs ≤ c → IsLeastCover g pats cost c None
  past c le k k_is u = let lt = low (tree_of k) c u in omega arith

  in_list : ((c : ℕ) → c < length g.pairs → HasLeast c) → (labels : List (Option ℕ)) × (length labels ≡ length g.pairs) × ((c : ℕ) → IsLeastCover g pats cost c (labels_in labels c))
  in_list each =
      let (labels, count, are) = some_list (λ c o. IsLeastCover g pats cost c o) (length g.pairs) each in
      (labels, count, λ c. by_place labels count are c (dec_lt c (length labels)))
    where
      by_place : (labels : List (Option ℕ)) → length labels ≡ length g.pairs → ((c : ℕ) (o : Option ℕ) → slice_get labels c ≡ Some o → IsLeastCover g pats cost c o) → (c : ℕ) → Dec (c < length labels) → IsLeastCover g pats cost c (labels_in labels c)
      by_place labels count are c (yes lt) =
          let (o, e) = slice_get_some labels c lt in
          subst (IsLeastCover g pats cost c) (sym (get_or_from_slice_get labels c o None e)) (are c o e)
      by_place labels count are c (no out) =
          subst (IsLeastCover g pats cost c) (sym (get_or_past labels c None (omega arith))) (past c (omega arith))

  pub some_labels : Weakly ((labels : List (Option ℕ)) × (length labels ≡ length g.pairs) × ((c : ℕ) → IsLeastCover g pats cost c (labels_in labels c)))
  some_labels = weaker in_list (weak_all HasLeast (length g.pairs) (λ c lt. least_at c))
