-- Ranks that are given one after another.
use Rattle.std.proofs.Common.{◌≡◌, ℕ, zero, suc, ◌+◌, ◌<◌, ◌≤◌, ◌⊎◌, inl, inr, List, [], ◌∷◌, ◌++◌, length, drop, replicate, get_or, set, Contains, refl, sym, ap, subst, ◌∙◌, arith, length-set, get_or-set_same, get_or-set_other}
use Rattle.std.proofs.lemmas.List.{length-replicate}
use Rattle.std.proofs.lemmas.List.Elements.{Contains-push, Contains-append_left, Contains-push_cases}
use Rattle.std.proofs.lemmas.Bool.{cases_eq}
use Rattle.lw_facts.proofs.Lists.{contains_cases}
use Rattle.lw_dag.specs.Graphs.{fanins_at, Leads}
use Rattle.lw_dag.specs.Graphs.Leads.{one_step, then_path}
use Rattle.lw_dag.specs.Ranking.{rank_at, IsNotAbove, AreRanks, IsRanking}
use Rattle.lw_dag.proofs.Rising.{contains_none, later_cases}

none_ranked : (n x : ℕ) → rank_at (replicate n 0) x ≡ 0
none_ranked zero x = refl
none_ranked (suc n) zero = refl
none_ranked (suc n) (suc x) = none_ranked n x

pub ranks_none : (inputs : ℕ) (graph : List (List ℕ)) → AreRanks inputs graph (replicate (length graph) 0)
ranks_none inputs graph = record {
  one_each = length-replicate (length graph) 0;
  falls = λ x y some among. absurd (omega (arith, none_ranked (length graph) x));
}

pub low_none : (n x : ℕ) → rank_at (replicate n 0) x ≤ 0
low_none n x = omega (arith, none_ranked n x)

-- a rank that is given leaves those of other nodes
kept : (ranks : List ℕ) (at rank x : ℕ) → rank_at ranks at ≡ 0 → 0 < rank_at ranks x → rank_at (set ranks at rank) x ≡ rank_at ranks x
kept ranks at rank x none some = get_or-set_other ranks at x rank 0 (λ same. omega (arith, subst (λ n. 0 < rank_at ranks n) same some))

low_after : (ranks : List ℕ) (at rank : ℕ) → at < length ranks → ((x : ℕ) → rank_at ranks x ≤ rank) → (x : ℕ) → rank_at (set ranks at rank) x ≤ rank
low_after ranks at rank within low x = by_place (cases_eq x at)
  where
    by_place : (x ≡ at) ⊎ (x ≡ at → ⊥) → rank_at (set ranks at rank) x ≤ rank
    by_place (inl same) = omega (arith, ap (rank_at (set ranks at rank)) same, get_or-set_same ranks at rank 0 within)
    by_place (inr other) = omega (arith, get_or-set_other ranks at x rank 0 other, low x)

not_above_after : (ranks : List ℕ) (at rank x y : ℕ) → rank_at ranks at ≡ 0 → 0 < rank_at ranks x → IsNotAbove ranks x y → IsNotAbove (set ranks at rank) x y
not_above_after ranks at rank x y none some (known, low) =
    (omega (arith, kept ranks at rank y none known, known), omega (arith, kept ranks at rank y none known, kept ranks at rank x none some, low))

-- a node gets a rank above all others
pub ranking_starts : (inputs : ℕ) (graph : List (List ℕ)) (rank : ℕ) (ranks : List ℕ) (p : ℕ) → p < length graph → rank_at ranks p ≡ 0 → AreRanks inputs graph ranks → ((x : ℕ) → rank_at ranks x < rank) → IsRanking inputs graph rank (set ranks p rank) (p ∷ []) []
ranking_starts inputs graph rank ranks p within none are above = record {
  one_each = length-set ranks p rank ∙ are.one_each;
  low = low_after ranks p rank in_ranks (λ x. omega (arith, above x));
  nodes = λ x among. by_node x (contains_cases p [] x among);
  falls = λ x y some among. by_place x y some among (cases_eq x p);
}
  where
    in_ranks : p < length ranks
    in_ranks = omega (arith, are.one_each)

    by_node : (x : ℕ) → (p ≡ x) ⊎ Contains [] x → (x < length graph) × (rank_at (set ranks p rank) x ≡ rank)
    by_node x (inl same) = (omega arith, ap (rank_at (set ranks p rank)) (sym same) ∙ get_or-set_same ranks p rank 0 in_ranks)
    by_node x (inr later) = absurd (contains_none x later)

    by_place : (x y : ℕ) → 0 < rank_at (set ranks p rank) x → Contains (fanins_at graph x) (inputs + y) → (x ≡ p) ⊎ (x ≡ p → ⊥) → IsNotAbove (set ranks p rank) x y ⊎ Contains (p ∷ []) x ⊎ ((rank_at (set ranks p rank) x ≡ rank) × Contains [] (inputs + y))
    by_place x y some among (inl same) = inr (inl (0, omega arith, sym same))
    by_place x y some among (inr other) =
        let before : 0 < rank_at ranks x = omega (arith, some, get_or-set_other ranks p x rank 0 other) in
        inl (not_above_after ranks p rank x y none before (are.falls x y before among))

module _ (inputs : ℕ) (graph : List (List ℕ)) (rank : ℕ) (ranks ready list : List ℕ) (at s : ℕ) (some : 0 < rank) (below : at < length list) (here : s ≡ get_or list at 0) (ranking : IsRanking inputs graph rank ranks ready (drop at list)) where
  -- the fan-in has a rank, or is an input
  pub ranking_known : ((y : ℕ) → s ≡ inputs + y → 0 < rank_at ranks y) → IsRanking inputs graph rank ranks ready (drop (at + 1) list)
  ranking_known known = record {
    one_each = ranking.one_each;
    low = ranking.low;
    nodes = ranking.nodes;
    falls = λ x y has among. by_old x y (ranking.falls x y has among);
  }
    where
      by_later : (x y : ℕ) → rank_at ranks x ≡ rank → (get_or list at 0 ≡ inputs + y) ⊎ Contains (drop (at + 1) list) (inputs + y) → IsNotAbove ranks x y ⊎ Contains ready x ⊎ ((rank_at ranks x ≡ rank) × Contains (drop (at + 1) list) (inputs + y))
      by_later x y is (inl same) = inl (known y (here ∙ same), omega (arith, ranking.low y, is))
      by_later x y is (inr later) = inr (inr (is, later))

      by_old : (x y : ℕ) → IsNotAbove ranks x y ⊎ Contains ready x ⊎ ((rank_at ranks x ≡ rank) × Contains (drop at list) (inputs + y)) → IsNotAbove ranks x y ⊎ Contains ready x ⊎ ((rank_at ranks x ≡ rank) × Contains (drop (at + 1) list) (inputs + y))
      by_old x y (inl is) = inl is
      by_old x y (inr (inl is)) = inr (inl is)
      by_old x y (inr (inr (is, later))) = by_later x y is (later_cases list at (inputs + y) below later)

  -- the fan-in is a node without a rank
  pub ranking_given : (node : ℕ) → s ≡ inputs + node → node < length ranks → rank_at ranks node ≡ 0 → IsRanking inputs graph rank (set ranks node rank) (ready ++ node ∷ []) (drop (at + 1) list)
  ranking_given node is within none = record {
    one_each = length-set ranks node rank ∙ ranking.one_each;
    low = low_after ranks node rank within ranking.low;
    nodes = λ x among. by_node x (Contains-push_cases ready node x among);
    falls = λ x y has among. by_place x y has among (cases_eq x node);
  }
    where
      at_node : rank_at (set ranks node rank) node ≡ rank
      at_node = get_or-set_same ranks node rank 0 within

      by_node : (x : ℕ) → Contains ready x ⊎ (node ≡ x) → (x < length graph) × (rank_at (set ranks node rank) x ≡ rank)
      by_node x (inl old) =
          let n = ranking.nodes x old in
          (n.0, kept ranks node rank x none (omega (arith, n.1)) ∙ n.1)
      by_node x (inr same) = (omega (arith, same, within, ranking.one_each), ap (rank_at (set ranks node rank)) (sym same) ∙ at_node)

      by_later : (x y : ℕ) → rank_at ranks x ≡ rank → (get_or list at 0 ≡ inputs + y) ⊎ Contains (drop (at + 1) list) (inputs + y) → IsNotAbove (set ranks node rank) x y ⊎ Contains (ready ++ node ∷ []) x ⊎ ((rank_at (set ranks node rank) x ≡ rank) × Contains (drop (at + 1) list) (inputs + y))
      by_later x y own (inl same) =
          let e : y ≡ node = omega (arith, here, same, is) in
          let y_is : rank_at (set ranks node rank) y ≡ rank = ap (rank_at (set ranks node rank)) e ∙ at_node in
          let x_is : rank_at (set ranks node rank) x ≡ rank = kept ranks node rank x none (omega (arith, own)) ∙ own in
          inl (omega arith, omega arith)
      by_later x y own (inr later) = inr (inr (kept ranks node rank x none (omega (arith, own)) ∙ own, later))

      by_old : (x y : ℕ) → 0 < rank_at ranks x → IsNotAbove ranks x y ⊎ Contains ready x ⊎ ((rank_at ranks x ≡ rank) × Contains (drop at list) (inputs + y)) → IsNotAbove (set ranks node rank) x y ⊎ Contains (ready ++ node ∷ []) x ⊎ ((rank_at (set ranks node rank) x ≡ rank) × Contains (drop (at + 1) list) (inputs + y))
      by_old x y has (inl old) = inl (not_above_after ranks node rank x y none has old)
      by_old x y has (inr (inl old)) = inr (inl (Contains-append_left ready (node ∷ []) x old))
      by_old x y has (inr (inr (own, later))) = by_later x y own (later_cases list at (inputs + y) below later)

      by_place : (x y : ℕ) → 0 < rank_at (set ranks node rank) x → Contains (fanins_at graph x) (inputs + y) → (x ≡ node) ⊎ (x ≡ node → ⊥) → IsNotAbove (set ranks node rank) x y ⊎ Contains (ready ++ node ∷ []) x ⊎ ((rank_at (set ranks node rank) x ≡ rank) × Contains (drop (at + 1) list) (inputs + y))
      by_place x y has among (inl same) = inr (inl (subst (Contains (ready ++ node ∷ [])) (sym same) (Contains-push ready node)))
      by_place x y has among (inr other) =
          let before : 0 < rank_at ranks x = omega (arith, has, get_or-set_other ranks node x rank 0 other) in
          by_old x y before (ranking.falls x y before among)

-- one of the nodes is looked at
pub ranking_taken : (inputs : ℕ) (graph : List (List ℕ)) (rank : ℕ) (ranks ready rest : List ℕ) (node : ℕ) → ready ≡ rest ++ node ∷ [] → IsRanking inputs graph rank ranks ready [] → IsRanking inputs graph rank ranks rest (fanins_at graph node)
ranking_taken inputs graph rank ranks ready rest node popped ranking = record {
  one_each = ranking.one_each;
  low = ranking.low;
  nodes = λ x among. ranking.nodes x (subst (λ l. Contains l x) (sym popped) (Contains-append_left rest (node ∷ []) x among));
  falls = λ x y has among. by_old x y among (ranking.falls x y has among);
}
  where
    own : rank_at ranks node ≡ rank
    own = (ranking.nodes node (subst (λ l. Contains l node) (sym popped) (Contains-push rest node))).1

    by_last : (x y : ℕ) → Contains (fanins_at graph x) (inputs + y) → Contains rest x ⊎ (node ≡ x) → IsNotAbove ranks x y ⊎ Contains rest x ⊎ ((rank_at ranks x ≡ rank) × Contains (fanins_at graph node) (inputs + y))
    by_last x y among (inl old) = inr (inl old)
    by_last x y among (inr same) = inr (inr (ap (rank_at ranks) (sym same) ∙ own, subst (λ n. Contains (fanins_at graph n) (inputs + y)) (sym same) among))

    by_old : (x y : ℕ) → Contains (fanins_at graph x) (inputs + y) → IsNotAbove ranks x y ⊎ Contains ready x ⊎ ((rank_at ranks x ≡ rank) × Contains [] (inputs + y)) → IsNotAbove ranks x y ⊎ Contains rest x ⊎ ((rank_at ranks x ≡ rank) × Contains (fanins_at graph node) (inputs + y))
    by_old x y among (inl is) = inl is
    by_old x y among (inr (inl old)) = by_last x y among (Contains-push_cases rest node x (subst (λ l. Contains l x) popped old))
    by_old x y among (inr (inr (is, none))) = absurd (contains_none (inputs + y) none)

-- nothing is left to be looked at
pub ranking_ends : (inputs : ℕ) (graph : List (List ℕ)) (rank : ℕ) (ranks : List ℕ) → IsRanking inputs graph rank ranks [] [] → AreRanks inputs graph ranks
ranking_ends inputs graph rank ranks ranking = record {
  one_each = ranking.one_each;
  falls = λ x y has among. by_old x y (ranking.falls x y has among);
}
  where
    by_old : (x y : ℕ) → IsNotAbove ranks x y ⊎ Contains [] x ⊎ ((rank_at ranks x ≡ rank) × Contains [] (inputs + y)) → IsNotAbove ranks x y
    by_old x y (inl is) = is
    by_old x y (inr (inl none)) = absurd (contains_none x none)
    by_old x y (inr (inr (is, none))) = absurd (contains_none (inputs + y) none)

-- what a node leads to is not above it
path_low : (inputs : ℕ) (graph : List (List ℕ)) (ranks : List ℕ) → AreRanks inputs graph ranks → (j s y : ℕ) → Leads inputs graph j s → s ≡ inputs + y → 0 < rank_at ranks j → rank_at ranks y ≤ rank_at ranks j
path_low inputs graph ranks are j s y (one_step among) is some = (are.falls j y some (subst (Contains (fanins_at graph j)) is among)).1
path_low inputs graph ranks are j s y (then_path k among path) is some =
    let f = are.falls j k some among in
    omega (arith, f.1, path_low inputs graph ranks are k s y path is f.0)

-- a node whose fan-ins are all below it is on no cycle
pub clear_below : (inputs : ℕ) (graph : List (List ℕ)) (ranks : List ℕ) → AreRanks inputs graph ranks → (p : ℕ) → ((k : ℕ) → Contains (fanins_at graph p) (inputs + k) → rank_at ranks k < rank_at ranks p) → (s : ℕ) → Leads inputs graph p s → s ≡ inputs + p → ⊥
clear_below inputs graph ranks are p lower s (one_step among) is = omega (arith, lower p (subst (Contains (fanins_at graph p)) is among))
clear_below inputs graph ranks are p lower s (then_path k among path) is =
    let first : rank_at ranks k < rank_at ranks p = lower k among in
    let known = (are.falls p k (omega (arith, first)) among).0 in
    omega (arith, first, path_low inputs graph ranks are k s p path is known)
