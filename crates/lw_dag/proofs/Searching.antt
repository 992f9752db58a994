-- Paths through fan-ins, by numbers.
use Rattle.std.proofs.Common.{◌≡◌, ℕ, zero, suc, ◌+◌, ◌-◌, ◌<◌, ◌≤◌, ◌⊎◌, inl, inr, Bool, true, false, not, cond, List, [], ◌∷◌, ◌++◌, length, drop, replicate, get_or, set, All, Contains, refl, sym, ap, subst, ◌∙◌, arith, length-set, get_or-set_same, get_or-set_other}
use Rattle.std.proofs.lemmas.List.{drop_more, length-replicate, get_or_default, get_or_past}
use Rattle.std.proofs.lemmas.List.Elements.{Contains-push, Contains-append_left, Contains-push_cases, All-contains}
use Rattle.std.proofs.lemmas.List.Sums.{sum_by-set}
use Rattle.std.proofs.lemmas.Bool.{cases_eq, cases_lt, false≢true}
use Rattle.lw_facts.proofs.Lists.{contains_cases}
use Rattle.lw_dag.specs.Graphs.{IsGraph, fanins_at, height_at, tallest, AreKnown, Leads}
use Rattle.lw_dag.specs.Searching.{is_seen, unseen, IsReached, IsSearching}
use Rattle.lw_dag.specs.Graphs.Leads.{one_step, then_path}
use Rattle.lw_dag.proofs.Rising.{contains_none, later_cases}

-- a path and one more step
pub leads_on : (inputs : ℕ) (graph : List (List ℕ)) (j t k s : ℕ) → Leads inputs graph j t → t ≡ inputs + k → Contains (fanins_at graph k) s → Leads inputs graph j s
leads_on inputs graph j t k s (one_step among) is step = then_path k (subst (Contains (fanins_at graph j)) is among) (one_step step)
leads_on inputs graph j t k s (then_path m among path) is step = then_path m among (leads_on inputs graph m t k s path is step)

-- a fan-in is not higher than the tallest
tallest-above : (heights signals : List ℕ) (k s : ℕ) → k < length signals → get_or signals k s ≡ s → height_at heights s ≤ tallest heights signals
tallest-above heights [] k s lt e = absurd (omega arith)
tallest-above heights (t ∷ signals) zero s lt e = omega (arith, ap (height_at heights) e)
tallest-above heights (t ∷ signals) (suc k) s lt e = omega (arith, tallest-above heights signals k s (omega arith) e)

-- heights fall along a path
pub record Falls (heights : List ℕ) (from to : ℕ) : Type 0 where
  pub known : 0 < height_at heights to
  pub below : height_at heights to < height_at heights from

pub in_graph : (graph : List (List ℕ)) (j s : ℕ) → Contains (fanins_at graph j) s → j < length graph
in_graph graph j s among = by_place (cases_lt j (length graph))
  where
    by_place : (j < length graph) ⊎ (length graph ≤ j) → j < length graph
    by_place (inl lt) = lt
    by_place (inr past) = absurd (contains_none s (subst (λ ns. Contains ns s) (get_or_past graph j [] past) among))

one_falls : (inputs : ℕ) (graph : List (List ℕ)) (heights : List ℕ) → AreKnown inputs graph heights → (j s : ℕ) → Contains (fanins_at graph j) s → 0 < height_at heights (inputs + j) → Falls heights (inputs + j) s
one_falls inputs graph heights known j s among some =
    let p = known.placed j (in_graph graph j s among) some in
    record {
      known = All-contains (λ t. 0 < height_at heights t) (fanins_at graph j) s p.known among;
      below = omega (arith, p.height, tallest-above heights (fanins_at graph j) among.0 s among.1 among.2);
    }

pub path_falls : (inputs : ℕ) (graph : List (List ℕ)) (heights : List ℕ) → AreKnown inputs graph heights → (j s : ℕ) → Leads inputs graph j s → 0 < height_at heights (inputs + j) → Falls heights (inputs + j) s
path_falls inputs graph heights known j s (one_step among) some = one_falls inputs graph heights known j s among some
path_falls inputs graph heights known j s (then_path k among path) some =
    let f = one_falls inputs graph heights known j (inputs + k) among some in
    let g = path_falls inputs graph heights known k s path f.known in
    record { known = g.known; below = omega (arith, f.below, g.below) }

-- a node that has a height doesn't lead to itself
pub placed_no_cycle : (inputs : ℕ) (graph : List (List ℕ)) (heights : List ℕ) → AreKnown inputs graph heights → (j : ℕ) → 0 < height_at heights (inputs + j) → Leads inputs graph j (inputs + j) → ⊥
placed_no_cycle inputs graph heights known j some path = omega (arith, (path_falls inputs graph heights known j (inputs + j) path some).below)

-- where each input and each node has a height
pub all_known : (inputs : ℕ) (heights : List ℕ) → ((s : ℕ) → s < inputs → height_at heights s ≡ 1) → ((j : ℕ) → inputs + j < length heights → 0 < height_at heights (inputs + j)) → All (λ h. 0 < h) heights
all_known inputs heights ones nodes = λ k d lt. subst (λ h. 0 < h) (get_or_default heights k 0 d lt) (by_input k lt (cases_lt k inputs))
  where
    by_input : (k : ℕ) → k < length heights → (k < inputs) ⊎ (inputs ≤ k) → 0 < height_at heights k
    by_input k lt (inl input) = omega (arith, ones k input)
    by_input k lt (inr node) =
        let is : inputs + (k - inputs) ≡ k = omega arith in
        subst (λ n. 0 < height_at heights n) is (nodes (k - inputs) (omega arith))

abbrev one_unseen : Bool → ℕ
one_unseen b = cond (not b) 1 0

-- one node more is seen
pub unseen-set : (seen : List Bool) (at : ℕ) → at < length seen → get_or seen at false ≡ false → unseen (set seen at true) + 1 ≡ unseen seen
unseen-set seen at below is = omega (arith, sum_by-set one_unseen seen at true false below, ap one_unseen is)

-- a walk, one step on
pub walk_step : (inputs : ℕ) (graph : List (List ℕ)) (seen : List Bool) (at next : ℕ) → at < length seen → Contains (fanins_at graph at) (inputs + next) → ((x : ℕ) → is_seen seen x ≡ true → Leads inputs graph x (inputs + at)) → (x : ℕ) → is_seen (set seen at true) x ≡ true → Leads inputs graph x (inputs + next)
walk_step inputs graph seen at next below among all x is = by_place (cases_eq x at)
  where
    by_place : (x ≡ at) ⊎ (x ≡ at → ⊥) → Leads inputs graph x (inputs + next)
    by_place (inl same) = subst (λ n. Leads inputs graph n (inputs + next)) (sym same) (one_step among)
    by_place (inr other) = leads_on inputs graph x (inputs + at) at (inputs + next) (all x (sym (get_or-set_other seen at x true false other) ∙ is)) refl among

later_more : (list : List ℕ) (at x : ℕ) → at < length list → Contains (drop (at + 1) list) x → Contains (drop at list) x
later_more list at x below (k, lt, e) = subst (λ l. Contains l x) (sym (drop_more list at 0 below)) (suc k, omega arith, e)

module _ (inputs : ℕ) (graph : List (List ℕ)) (p : ℕ) (seen : List Bool) (ready list : List ℕ) (at s : ℕ) (below : at < length list) (here : s ≡ get_or list at 0) (searching : IsSearching inputs graph p seen ready (drop at list)) where
  fanins_after : (t : ℕ) → Contains (drop (at + 1) list) t → (t < inputs + length graph) × Leads inputs graph p t
  fanins_after t among = searching.fanins t (later_more list at t below among)

  -- the fan-in is seen, or is an input
  pub searching_known : ((y : ℕ) → s ≡ inputs + y → is_seen seen y ≡ true) → IsSearching inputs graph p seen ready (drop (at + 1) list)
  searching_known known = record {
    flags = searching.flags;
    reached = searching.reached;
    nodes = searching.nodes;
    fanins = fanins_after;
    closed = λ x y reached among. by_old x y (searching.closed x y reached among);
  }
    where
      by_later : (x y : ℕ) → (get_or list at 0 ≡ inputs + y) ⊎ Contains (drop (at + 1) list) (inputs + y) → (is_seen seen y ≡ true) ⊎ Contains ready x ⊎ Contains (drop (at + 1) list) (inputs + y)
      by_later x y (inl same) = inl (known y (here ∙ same))
      by_later x y (inr later) = inr (inr later)

      by_old : (x y : ℕ) → (is_seen seen y ≡ true) ⊎ Contains ready x ⊎ Contains (drop at list) (inputs + y) → (is_seen seen y ≡ true) ⊎ Contains ready x ⊎ Contains (drop (at + 1) list) (inputs + y)
      by_old x y (inl is) = inl is
      by_old x y (inr (inl is)) = inr (inl is)
      by_old x y (inr (inr later)) = by_later x y (later_cases list at (inputs + y) below later)

  -- the fan-in is a node that wasn't seen
  pub searching_noted : (node : ℕ) → s ≡ inputs + node → IsSearching inputs graph p (set seen node true) (ready ++ node ∷ []) (drop (at + 1) list)
  searching_noted node is = record {
    flags = length-set seen node true ∙ searching.flags;
    reached = reached_after;
    nodes = nodes_after;
    fanins = fanins_after;
    closed = λ x y reached among. by_reached x y reached among (cases_eq x node);
  }
    where
      here_later : Contains (drop at list) s
      here_later = subst (λ l. Contains l s) (sym (drop_more list at 0 below)) (zero, omega arith, sym here)

      known : (s < inputs + length graph) × Leads inputs graph p s
      known = searching.fanins s here_later

      in_seen : node < length seen
      in_seen = omega (arith, known.0, searching.flags)

      at_node : is_seen (set seen node true) node ≡ true
      at_node = get_or-set_same seen node true false in_seen

      kept : (y : ℕ) → is_seen seen y ≡ true → is_seen (set seen node true) y ≡ true
      kept y old = by_place (cases_eq y node)
        where
          by_place : (y ≡ node) ⊎ (y ≡ node → ⊥) → is_seen (set seen node true) y ≡ true
          by_place (inl same) = ap (is_seen (set seen node true)) same ∙ at_node
          by_place (inr other) = get_or-set_other seen node y true false other ∙ old

      reached_after : (x : ℕ) → is_seen (set seen node true) x ≡ true → Leads inputs graph p (inputs + x)
      reached_after x now = by_place (cases_eq x node)
        where
          by_place : (x ≡ node) ⊎ (x ≡ node → ⊥) → Leads inputs graph p (inputs + x)
          by_place (inl same) = subst (Leads inputs graph p) (is ∙ ap (λ n. inputs + n) (sym same)) known.1
          by_place (inr other) = searching.reached x (sym (get_or-set_other seen node x true false other) ∙ now)

      still : (x : ℕ) → IsReached p seen x → IsReached p (set seen node true) x
      still x (inl same) = inl same
      still x (inr old) = inr (kept x old)

      nodes_after : (x : ℕ) → Contains (ready ++ node ∷ []) x → (x < length graph) × IsReached p (set seen node true) x
      nodes_after x among = by_old (Contains-push_cases ready node x among)
        where
          by_old : Contains ready x ⊎ (node ≡ x) → (x < length graph) × IsReached p (set seen node true) x
          by_old (inl old) = let n = searching.nodes x old in (n.0, still x n.1)
          by_old (inr same) = (omega (arith, same, in_seen, searching.flags), inr (ap (is_seen (set seen node true)) (sym same) ∙ at_node))

      by_reached : (x y : ℕ) → IsReached p (set seen node true) x → Contains (fanins_at graph x) (inputs + y) → (x ≡ node) ⊎ (x ≡ node → ⊥) → (is_seen (set seen node true) y ≡ true) ⊎ Contains (ready ++ node ∷ []) x ⊎ Contains (drop (at + 1) list) (inputs + y)
      by_reached x y reached among (inl same) = inr (inl (subst (Contains (ready ++ node ∷ [])) (sym same) (Contains-push ready node)))
      by_reached x y reached among (inr other) = by_old (searching.closed x y (before reached) among)
        where
          before : IsReached p (set seen node true) x → IsReached p seen x
          before (inl same) = inl same
          before (inr now) = inr (sym (get_or-set_other seen node x true false other) ∙ now)

          by_later : (get_or list at 0 ≡ inputs + y) ⊎ Contains (drop (at + 1) list) (inputs + y) → (is_seen (set seen node true) y ≡ true) ⊎ Contains (ready ++ node ∷ []) x ⊎ Contains (drop (at + 1) list) (inputs + y)
          by_later (inl same) = let e : y ≡ node = omega (arith, here, same, is) in inl (ap (is_seen (set seen node true)) e ∙ at_node)
          by_later (inr later) = inr (inr later)

          by_old : (is_seen seen y ≡ true) ⊎ Contains ready x ⊎ Contains (drop at list) (inputs + y) → (is_seen (set seen node true) y ≡ true) ⊎ Contains (ready ++ node ∷ []) x ⊎ Contains (drop (at + 1) list) (inputs + y)
          by_old (inl old) = inl (kept y old)
          by_old (inr (inl old)) = inr (inl (Contains-append_left ready (node ∷ []) x old))
          by_old (inr (inr later)) = by_later (later_cases list at (inputs + y) below later)

-- one of the nodes is looked at
pub searching_taken : (inputs : ℕ) (graph : List (List ℕ)) (p : ℕ) (seen : List Bool) (ready rest : List ℕ) (node : ℕ) → IsGraph inputs graph → ready ≡ rest ++ node ∷ [] → IsSearching inputs graph p seen ready [] → IsSearching inputs graph p seen rest (fanins_at graph node)
searching_taken inputs graph p seen ready rest node is_graph popped searching = record {
  flags = searching.flags;
  reached = searching.reached;
  nodes = λ x among. searching.nodes x (subst (λ l. Contains l x) (sym popped) (Contains-append_left rest (node ∷ []) x among));
  fanins = λ s among. (All-contains (λ t. t < inputs + length graph) (fanins_at graph node) s (is_graph node) among, led s among reached_node.1);
  closed = λ x y reached among. by_old x y among (searching.closed x y reached among);
}
  where
    reached_node : (node < length graph) × IsReached p seen node
    reached_node = searching.nodes node (subst (λ l. Contains l node) (sym popped) (Contains-push rest node))

    led : (s : ℕ) → Contains (fanins_at graph node) s → IsReached p seen node → Leads inputs graph p s
    led s among (inl same) = one_step (subst (λ n. Contains (fanins_at graph n) s) same among)
    led s among (inr is) = leads_on inputs graph p (inputs + node) node s (searching.reached node is) refl among

    by_last : (x y : ℕ) → Contains (fanins_at graph x) (inputs + y) → Contains rest x ⊎ (node ≡ x) → (is_seen seen y ≡ true) ⊎ Contains rest x ⊎ Contains (fanins_at graph node) (inputs + y)
    by_last x y among (inl old) = inr (inl old)
    by_last x y among (inr same) = inr (inr (subst (λ n. Contains (fanins_at graph n) (inputs + y)) (sym same) among))

    by_old : (x y : ℕ) → Contains (fanins_at graph x) (inputs + y) → (is_seen seen y ≡ true) ⊎ Contains ready x ⊎ Contains [] (inputs + y) → (is_seen seen y ≡ true) ⊎ Contains rest x ⊎ Contains (fanins_at graph node) (inputs + y)
    by_old x y among (inl is) = inl is
    by_old x y among (inr (inl old)) = by_last x y among (Contains-push_cases rest node x (subst (λ l. Contains l x) popped old))
    by_old x y among (inr (inr none)) = absurd (contains_none (inputs + y) none)

none_seen : (n x : ℕ) → get_or (replicate n false) x false ≡ false
none_seen zero x = refl
none_seen (suc n) zero = refl
none_seen (suc n) (suc x) = none_seen n x

pub nothing_seen : (n x : ℕ) → is_seen (replicate n false) x ≡ true → ⊥
nothing_seen n x is = false≢true (sym (none_seen n x) ∙ is)

pub searching_starts : (inputs : ℕ) (graph : List (List ℕ)) (p : ℕ) → p < length graph → IsSearching inputs graph p (replicate (length graph) false) (p ∷ []) []
searching_starts inputs graph p within = record {
  flags = length-replicate (length graph) false;
  reached = λ x is. absurd (nothing_seen (length graph) x is);
  nodes = λ x among. by_node x (contains_cases p [] x among);
  fanins = λ s none. absurd (contains_none s none);
  closed = λ x y reached among. by_reached x y reached;
}
  where
    by_node : (x : ℕ) → (p ≡ x) ⊎ Contains [] x → (x < length graph) × IsReached p (replicate (length graph) false) x
    by_node x (inl same) = (subst (λ n. n < length graph) same within, inl (sym same))
    by_node x (inr none) = absurd (contains_none x none)

    by_reached : (x y : ℕ) → IsReached p (replicate (length graph) false) x → (is_seen (replicate (length graph) false) y ≡ true) ⊎ Contains (p ∷ []) x ⊎ Contains [] (inputs + y)
    by_reached x y (inl same) = inr (inl (0, omega arith, sym same))
    by_reached x y (inr is) = absurd (nothing_seen (length graph) x is)

-- where nothing is left to be looked at, all that p leads to was seen
pub searching_ends : (inputs : ℕ) (graph : List (List ℕ)) (p : ℕ) (seen : List Bool) → IsSearching inputs graph p seen [] [] → (x t y : ℕ) → Leads inputs graph x t → IsReached p seen x → t ≡ inputs + y → is_seen seen y ≡ true
searching_ends inputs graph p seen searching x t y (one_step among) reached is = by_closed (searching.closed x y reached (subst (Contains (fanins_at graph x)) is among))
  where
    by_closed : (is_seen seen y ≡ true) ⊎ Contains [] x ⊎ Contains [] (inputs + y) → is_seen seen y ≡ true
    by_closed (inl now) = now
    by_closed (inr (inl none)) = absurd (contains_none x none)
    by_closed (inr (inr none)) = absurd (contains_none (inputs + y) none)
searching_ends inputs graph p seen searching x t y (then_path k among path) reached is = searching_ends inputs graph p seen searching k t y path (inr (by_closed (searching.closed x k reached among))) is
  where
    by_closed : (is_seen seen k ≡ true) ⊎ Contains [] x ⊎ Contains [] (inputs + k) → is_seen seen k ≡ true
    by_closed (inl now) = now
    by_closed (inr (inl none)) = absurd (contains_none x none)
    by_closed (inr (inr none)) = absurd (contains_none (inputs + k) none)
