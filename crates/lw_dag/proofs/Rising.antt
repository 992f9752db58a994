-- Heights that are found one after another.
use Rattle.std.proofs.Common.{◌≡◌, ◌≢◌, ℕ, zero, suc, ◌+◌, ◌<◌, ◌≤◌, ◌==◌, ◌⊎◌, inl, inr, max, cond, List, [], ◌∷◌, ◌++◌, length, drop, replicate, get_or, set, Contains, All, refl, sym, ap, ap₂, subst, ◌∙◌, arith, length-set, get_or-set_same, get_or-set_other, ◌-◌, length-append}
use Rattle.std.proofs.lemmas.List.{drop_more, get_or-replicate, length-replicate, get_or-append_right, get_or_append_left}
use Rattle.std.proofs.lemmas.List.Elements.{Contains-push, Contains-append_left, Contains-push_cases, All-push, All-head, All-tail, All-nil, All-weaker, All-contains, All-same}
use Rattle.std.proofs.lemmas.List.Sums.{sum_by-set, sum_by-cons}
use Rattle.std.proofs.lemmas.Bool.{cases_eq, cases_lt}
use Rattle.std.proofs.lemmas.Bool.Decides.{nat_tests}
use Rattle.lw_facts.proofs.Lists.{contains_cases}
use Rattle.lw_dag.specs.Graphs.{IsGraph, fanins_at, height_at, tallest, IsPlaced, IsStuck, AreHeights}
use Rattle.lw_dag.specs.Rising.{unknown, waiting_at, IsHeld, IsRising}

pub contains_none : {A : Type 0} (x : A) → Contains [] x → ⊥
contains_none x (k, lt, e) = omega arith

-- what is left, and one place on
pub later_cases : (list : List ℕ) (at x : ℕ) → at < length list → Contains (drop at list) x → (get_or list at 0 ≡ x) ⊎ Contains (drop (at + 1) list) x
later_cases list at x below has = contains_cases (get_or list at 0) (drop (at + 1) list) x (subst (λ l. Contains l x) (drop_more list at 0 below) has)

module _ (inputs : ℕ) (graph : List (List ℕ)) (heights : List ℕ) (waiting : List (List ℕ)) (ready list : List ℕ) (at j : ℕ) (below : at < length list) (here : j ≡ get_or list at 0) (node : j < length graph) (rising : IsRising inputs graph heights waiting ready (drop at list)) where
  -- the node waits for a signal
  module _ (s : ℕ) (nodes : List ℕ) (among : Contains (fanins_at graph j) s) (open_there : height_at heights s ≡ 0) (within : s < inputs + length graph) (grown : nodes ≡ waiting_at waiting s ++ j ∷ []) where
    abbrev after : List (List ℕ)
    after = set waiting s nodes

    in_lists : s < length waiting
    in_lists = omega (arith, rising.lists)

    at_signal : waiting_at after s ≡ waiting_at waiting s ++ j ∷ []
    at_signal = get_or-set_same waiting s nodes [] in_lists ∙ grown

    elsewhere : (t : ℕ) → t ≢ s → waiting_at after t ≡ waiting_at waiting t
    elsewhere t other = get_or-set_other waiting s t nodes [] other

    held_more : (fanins : List ℕ) (i : ℕ) → IsHeld waiting fanins i → IsHeld after fanins i
    held_more fanins i held = record { signal = held.signal; among = held.among; there = by_place (cases_eq held.signal s) }
      where
        by_place : (held.signal ≡ s) ⊎ (held.signal ≡ s → ⊥) → Contains (waiting_at after held.signal) i
        by_place (inl same) = subst (λ t. Contains (waiting_at after t) i) (sym same) (subst (λ l. Contains l i) (sym at_signal) (Contains-append_left (waiting_at waiting s) (j ∷ []) i (subst (λ t. Contains (waiting_at waiting t) i) same held.there)))
        by_place (inr other) = subst (λ l. Contains l i) (sym (elsewhere held.signal other)) held.there

    own : IsHeld after (fanins_at graph j) j
    own = record { signal = s; among = among; there = subst (λ l. Contains l j) (sym at_signal) (Contains-push (waiting_at waiting s) j) }

    waits_after : (i : ℕ) → i < length graph → height_at heights (inputs + i) ≡ 0 → IsHeld after (fanins_at graph i) i ⊎ Contains (drop (at + 1) list) i
    waits_after i lt open_i = by_old (rising.waits i lt open_i)
      where
        by_later : (get_or list at 0 ≡ i) ⊎ Contains (drop (at + 1) list) i → IsHeld after (fanins_at graph i) i ⊎ Contains (drop (at + 1) list) i
        by_later (inl same) = inl (subst (λ n. IsHeld after (fanins_at graph n) n) (here ∙ same) own)
        by_later (inr later) = inr later

        by_old : IsHeld waiting (fanins_at graph i) i ⊎ Contains (drop at list) i → IsHeld after (fanins_at graph i) i ⊎ Contains (drop (at + 1) list) i
        by_old (inl held) = inl (held_more (fanins_at graph i) i held)
        by_old (inr later) = by_later (later_cases list at i below later)

    served_after : (t : ℕ) → 0 < height_at heights t → Contains ready t ⊎ (waiting_at after t ≡ [])
    served_after t known = by_old (rising.served t known)
      where
        other : t ≢ s
        other same = omega (arith, subst (λ n. 0 < height_at heights n) same known)

        by_old : Contains ready t ⊎ (waiting_at waiting t ≡ []) → Contains ready t ⊎ (waiting_at after t ≡ [])
        by_old (inl is_ready) = inl is_ready
        by_old (inr none) = inr (elsewhere t other ∙ none)

    nodes_after : (t : ℕ) → All (λ i. i < length graph) (waiting_at after t)
    nodes_after t = by_place (cases_eq t s)
      where
        by_place : (t ≡ s) ⊎ (t ≡ s → ⊥) → All (λ i. i < length graph) (waiting_at after t)
        by_place (inl same) = subst (λ n. All (λ i. i < length graph) (waiting_at after n)) (sym same) (subst (All (λ i. i < length graph)) (sym at_signal) (All-push (λ i. i < length graph) (waiting_at waiting s) j (rising.nodes s) node))
        by_place (inr other) = subst (All (λ i. i < length graph)) (sym (elsewhere t other)) (rising.nodes t)

    pub rising_waits : IsRising inputs graph heights after ready (drop (at + 1) list)
    rising_waits = record {
      known = rising.known;
      lists = length-set waiting s nodes ∙ rising.lists;
      waits = waits_after;
      served = served_after;
      few = rising.few;
      low = rising.low;
      signals = rising.signals;
      nodes = nodes_after;
    }

-- a height that is known is not the one that is written
known_set : (heights : List ℕ) (at v s : ℕ) → height_at heights at ≡ 0 → 0 < height_at heights s → height_at (set heights at v) s ≡ height_at heights s
known_set heights at v s none known = get_or-set_other heights at s v 0 (λ same. omega (arith, subst (λ n. 0 < height_at heights n) same known))

all_known_set : (heights : List ℕ) (at v : ℕ) (signals : List ℕ) → height_at heights at ≡ 0 → All (λ s. 0 < height_at heights s) signals → All (λ s. 0 < height_at (set heights at v) s) signals
all_known_set heights at v signals none all = All-weaker (λ s. 0 < height_at heights s) (λ s. 0 < height_at (set heights at v) s) (λ s known. subst (λ h. 0 < h) (sym (known_set heights at v s none known)) known) signals all

tallest-set : (heights : List ℕ) (at v : ℕ) (signals : List ℕ) → height_at heights at ≡ 0 → All (λ s. 0 < height_at heights s) signals → tallest (set heights at v) signals ≡ tallest heights signals
tallest-set heights at v [] none all = refl
tallest-set heights at v (s ∷ signals) none all = ap₂ max (known_set heights at v s none (All-head (λ t. 0 < height_at heights t) s signals all)) (tallest-set heights at v signals none (All-tail (λ t. 0 < height_at heights t) s signals all))

abbrev is_open : ℕ → ℕ
is_open h = cond (h == 0) 1 0

is_open-some : (v : ℕ) → 0 < v → is_open v ≡ 0
is_open-some v some = grind (arith, nat_tests)

-- one height less is unknown
pub unknown-set : (heights : List ℕ) (at v : ℕ) → at < length heights → height_at heights at ≡ 0 → 0 < v → unknown (set heights at v) + 1 ≡ unknown heights
unknown-set heights at v below none some = omega (arith, sum_by-set is_open heights at v 0 below, ap is_open none, is_open-some v some)

-- no fan-in is too high
pub tallest_low : (heights : List ℕ) (u n : ℕ) (signals : List ℕ) → ((s : ℕ) → height_at heights s + u ≤ 1 + n) → u ≤ n → tallest heights signals + u ≤ 1 + n
tallest_low heights u n [] low few = omega arith
tallest_low heights u n (s ∷ signals) low few = omega (arith, low s, tallest_low heights u n signals low few)

pub tallest_least : (heights : List ℕ) (signals : List ℕ) → 1 ≤ tallest heights signals
tallest_least heights [] = omega arith
tallest_least heights (s ∷ signals) = omega (arith, tallest_least heights signals)

-- the fan-ins of a node have heights in the list
pub fanins_in_heights : (inputs : ℕ) (graph : List (List ℕ)) (heights fanins : List ℕ) (j : ℕ) → IsGraph inputs graph → length heights ≡ inputs + length graph → fanins ≡ fanins_at graph j → All (λ s. s < length heights) fanins
fanins_in_heights inputs graph heights fanins j is_graph one_each is =
    subst (λ n. All (λ s. s < n) fanins) (sym one_each) (All-same (λ s. s < inputs + length graph) _ _ is (is_graph j))

-- the node has a height already
pub rising_known : (inputs : ℕ) (graph : List (List ℕ)) (heights : List ℕ) (waiting : List (List ℕ)) (ready list : List ℕ) (at j : ℕ) → at < length list → j ≡ get_or list at 0 → (height_at heights (inputs + j) ≡ 0 → ⊥) → IsRising inputs graph heights waiting ready (drop at list) → IsRising inputs graph heights waiting ready (drop (at + 1) list)
rising_known inputs graph heights waiting ready list at j below here known rising = record {
  known = rising.known;
  lists = rising.lists;
  waits = λ i lt open_i. by_old i open_i (rising.waits i lt open_i);
  served = rising.served;
  few = rising.few;
  low = rising.low;
  signals = rising.signals;
  nodes = rising.nodes;
}
  where
    by_later : (i : ℕ) → height_at heights (inputs + i) ≡ 0 → (get_or list at 0 ≡ i) ⊎ Contains (drop (at + 1) list) i → IsHeld waiting (fanins_at graph i) i ⊎ Contains (drop (at + 1) list) i
    by_later i open_i (inl same) = absurd (known (ap (λ n. height_at heights (inputs + n)) (here ∙ same) ∙ open_i))
    by_later i open_i (inr later) = inr later

    by_old : (i : ℕ) → height_at heights (inputs + i) ≡ 0 → IsHeld waiting (fanins_at graph i) i ⊎ Contains (drop at list) i → IsHeld waiting (fanins_at graph i) i ⊎ Contains (drop (at + 1) list) i
    by_old i open_i (inl held) = inl held
    by_old i open_i (inr later) = by_later i open_i (later_cases list at i below later)

module _ (inputs : ℕ) (graph : List (List ℕ)) (heights : List ℕ) (waiting : List (List ℕ)) (ready list : List ℕ) (at j height : ℕ) (below : at < length list) (here : j ≡ get_or list at 0) (node : j < length graph) (rising : IsRising inputs graph heights waiting ready (drop at list)) (none : height_at heights (inputs + j) ≡ 0) (all : All (λ s. 0 < height_at heights s) (fanins_at graph j)) (is : height ≡ 1 + tallest heights (fanins_at graph j)) where
  abbrev placed : List ℕ
  placed = set heights (inputs + j) height

  in_heights : inputs + j < length heights
  in_heights = omega (arith, rising.known.one_each)

  at_node : height_at placed (inputs + j) ≡ height
  at_node = get_or-set_same heights (inputs + j) height 0 in_heights

  at_others : (s : ℕ) → s ≢ inputs + j → height_at placed s ≡ height_at heights s
  at_others s other = get_or-set_other heights (inputs + j) s height 0 other

  some : 0 < height
  some = omega (arith, is)

  fewer : unknown placed + 1 ≡ unknown heights
  fewer = unknown-set heights (inputs + j) height in_heights none some

  is_placed : (i : ℕ) → i < length graph → 0 < height_at placed (inputs + i) → IsPlaced placed (fanins_at graph i) (height_at placed (inputs + i))
  is_placed i lt known = by_place (cases_eq i j)
    where
      kept : (h : ℕ) → IsPlaced heights (fanins_at graph i) h → IsPlaced placed (fanins_at graph i) h
      kept h p = record { known = all_known_set heights (inputs + j) height (fanins_at graph i) none p.known; height = p.height ∙ ap (λ t. 1 + t) (sym (tallest-set heights (inputs + j) height (fanins_at graph i) none p.known)) }

      by_place : (i ≡ j) ⊎ (i ≡ j → ⊥) → IsPlaced placed (fanins_at graph i) (height_at placed (inputs + i))
      by_place (inl same) =
          let h : height_at placed (inputs + i) ≡ height = ap (λ n. height_at placed (inputs + n)) same ∙ at_node in
          subst (IsPlaced placed (fanins_at graph i)) (sym h) (kept height (record { known = subst (λ n. All (λ s. 0 < height_at heights s) (fanins_at graph n)) (sym same) all; height = is ∙ ap (λ n. 1 + tallest heights (fanins_at graph n)) (sym same) }))
      by_place (inr differs) =
          let other : inputs + i ≢ inputs + j = λ e. differs (omega arith) in
          let same_height = at_others (inputs + i) other in
          subst (IsPlaced placed (fanins_at graph i)) (sym same_height) (kept (height_at heights (inputs + i)) (rising.known.placed i lt (subst (λ h. 0 < h) same_height known)))

  waits_placed : (i : ℕ) → i < length graph → height_at placed (inputs + i) ≡ 0 → IsHeld waiting (fanins_at graph i) i ⊎ Contains (drop (at + 1) list) i
  waits_placed i lt open_i = by_place (cases_eq i j)
    where
      by_later : (i ≡ j → ⊥) → (get_or list at 0 ≡ i) ⊎ Contains (drop (at + 1) list) i → IsHeld waiting (fanins_at graph i) i ⊎ Contains (drop (at + 1) list) i
      by_later differs (inl same) = absurd (differs (sym (here ∙ same)))
      by_later differs (inr later) = inr later

      by_old : (i ≡ j → ⊥) → IsHeld waiting (fanins_at graph i) i ⊎ Contains (drop at list) i → IsHeld waiting (fanins_at graph i) i ⊎ Contains (drop (at + 1) list) i
      by_old differs (inl held) = inl held
      by_old differs (inr later) = by_later differs (later_cases list at i below later)

      by_place : (i ≡ j) ⊎ (i ≡ j → ⊥) → IsHeld waiting (fanins_at graph i) i ⊎ Contains (drop (at + 1) list) i
      by_place (inl same) = absurd (omega (arith, some, sym at_node ∙ (ap (λ n. height_at placed (inputs + n)) (sym same) ∙ open_i)))
      by_place (inr differs) =
          let other : inputs + i ≢ inputs + j = λ e. differs (omega arith) in
          by_old differs (rising.waits i lt (sym (at_others (inputs + i) other) ∙ open_i))

  served_placed : (s : ℕ) → 0 < height_at placed s → Contains (ready ++ (inputs + j) ∷ []) s ⊎ (waiting_at waiting s ≡ [])
  served_placed s known = by_place (cases_eq s (inputs + j))
    where
      by_old : Contains ready s ⊎ (waiting_at waiting s ≡ []) → Contains (ready ++ (inputs + j) ∷ []) s ⊎ (waiting_at waiting s ≡ [])
      by_old (inl is_ready) = inl (Contains-append_left ready ((inputs + j) ∷ []) s is_ready)
      by_old (inr nothing) = inr nothing

      by_place : (s ≡ inputs + j) ⊎ (s ≡ inputs + j → ⊥) → Contains (ready ++ (inputs + j) ∷ []) s ⊎ (waiting_at waiting s ≡ [])
      by_place (inl same) = inl (subst (Contains (ready ++ (inputs + j) ∷ [])) (sym same) (Contains-push ready (inputs + j)))
      by_place (inr other) = by_old (rising.served s (subst (λ h. 0 < h) (at_others s other) known))

  low_placed : (s : ℕ) → height_at placed s + unknown placed ≤ 1 + length graph
  low_placed s = by_place (cases_eq s (inputs + j))
    where
      by_place : (s ≡ inputs + j) ⊎ (s ≡ inputs + j → ⊥) → height_at placed s + unknown placed ≤ 1 + length graph
      by_place (inl same) = omega (arith, ap (height_at placed) same ∙ at_node, is, fewer, tallest_low heights (unknown heights) (length graph) (fanins_at graph j) rising.low rising.few)
      by_place (inr other) = omega (arith, at_others s other, rising.low s, fewer)

  pub rising_placed : IsRising inputs graph placed waiting (ready ++ (inputs + j) ∷ []) (drop (at + 1) list)
  rising_placed = record {
    known = record {
      one_each = length-set heights (inputs + j) height ∙ rising.known.one_each;
      given_ones = λ s lt. at_others s (λ same. omega arith) ∙ rising.known.given_ones s lt;
      placed = is_placed;
    };
    lists = rising.lists;
    waits = waits_placed;
    served = served_placed;
    few = omega (arith, fewer, rising.few);
    low = low_placed;
    signals = All-push (λ s. s < inputs + length graph) ready (inputs + j) rising.signals (omega arith);
    nodes = rising.nodes;
  }

-- the nodes that waited for a signal are to be looked at
module _ (inputs : ℕ) (graph : List (List ℕ)) (heights : List ℕ) (waiting : List (List ℕ)) (ready rest : List ℕ) (s : ℕ) (rising : IsRising inputs graph heights waiting ready []) (popped : ready ≡ rest ++ s ∷ []) where
  abbrev told : List (List ℕ)
  told = set waiting s []

  within : s < inputs + length graph
  within = All-contains (λ t. t < inputs + length graph) ready s rising.signals (subst (λ l. Contains l s) (sym popped) (Contains-push rest s))

  in_waiting : s < length waiting
  in_waiting = omega (arith, within, rising.lists)

  waits_told : (i : ℕ) → i < length graph → height_at heights (inputs + i) ≡ 0 → IsHeld told (fanins_at graph i) i ⊎ Contains (waiting_at waiting s) i
  waits_told i lt open_i = by_old (rising.waits i lt open_i)
    where
      by_place : (held : IsHeld waiting (fanins_at graph i) i) → (held.signal ≡ s) ⊎ (held.signal ≡ s → ⊥) → IsHeld told (fanins_at graph i) i ⊎ Contains (waiting_at waiting s) i
      by_place held (inl same) = inr (subst (λ t. Contains (waiting_at waiting t) i) same held.there)
      by_place held (inr other) = inl (record { signal = held.signal; among = held.among; there = subst (λ l. Contains l i) (sym (get_or-set_other waiting s held.signal [] [] other)) held.there })

      by_old : IsHeld waiting (fanins_at graph i) i ⊎ Contains [] i → IsHeld told (fanins_at graph i) i ⊎ Contains (waiting_at waiting s) i
      by_old (inl held) = by_place held (cases_eq held.signal s)
      by_old (inr none) = absurd (contains_none i none)

  at_place : (t : ℕ) → (t ≡ s) ⊎ (t ≡ s → ⊥) → (waiting_at told t ≡ []) ⊎ (waiting_at told t ≡ waiting_at waiting t)
  at_place t (inl same) = inl (ap (waiting_at told) same ∙ get_or-set_same waiting s [] [] in_waiting)
  at_place t (inr other) = inr (get_or-set_other waiting s t [] [] other)

  served_told : (t : ℕ) → 0 < height_at heights t → Contains rest t ⊎ (waiting_at told t ≡ [])
  served_told t known = by_old (rising.served t known) (at_place t (cases_eq t s))
    where
      by_last : Contains rest t ⊎ (s ≡ t) → Contains rest t ⊎ (waiting_at told t ≡ [])
      by_last (inl is_ready) = inl is_ready
      by_last (inr same) = inr (ap (waiting_at told) (sym same) ∙ get_or-set_same waiting s [] [] in_waiting)

      by_old : Contains ready t ⊎ (waiting_at waiting t ≡ []) → (waiting_at told t ≡ []) ⊎ (waiting_at told t ≡ waiting_at waiting t) → Contains rest t ⊎ (waiting_at told t ≡ [])
      by_old (inl is_ready) place = by_last (Contains-push_cases rest s t (subst (λ l. Contains l t) popped is_ready))
      by_old (inr nothing) (inl none) = inr none
      by_old (inr nothing) (inr same) = inr (same ∙ nothing)

  nodes_told : (t : ℕ) → All (λ i. i < length graph) (waiting_at told t)
  nodes_told t = by_place (at_place t (cases_eq t s))
    where
      by_place : (waiting_at told t ≡ []) ⊎ (waiting_at told t ≡ waiting_at waiting t) → All (λ i. i < length graph) (waiting_at told t)
      by_place (inl none) = subst (All (λ i. i < length graph)) (sym none) (All-nil (λ i. i < length graph))
      by_place (inr same) = subst (All (λ i. i < length graph)) (sym same) (rising.nodes t)

  pub rising_told : IsRising inputs graph heights told rest (waiting_at waiting s)
  rising_told = record {
    known = rising.known;
    lists = length-set waiting s [] ∙ rising.lists;
    waits = waits_told;
    served = served_told;
    few = rising.few;
    low = rising.low;
    signals = All-push_left rest s (subst (All (λ t. t < inputs + length graph)) popped rising.signals);
    nodes = nodes_told;
  }
    where
      All-push_left : (xs : List ℕ) (x : ℕ) → All (λ t. t < inputs + length graph) (xs ++ x ∷ []) → All (λ t. t < inputs + length graph) xs
      All-push_left xs x all = λ k d lt. subst (λ n. n < inputs + length graph) (get_or_append_left xs (x ∷ []) d k lt) (all k d (omega (arith, length-append xs (x ∷ []))))

-- where no signal is left to be told
pub rising_ends : (inputs : ℕ) (graph : List (List ℕ)) (heights : List ℕ) (waiting : List (List ℕ)) → IsRising inputs graph heights waiting [] [] → AreHeights inputs graph heights
rising_ends inputs graph heights waiting rising = record { known = rising.known; stuck = λ j lt open_j. by_old j (rising.waits j lt open_j) }
  where
    by_served : (j s : ℕ) → Contains (waiting_at waiting s) j → Contains [] s ⊎ (waiting_at waiting s ≡ []) → ⊥
    by_served j s there (inl none) = contains_none s none
    by_served j s there (inr nothing) = contains_none j (subst (λ l. Contains l j) nothing there)

    by_height : (j s : ℕ) → Contains (waiting_at waiting s) j → (height_at heights s ≡ 0) ⊎ (height_at heights s ≡ 0 → ⊥) → height_at heights s ≡ 0
    by_height j s there (inl none) = none
    by_height j s there (inr some) = absurd (by_served j s there (rising.served s (omega (arith, some))))

    by_old : (j : ℕ) → IsHeld waiting (fanins_at graph j) j ⊎ Contains [] j → IsStuck heights (fanins_at graph j)
    by_old j (inl held) = record { signal = held.signal; among = held.among; open_there = by_height j held.signal held.there (cases_eq (height_at heights held.signal) 0) }
    by_old j (inr none) = absurd (contains_none j none)

-- where nothing is known but the inputs
unknown_ones : (n : ℕ) (hs : List ℕ) → unknown (replicate n 1 ++ hs) ≡ unknown hs
unknown_ones zero hs = refl
unknown_ones (suc n) hs = omega (arith, sum_by-cons is_open 1 (replicate n 1 ++ hs), unknown_ones n hs)

unknown_zeros : (n : ℕ) → unknown (replicate n 0) ≡ n
unknown_zeros zero = refl
unknown_zeros (suc n) = omega (arith, sum_by-cons is_open 0 (replicate n 0), unknown_zeros n)

pub zero_at : (m k : ℕ) → get_or {A = ℕ} (replicate m 0) k 0 ≡ 0
zero_at zero k = refl
zero_at (suc m) zero = refl
zero_at (suc m) (suc k) = zero_at m k

none_from : (inputs n s : ℕ) → inputs ≤ s → height_at (replicate inputs 1 ++ replicate n 0) s ≡ 0
none_from inputs n s le = get_or-append_right (replicate inputs 1) (replicate n 0) inputs s 0 (length-replicate inputs 1) le ∙ zero_at n (s - inputs)

pub none_at : (inputs n j : ℕ) → height_at (replicate inputs 1 ++ replicate n 0) (inputs + j) ≡ 0
none_at inputs n j = none_from inputs n (inputs + j) (omega arith)

pub rising_starts : (inputs n : ℕ) (graph : List (List ℕ)) (list : List ℕ) → n ≡ length graph → ((j : ℕ) → j < n → Contains list j) → IsRising inputs graph (replicate inputs 1 ++ replicate n 0) (replicate (inputs + n) []) [] list
rising_starts inputs n graph list is each = record {
  known = record {
    one_each = length-append (replicate inputs 1) (replicate n 0) ∙ (ap₂ (λ a b. a + b) (length-replicate inputs 1) (length-replicate n 0) ∙ ap (λ m. inputs + m) is);
    given_ones = at_input;
    placed = λ j lt known. absurd (omega (arith, known, none_at inputs n j));
  };
  lists = length-replicate (inputs + n) [] ∙ ap (λ m. inputs + m) is;
  waits = λ j lt open_j. inr (each j (omega arith));
  served = λ s known. inr (nobody s);
  few = omega (arith, count, is);
  low = λ s. omega (arith, count, is, at_most s (cases_lt s inputs));
  signals = All-nil (λ s. s < inputs + length graph);
  nodes = λ s. subst (All (λ j. j < length graph)) (sym (nobody s)) (All-nil (λ j. j < length graph));
}
  where
    count : unknown (replicate inputs 1 ++ replicate n 0) ≡ n
    count = unknown_ones inputs (replicate n 0) ∙ unknown_zeros n

    at_input : (s : ℕ) → s < inputs → height_at (replicate inputs 1 ++ replicate n 0) s ≡ 1
    at_input s lt = get_or_append_left (replicate inputs 1) (replicate n 0) 0 s (subst (λ m. s < m) (sym (length-replicate inputs 1)) lt) ∙ get_or-replicate inputs s 1 0 lt

    at_most : (s : ℕ) → (s < inputs) ⊎ (inputs ≤ s) → height_at (replicate inputs 1 ++ replicate n 0) s ≤ 1
    at_most s (inl lt) = omega (arith, at_input s lt)
    at_most s (inr le) = omega (arith, none_from inputs n s le)

    empty_at : (m k : ℕ) → get_or {A = List ℕ} (replicate m []) k [] ≡ []
    empty_at zero k = refl
    empty_at (suc m) zero = refl
    empty_at (suc m) (suc k) = empty_at m k

    nobody : (s : ℕ) → waiting_at (replicate (inputs + n) []) s ≡ []
    nobody s = empty_at (inputs + n) s
