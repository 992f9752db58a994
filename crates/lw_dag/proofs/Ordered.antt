-- Nodes that are put behind their fan-ins.
use Rattle.std.proofs.Common.{◌≡◌, ◌≢◌, ℕ, zero, suc, ◌+◌, ◌<◌, ◌≤◌, ◌⊎◌, inl, inr, List, [], ◌∷◌, ◌++◌, length, take, get_or, set, Contains, All, refl, sym, ap, subst, ◌∙◌, arith, length-append, get_or-set_same, get_or-set_other}
use Rattle.std.proofs.lemmas.List.{get_or_append_left}
use Rattle.std.proofs.lemmas.List.Elements.{Contains-push, Contains-append_left, All-push, All-nil, All-contains, All-weaker}
use Rattle.std.proofs.lemmas.Bool.{cases_eq, cases_lt}
use Rattle.lw_dag.specs.Graphs.{fanins_at, height_at, IsOrdered}

take_left : (k : ℕ) (xs ys : List ℕ) → k ≤ length xs → take k (xs ++ ys) ≡ take k xs
take_left zero xs ys le = refl
take_left (suc k) [] ys le = absurd (omega arith)
take_left (suc k) (x ∷ xs) ys le = ap (λ l. x ∷ l) (take_left k xs ys (omega arith))

-- no node has a height yet
pub ordered_none : (inputs : ℕ) (graph : List (List ℕ)) (heights : List ℕ) → ((j : ℕ) → height_at heights (inputs + j) ≡ 0) → IsOrdered inputs graph heights []
ordered_none inputs graph heights none = record {
  each = λ j lt some. absurd (omega (arith, none j));
  known = All-nil (λ j. 0 < height_at heights (inputs + j));
  nodes = All-nil (λ j. j < length graph);
  behind = λ k i lt among. absurd (omega arith);
  once = λ k lt among. absurd (omega arith);
}

-- one more node has a height, as its fan-ins have
module _ (inputs : ℕ) (graph : List (List ℕ)) (heights order : List ℕ) (j height : ℕ) (fanins : All (λ s. s < inputs + length graph) (fanins_at graph j)) (node : j < length graph) (within : inputs + j < length heights) (none : height_at heights (inputs + j) ≡ 0) (some : 0 < height) (all : All (λ s. 0 < height_at heights s) (fanins_at graph j)) (ordered : IsOrdered inputs graph heights order) where
  abbrev placed : List ℕ
  placed = set heights (inputs + j) height

  at_others : (i : ℕ) → i ≢ j → height_at placed (inputs + i) ≡ height_at heights (inputs + i)
  at_others i other = get_or-set_other heights (inputs + j) (inputs + i) height 0 (λ e. other (omega arith))

  at_node : height_at placed (inputs + j) ≡ height
  at_node = get_or-set_same heights (inputs + j) height 0 within

  still : (i : ℕ) → 0 < height_at heights (inputs + i) → 0 < height_at placed (inputs + i)
  still i known = subst (λ h. 0 < h) (sym (at_others i (λ same. omega (arith, subst (λ n. 0 < height_at heights (inputs + n)) same known)))) known

  fresh : Contains order j → ⊥
  fresh among = omega (arith, none, All-contains (λ i. 0 < height_at heights (inputs + i)) order j ordered.known among)

  each_placed : (i : ℕ) → i < length graph → 0 < height_at placed (inputs + i) → Contains (order ++ j ∷ []) i
  each_placed i lt known = by_place (cases_eq i j)
    where
      by_place : (i ≡ j) ⊎ (i ≡ j → ⊥) → Contains (order ++ j ∷ []) i
      by_place (inl same) = subst (Contains (order ++ j ∷ [])) (sym same) (Contains-push order j)
      by_place (inr other) = Contains-append_left order (j ∷ []) i (ordered.each i lt (subst (λ h. 0 < h) (at_others i other) known))

  more : (k : ℕ) → k < length (order ++ j ∷ []) → (k < length order) ⊎ (k ≡ length order)
  more k lt = by_place (cases_lt k (length order))
    where
      by_place : (k < length order) ⊎ (length order ≤ k) → (k < length order) ⊎ (k ≡ length order)
      by_place (inl old) = inl old
      by_place (inr new) = inr (omega (arith, length-append order (j ∷ [])))

  old_at : (k : ℕ) → k < length order → get_or (order ++ j ∷ []) k 0 ≡ get_or order k 0
  old_at k lt = get_or_append_left order (j ∷ []) 0 k lt

  new_at : (k : ℕ) → k ≡ length order → get_or (order ++ j ∷ []) k 0 ≡ j
  new_at k is = ap (λ n. get_or (order ++ j ∷ []) n 0) is ∙ last order
    where
      last : (xs : List ℕ) → get_or (xs ++ j ∷ []) (length xs) 0 ≡ j
      last [] = refl
      last (x ∷ xs) = last xs

  front : (k : ℕ) → k ≤ length order → take k (order ++ j ∷ []) ≡ take k order
  front k le = take_left k order (j ∷ []) le

  whole : (xs : List ℕ) → take (length xs) xs ≡ xs
  whole [] = refl
  whole (x ∷ xs) = ap (λ l. x ∷ l) (whole xs)

  front_all : (k : ℕ) → k ≡ length order → take k (order ++ j ∷ []) ≡ order
  front_all k is = front k (omega arith) ∙ (ap (λ n. take n order) is ∙ whole order)

  behind_placed : (k i : ℕ) → k < length (order ++ j ∷ []) → Contains (fanins_at graph (get_or (order ++ j ∷ []) k 0)) (inputs + i) → Contains (take k (order ++ j ∷ [])) i
  behind_placed k i lt among = by_place (more k lt)
    where
      by_place : (k < length order) ⊎ (k ≡ length order) → Contains (take k (order ++ j ∷ [])) i
      by_place (inl old) = subst (λ l. Contains l i) (sym (front k (omega arith))) (ordered.behind k i old (subst (λ n. Contains (fanins_at graph n) (inputs + i)) (old_at k old) among))
      by_place (inr new) =
          let own : Contains (fanins_at graph j) (inputs + i) = subst (λ n. Contains (fanins_at graph n) (inputs + i)) (new_at k new) among in
          let inside = All-contains (λ s. s < inputs + length graph) (fanins_at graph j) (inputs + i) fanins own in
          let known = All-contains (λ s. 0 < height_at heights s) (fanins_at graph j) (inputs + i) all own in
          subst (λ l. Contains l i) (sym (front_all k new)) (ordered.each i (omega arith) known)

  once_placed : (k : ℕ) → k < length (order ++ j ∷ []) → Contains (take k (order ++ j ∷ [])) (get_or (order ++ j ∷ []) k 0) → ⊥
  once_placed k lt among = by_place (more k lt)
    where
      by_place : (k < length order) ⊎ (k ≡ length order) → ⊥
      by_place (inl old) = ordered.once k old (subst (λ l. Contains l (get_or order k 0)) (front k (omega arith)) (subst (Contains (take k (order ++ j ∷ []))) (old_at k old) among))
      by_place (inr new) = fresh (subst (λ l. Contains l j) (front_all k new) (subst (Contains (take k (order ++ j ∷ []))) (new_at k new) among))

  pub ordered_placed : IsOrdered inputs graph placed (order ++ j ∷ [])
  ordered_placed = record {
    each = each_placed;
    known = All-push (λ i. 0 < height_at placed (inputs + i)) order j (All-weaker (λ i. 0 < height_at heights (inputs + i)) (λ i. 0 < height_at placed (inputs + i)) still order ordered.known) (subst (λ h. 0 < h) (sym at_node) some);
    nodes = All-push (λ i. i < length graph) order j ordered.nodes node;
    behind = behind_placed;
    once = once_placed;
  }
