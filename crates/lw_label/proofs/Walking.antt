-- Steps of a walk over the places of a graph.
use Rattle.std.proofs.Common.{ℕ, ◌+◌, ◌-◌, ◌^◌, ◌<◌, ◌≤◌, ◌≡◌, ◌⊎◌, inl, inr, true, false, List, [], ◌∷◌, ◌++◌, length, Some, slice_index_or, slice_set, ap, sym, ◌∙◌, subst, arith}
use Rattle.std.specs.Prelude.{All, Contains}
use Rattle.std.specs.List.{sum_by}
use Rattle.std.proofs.lemmas.List.{get_or_default}
use Rattle.std.proofs.lemmas.List.Elements.{All-push, All-pop, Contains-append_left, Contains-push, Contains-push_cases}
use Rattle.std.proofs.lemmas.List.Sums.{sum_by-set}
use Rattle.lw_label.specs.declared.order.Walk.{Walk}
use Rattle.lw_label.specs.Orders.{IsOrder, IsWalk, steps_left}

-- a walk that leaves the place at the end of its path
pub walk_leaves : (n place : ℕ) (w new : Walk) → IsWalk n w → new.next.items ≡ w.next.items → new.entered.items ≡ w.entered.items → w.path.items ≡ new.path.items ++ place ∷ [] → new.order.items ≡ w.order.items ++ place ∷ [] → IsWalk n new
walk_leaves n place w new is next entered path order = record {
  next = ap length next ∙ is.next;
  entered = ap length entered ∙ is.entered;
  path = parts.0;
  order = subst (λ ps. All (λ p. p < n) ps) (sym order) (All-push (λ p. p < n) w.order.items place is.order parts.1);
  found = λ p e. kept p (is.found p (subst (λ es. slice_index_or es p false ≡ true) entered e));
}
  where
    parts : All (λ p. p < n) new.path.items × (place < n)
    parts = All-pop (λ p. p < n) w.path.items new.path.items (Some place) path is.path

    kept : (p : ℕ) → Contains w.path.items p ⊎ Contains w.order.items p → Contains new.path.items p ⊎ Contains new.order.items p
    kept p (inr here) = inr (subst (λ ps. Contains ps p) (sym order) (Contains-append_left w.order.items (place ∷ []) p here))
    kept p (inl here) = moved (Contains-push_cases new.path.items place p (subst (λ ps. Contains ps p) path here))
      where
        moved : Contains new.path.items p ⊎ (place ≡ p) → Contains new.path.items p ⊎ Contains new.order.items p
        moved (inl stays) = inl stays
        moved (inr same) = inr (subst (λ ps. Contains ps p) (sym order) (subst (λ q. Contains (w.order.items ++ place ∷ []) q) same (Contains-push w.order.items place)))

-- a walk that looks at a part, and enters it perhaps, can take fewer steps
pub walk_falls : (n place seen number : ℕ) (w new : Walk) (rest : List ℕ) → IsWalk n w → w.path.items ≡ rest ++ place ∷ [] → seen ≡ slice_index_or w.next.items place seen → number ≡ slice_index_or w.next.items place number → seen < 2 ^ 64 - 1 → new.next.items ≡ slice_set w.next.items place (number + 1) → length new.path.items ≤ length w.path.items + 1 → steps_left new < steps_left w
walk_falls n place seen number w new rest is path at read few next more =
    let (_, below) = All-pop (λ p. p < n) w.path.items rest (Some place) path is.path in
    let inside : place < length w.next.items = omega (arith, below, is.next) in
    let same : number ≡ slice_index_or w.next.items place 0 = read ∙ get_or_default w.next.items place number 0 inside in
    let last : seen ≡ slice_index_or w.next.items place 0 = at ∙ get_or_default w.next.items place seen 0 inside in
    let e = sum_by-set (λ k. 2 ^ 64 - k) w.next.items place (number + 1) 0 inside in
    let was : 2 ^ 64 - slice_index_or w.next.items place 0 ≡ 2 ^ 64 - number = ap (λ k. 2 ^ 64 - k) (sym same) in
    let sums : sum_by (λ k. 2 ^ 64 - k) new.next.items ≡ sum_by (λ k. 2 ^ 64 - k) (slice_set w.next.items place (number + 1)) = ap (λ ks. sum_by (λ k. 2 ^ 64 - k) ks) next in
    omega (arith, e, was, few, same, last, sums, more)

-- a walk that has entered all places and left each has an order of them
pub walk_ends : (n : ℕ) (w : Walk) → IsWalk n w → w.path.items ≡ [] → ((p : ℕ) → p < n → slice_index_or w.entered.items p false ≡ true) → IsOrder n w.order.items
walk_ends n w is path all = record {
  within = is.order;
  whole = λ p below. left p (is.found p (all p below));
}
  where
    left : (p : ℕ) → Contains w.path.items p ⊎ Contains w.order.items p → Contains w.order.items p
    left p (inr here) = here
    left p (inl here) = let (k, inside, at) = subst (λ ps. Contains ps p) path here in absurd (omega (arith, inside))
