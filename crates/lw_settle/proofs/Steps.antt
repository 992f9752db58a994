-- All stores of a graph and patterns have as many matches, and are read as often.
use Rattle.std.proofs.Common.{ℕ, zero, suc, ◌+◌, ◌≤◌, ◌≡◌, ◌==◌, if◌then◌else◌, List, [], ◌∷◌, ◌++◌, length, map, Option, Some, None, slice_get, refl, ap, sym, ◌∙◌, subst, arith}
use Rattle.std.proofs.lemmas.Option.{same_Some}
use Rattle.lw_facts.proofs.Lists.{contained_at, at_contained}
use Rattle.lw_laws.specs.Graphs.{Graph}
use Rattle.lw_laws.specs.Covers.{Pattern}
use Rattle.lw_laws.specs.Choices.{Labels}
use Rattle.lw_laws.specs.Extracts.{Match}
use Rattle.lw_cost.specs.Coming.{AreMatches}
use Rattle.lw_settle.specs.Stores.{Stored, Placed, placed, placed_at, placed_from, pins_of, with_cell, IsStoreOf, AreStoredAt}
use Rattle.lw_settle.specs.Settled.{labelled, labelled_uses, labelled_matches, settle_steps}
use Rattle.lw_settle.specs.Steps.{AreSteps}

-- Sums over lists that hold the same entries.

abbrev total : {X : Type 0} → (X → ℕ) → List X → ℕ
total f [] = 0
total f (x ∷ xs) = f x + total f xs

-- the list without the entry at a place
abbrev without : {X : Type 0} → List X → ℕ → List X
without [] i = []
without (x ∷ xs) zero = xs
without (x ∷ xs) (suc i) = x ∷ without xs i

sum_without : {X : Type 0} (f : X → ℕ) (xs : List X) (i : ℕ) (x : X) → slice_get xs i ≡ Some x → total f xs ≡ f x + total f (without xs i)
sum_without f [] i x e = cc
sum_without f (y ∷ xs) zero x e = ap (λ z. f z + total f xs) (same_Some y x e)
sum_without f (y ∷ xs) (suc i) x e = let rest = sum_without f xs i x e in omega (arith, rest)

stays : {X : Type 0} (xs : List X) (i j : ℕ) (x : X) → slice_get xs j ≡ Some x → (j ≡ i → ⊥) → (k : ℕ) × (slice_get (without xs i) k ≡ Some x)
stays [] i j x e other = cc
stays (y ∷ xs) zero zero x e other = absurd (other refl)
stays (y ∷ xs) zero (suc j) x e other = (j, e)
stays (y ∷ xs) (suc i) zero x e other = (0, e)
stays (y ∷ xs) (suc i) (suc j) x e other = let (k, at) = stays xs i j x e (λ s. other (ap suc s)) in (suc k, at)

-- no entry stands at two places
abbrev AreOnce : {X : Type 0} → List X → Type 0
AreOnce {X} xs = (i j : ℕ) (x : X) → slice_get xs i ≡ Some x → slice_get xs j ≡ Some x → i ≡ j

abbrev AreWithin : {X : Type 0} → List X → List X → Type 0
AreWithin {X} xs ys = (i : ℕ) (x : X) → slice_get xs i ≡ Some x → (j : ℕ) × (slice_get ys j ≡ Some x)

sum_within : {X : Type 0} (f : X → ℕ) (xs ys : List X) → AreOnce xs → AreWithin xs ys → total f xs ≤ total f ys
sum_within f [] ys once within = omega arith
sum_within {X} f (x ∷ xs) ys once within =
    let (i, at) = within 0 x refl in
    let whole = sum_without f ys i x at in
    let rest_once : AreOnce xs = λ j k y a b. (let s = once (suc j) (suc k) y a b in omega (arith, s)) in
    let rest_within : AreWithin xs (without ys i) = λ j y a. (let (k, b) = within (suc j) y a in stays ys i k y b (λ s. (let same : Some x ≡ Some y = sym at ∙ (ap (slice_get ys) (sym s) ∙ b) in let first = once 0 (suc j) y (ap Some (same_Some x y same)) a in omega (arith, first)))) in
    let rest = sum_within f xs (without ys i) rest_once rest_within in
    omega (arith, whole, rest)

-- Sums over the matches of each class.

abbrev list_sum : {X : Type 0} → (X → ℕ) → List (List X) → ℕ
list_sum f lists = total (λ ms. total f ms) lists

sum_append : {X : Type 0} (f : X → ℕ) (xs ys : List X) → total f (xs ++ ys) ≡ total f xs + total f ys
sum_append f [] ys = omega arith
sum_append f (x ∷ xs) ys = let rest = sum_append f xs ys in omega (arith, rest)

sum_map : {X Y : Type 0} (f : Y → ℕ) (h : X → Y) (xs : List X) → total f (map h xs) ≡ total (λ x. f (h x)) xs
sum_map f h [] = refl
sum_map f h (x ∷ xs) = ap (λ n. f (h x) + n) (sum_map f h xs)

placed_sum : (f : Stored → ℕ) (c : ℕ) (lists : List (List Stored)) → total (λ (m : Placed). f m.stored) (placed_from c lists) ≡ list_sum f lists
placed_sum f c [] = refl
placed_sum f c (ms ∷ lists) =
    let parts = sum_append (λ (m : Placed). f m.stored) (map (placed_at c) ms) (placed_from (suc c) lists) in
    let first = sum_map (λ (m : Placed). f m.stored) (placed_at c) ms in
    let rest = placed_sum f (suc c) lists in
    omega (arith, parts, first, rest)

count_sum : {X : Type 0} (xs : List X) → length xs ≡ total (λ x. 1) xs
count_sum [] = refl
count_sum (x ∷ xs) = let rest = count_sum xs in omega (arith, rest)

module _ (labels : Labels) where
  abbrev uses_of_match : Stored → ℕ
  uses_of_match m = labelled labels m.found.pins

  abbrev price_of_match : Stored → ℕ
  price_of_match m = if labelled labels m.found.pins == length m.found.pins then 1 else 0

  uses_sum : (ms : List Placed) → labelled_uses labels ms ≡ total (λ (m : Placed). uses_of_match m.stored) ms
  uses_sum [] = refl
  uses_sum (m ∷ ms) = ap (λ n. labelled labels (pins_of m) + n) (uses_sum ms)

  prices_sum : (ms : List Placed) → labelled_matches labels ms ≡ total (λ (m : Placed). price_of_match m.stored) ms
  prices_sum [] = refl
  prices_sum (m ∷ ms) = ap (λ n. (if labelled labels (pins_of m) == length (pins_of m) then 1 else 0) + n) (prices_sum ms)

module _ (g : Graph) (pats : List Pattern) where
  within_list : (c : ℕ) (ms ns : List Match) → AreMatches g pats c ms → AreMatches g pats c ns → AreWithin ms ns
  within_list c ms ns a b i m at = contained_at ns m ((b.each m).1 ((a.each m).0 (at_contained ms i m at)))

  at_most : (f : Stored → ℕ) (c : ℕ) (xs ys : List Stored) → AreStoredAt g pats c xs → AreStoredAt g pats c ys → total f xs ≤ total f ys
  at_most f c xs ys (ms, a, xs_are) (ns, b, ys_are) =
      let le = sum_within (λ m. f (with_cell pats m)) ms ns a.once (within_list c ms ns a b) in
      let left = ap (total f) xs_are ∙ sum_map f (with_cell pats) ms in
      let right = ap (total f) ys_are ∙ sum_map f (with_cell pats) ns in
      omega (arith, le, left, right)

  abbrev AreStoredFrom : ℕ → List (List Stored) → Type 0
  AreStoredFrom c lists = (k : ℕ) (stored : List Stored) → slice_get lists k ≡ Some stored → AreStoredAt g pats (c + k) stored

  lists_at_most : (f : Stored → ℕ) (c : ℕ) (xs ys : List (List Stored)) → length xs ≡ length ys → AreStoredFrom c xs → AreStoredFrom c ys → list_sum f xs ≤ list_sum f ys
  lists_at_most f c [] ys e a b = omega arith
  lists_at_most f c (x ∷ xs) [] e a b = absurd (omega (arith, e))
  lists_at_most f c (x ∷ xs) (y ∷ ys) e a b =
      let first = at_most f (c + 0) x y (a 0 x refl) (b 0 y refl) in
      let shift : (k : ℕ) → c + suc k ≡ suc c + k = λ k. omega arith in
      let rest = lists_at_most f (suc c) xs ys (omega (arith, e)) (λ k s at. subst (λ n. AreStoredAt g pats n s) (shift k) (a (suc k) s at)) (λ k s at. subst (λ n. AreStoredAt g pats n s) (shift k) (b (suc k) s at)) in
      omega (arith, first, rest)

  from : (lists : List (List Stored)) → IsStoreOf g pats lists → AreStoredFrom 0 lists
  from lists is k stored at = let same : k ≡ 0 + k = omega arith in subst (λ n. AreStoredAt g pats n stored) same (is.matches k stored at)

  module _ (xs ys : List (List Stored)) (a : IsStoreOf g pats xs) (b : IsStoreOf g pats ys) where
    sums_once : (f : Stored → ℕ) → list_sum f xs ≡ list_sum f ys
    sums_once f =
        let up = lists_at_most f 0 xs ys (a.one_each ∙ sym b.one_each) (from xs a) (from ys b) in
        let down = lists_at_most f 0 ys xs (b.one_each ∙ sym a.one_each) (from ys b) (from xs a) in
        omega (arith, up, down)

    placed_once : (f : Stored → ℕ) → total (λ (m : Placed). f m.stored) (placed xs) ≡ total (λ (m : Placed). f m.stored) (placed ys)
    placed_once f = placed_sum f 0 xs ∙ (sums_once f ∙ sym (placed_sum f 0 ys))

    matches_once : length (placed xs) ≡ length (placed ys)
    matches_once = count_sum (placed xs) ∙ (placed_once (λ m. 1) ∙ sym (count_sum (placed ys)))

    steps_once : (labels : Labels) → settle_steps labels xs ≡ settle_steps labels ys
    steps_once labels =
        let uses = uses_sum labels (placed xs) ∙ (placed_once (uses_of_match labels) ∙ sym (uses_sum labels (placed ys))) in
        let prices = prices_sum labels (placed xs) ∙ (placed_once (price_of_match labels) ∙ sym (prices_sum labels (placed ys))) in
        omega (arith, uses, prices)

  pub counts_once : (labels : Labels) (a b : Option ℕ) → AreSteps g pats labels a → AreSteps g pats labels b → a ≡ b
  counts_once labels None None many others = refl
  counts_once labels None (Some n) (xs, store, more) is = absurd (omega (arith, matches_once xs is.lists store is.store, more, is.few))
  counts_once labels (Some m) None is (ys, store, more) = absurd (omega (arith, matches_once is.lists ys is.store store, more, is.few))
  counts_once labels (Some m) (Some n) is also = ap Some (is.steps_are ∙ (steps_once is.lists also.lists is.store also.store labels ∙ sym also.steps_are))
