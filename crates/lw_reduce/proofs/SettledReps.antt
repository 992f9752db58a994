-- Representatives are settled where a round unifies nothing, and where all facts have different operands.
use Rattle.std.proofs.Common.{ℕ, zero, suc, ◌+◌, ◌*◌, ◌<◌, ◌≤◌, ◌≡◌, ◌==◌, ◌^◌, true, false, List, [], ◌∷◌, length, map, get_or, All, Contains, ap, ap₂, sym, ◌∙◌, subst, arith, true≢false}
use native.Mathlib.Decide.{dec_le, dec_lt}
use Rattle.std.specs.List.{IsDistinct}
use Rattle.std.specs.List.Sorted.{IsPermutation, IsStrictlyIncreasing}
use Rattle.std.proofs.lemmas.List.{get_or-map, length-map}
use Rattle.std.proofs.lemmas.List.Elements.{Contains-get_or}
use Rattle.std.proofs.lemmas.List.Kept.{AllPairs-from_increasing}
use Rattle.std.proofs.lemmas.Map.Keys.{IsDistinct-IsPermutation}
use Rattle.std.proofs.lemmas.List.Sorted.{Contains-permutation, IsPermutation-sym}
use Rattle.lw_facts.proofs.Lists.{contains_map}
use Rattle.lw_facts.proofs.Tests.{eq_lower}
use Rattle.lw_facts.proofs.Numbers.{eq_turned}
use Rattle.lw_laws.proofs.Lists.{all_contains, contains_all}
use Rattle.lw_reduce.specs.declared.facts.Fact.{Fact}
use Rattle.lw_reduce.specs.declared.facts.Link.{Link}
use Rattle.lw_reduce.specs.Representatives.{AreRepresentatives, IsFlat, LinkAgrees, rep_of}
use Rattle.lw_reduce.specs.Settling.{AreSettled, HaveDistinctOperands, IsSettled, fact_key, no_fact, operands_key, canonical_fact}
use Rattle.lw_reduce.proofs.SettledFacts.{default_same, same_rows}

module _ (n : ℕ) (nands : List Fact) (links : List Link) (reps : List ℕ) (canonical : List Fact) (is : IsSettled n nands links reps canonical) (few : n < 2 ^ 31) where
  pub in_rows : (p : Fact) → Contains nands p → Contains canonical (canonical_fact reps p)
  in_rows p c =
      Contains-permutation (map (canonical_fact reps) nands) canonical (canonical_fact reps p) is.permutation (contains_map (canonical_fact reps) nands p c)

  -- settled facts with the same operands
  same_members : (r s : Fact) → Contains canonical r → Contains canonical s → fact_key r ≡ fact_key s → r ≡ s
  same_members r s (i, li, ei) (j, lj, ej) e =
      let x : get_or canonical i no_fact ≡ r = default_same canonical i no_fact r li ∙ ei in
      let y : get_or canonical j no_fact ≡ s = default_same canonical j no_fact s lj ∙ ej in
      let k : fact_key (get_or canonical i no_fact) ≡ fact_key (get_or canonical j no_fact) = ap fact_key x ∙ (e ∙ sym (ap fact_key y)) in
      sym x ∙ (by_order (dec_le i j) k ∙ y)
    where
      by_order : Dec (i ≤ j) → fact_key (get_or canonical i no_fact) ≡ fact_key (get_or canonical j no_fact) → get_or canonical i no_fact ≡ get_or canonical j no_fact
      by_order (yes le) k = same_rows n nands links reps canonical is few i j le lj k
      by_order (no gt) k = sym (same_rows n nands links reps canonical is few j i (omega arith) li (sym k))

  pub settled_by_rows : AreSettled n nands links reps
  settled_by_rows = record {
    valid = is.valid;
    flat = is.flat;
    linked = is.linked;
    agree = λ p q a b e f. ap (λ (r : Fact). r.form) (same_members (canonical_fact reps p) (canonical_fact reps q) (in_rows p a) (in_rows q b) (ap₂ (λ x y. x * 2 ^ 32 + y) e f));
  }

pub settled_by_own : (n : ℕ) (nands : List Fact) (links : List Link) (reps : List ℕ) → AreRepresentatives n nands links reps → IsFlat reps → All (LinkAgrees reps) links → HaveDistinctOperands reps nands → AreSettled n nands links reps
settled_by_own n nands links reps valid flat linked own = record {
  valid = valid;
  flat = flat;
  linked = linked;
  agree = λ p q a b e f. ap (λ (r : Fact). rep_of reps r.form) (own p q a b (ap₂ (λ x y. x * 2 ^ 32 + y) e f));
}

pub settled_from : (m n : ℕ) (nands : List Fact) (links : List Link) (reps : List ℕ) → m ≡ n → AreSettled m nands links reps → AreSettled n nands links reps
settled_from m n nands links reps e is = subst (λ k. AreSettled k nands links reps) e is

distinct_from : (xs : List ℕ) → ((i j d : ℕ) → i < j → j < length xs → get_or xs i d < get_or xs j d) → IsDistinct (λ a b. a == b) xs
unfolding IsDistinct
distinct_from [] f = tt
distinct_from (x ∷ xs) f =
    (contains_all (λ y. (x == y) ≡ false) xs (λ y (k, lt, e). eq_lower x y (subst (λ z. x < z) e (f 0 (suc k) y (omega arith) (omega arith)))), distinct_from xs (λ i j d l lt. f (suc i) (suc j) d (omega arith) (omega arith)))

distinct_at : (xs : List ℕ) → IsDistinct (λ a b. a == b) xs → (i j : ℕ) → i < j → j < length xs → get_or xs i 0 ≡ get_or xs j 0 → ⊥
unfolding IsDistinct
distinct_at [] d i j l lt e = absurd (omega arith)
distinct_at (x ∷ xs) (a, d) i zero l lt e = absurd (omega arith)
distinct_at (x ∷ xs) (a, d) zero (suc j) l lt e =
    let f = all_contains (λ y. (x == y) ≡ false) xs (get_or xs j 0) a (Contains-get_or xs j 0 (omega arith)) in
    let t : (x == get_or xs j 0) ≡ true = grind (arith, e) in
    absurd (true≢false (sym t ∙ f))
distinct_at (x ∷ xs) (a, d) (suc i) (suc j) l lt e = distinct_at xs d i j (omega arith) (omega arith) e

-- keys that rise strictly in some order belong to one fact each
pub distinct_operands : (reps : List ℕ) (nands : List Fact) (sorted : List ℕ) → IsPermutation (map (operands_key reps) nands) sorted → IsStrictlyIncreasing sorted → HaveDistinctOperands reps nands
distinct_operands reps nands sorted perm rise p q (i, li, ei) (j, lj, ej) e = by_place (dec_lt i j) (dec_lt j i)
  where
    distinct : IsDistinct (λ a b. a == b) (map (operands_key reps) nands)
    distinct =
        IsDistinct-IsPermutation (λ a b. a == b) eq_turned sorted (map (operands_key reps) nands) (IsPermutation-sym (map (operands_key reps) nands) sorted perm) (distinct_from sorted (λ i j d l lt. AllPairs-from_increasing sorted rise i j d l lt))

    at : (k : ℕ) (r : Fact) → k < length nands → get_or nands k r ≡ r → get_or (map (operands_key reps) nands) k 0 ≡ operands_key reps r
    at k r lt e = get_or-map (operands_key reps) nands k r 0 lt ∙ ap (operands_key reps) e

    in_keys : (k : ℕ) → k < length nands → k < length (map (operands_key reps) nands)
    in_keys k lt = subst (λ m. k < m) (sym (length-map nands (operands_key reps))) lt

    by_place : Dec (i < j) → Dec (j < i) → p ≡ q
    by_place (yes l) d =
        absurd (distinct_at (map (operands_key reps) nands) distinct i j l (in_keys j lj) (at i p li ei ∙ (e ∙ sym (at j q lj ej))))
    by_place (no n) (yes l) =
        absurd (distinct_at (map (operands_key reps) nands) distinct j i l (in_keys i li) (at j q lj ej ∙ (sym e ∙ sym (at i p li ei))))
    by_place (no n) (no m) =
        let s : i ≡ j = omega arith in
        sym ei ∙ (default_same nands i p q li ∙ (ap (λ k. get_or nands k q) s ∙ ej))
