-- Names that differ have numbers of their own.
use Rattle.std.proofs.Common.{◌≡◌, ℕ, zero, suc, ◌+◌, ◌<◌, ◌≤◌, Bool, true, false, not, ◌||◌, cond, unwrap_or, List, [], ◌∷◌, ◌++◌, length, get_or, Some, None, nat_lt, Contains, All, refl, sym, ap, subst, ◌∙◌, arith}
use Rattle.std.proofs.lemmas.List.{get_or_default}
use Rattle.std.proofs.lemmas.List.Sums.{sum_by-cons}
use Rattle.std.proofs.lemmas.List.Sorted.{sum_by-IsPermutation}
use Rattle.std.proofs.lemmas.Bool.{false≢true}
use Rattle.std.proofs.lemmas.Bool.Decides.{nat_tests}
use Rattle.std.specs.List.{IsDistinct, AllByRecursion, position_or_len, sum_by}
use Rattle.std.specs.List.Sorted.{IsPermutation}
use Rattle.std.specs.Str.{bytes_eq}
use Rattle.lw_facts.proofs.Lists.{first_place, bytes_eq_is, bytes_eq_same}
use Rattle.lw_dag.specs.Names.{is_among, number_in, unknown_in}

pub number_at : (names : List (List ℕ)) (k : ℕ) (d : List ℕ) → IsDistinct bytes_eq names → k < length names → number_in names (get_or names k d) ≡ k
number_at names k d distinct lt =
    let place = first_place names k d distinct lt in
    let inside : nat_lt (position_or_len (bytes_eq (get_or names k d)) names) (length names) ≡ true = grind (arith, nat_tests) in
    ap (λ b. unwrap_or (cond b (Some (position_or_len (bytes_eq (get_or names k d)) names)) None) 0) inside ∙ place

pub number_of : (names : List (List ℕ)) (name : List ℕ) → IsDistinct bytes_eq names → (among : Contains names name) → number_in names name ≡ among.0
number_of names name distinct (k, lt, e) = ap (number_in names) (sym e) ∙ number_at names k name distinct lt

pub number_below : (names : List (List ℕ)) (name : List ℕ) → IsDistinct bytes_eq names → Contains names name → number_in names name < length names
number_below names name distinct (k, lt, e) = subst (λ n. n < length names) (sym (number_of names name distinct (k, lt, e))) lt

pub name_again : (names : List (List ℕ)) (name d : List ℕ) → IsDistinct bytes_eq names → Contains names name → get_or names (number_in names name) d ≡ name
name_again names name d distinct (k, lt, e) = ap (λ n. get_or names n d) (number_of names name distinct (k, lt, e)) ∙ (get_or_default names k d name lt ∙ e)

pub among_contains : (names : List (List ℕ)) (name : List ℕ) → is_among names name ≡ true → Contains names name
among_contains [] name is = absurd (false≢true is)
among_contains (x ∷ xs) name is = by_test (bytes_eq name x) refl is (among_contains xs name)
  where
    further : Contains xs name → Contains (x ∷ xs) name
    further (k, lt, e) = (suc k, omega arith, e)

    by_test : (b : Bool) → bytes_eq name x ≡ b → (b || is_among xs name) ≡ true → (is_among xs name ≡ true → Contains xs name) → Contains (x ∷ xs) name
    by_test true e now rest = (zero, omega arith, sym (bytes_eq_is name x e))
    by_test false e now rest = further (rest now)

-- each name is known
pub none_unknown : (signals names : List (List ℕ)) → unknown_in signals names ≡ None → All (Contains signals) names
none_unknown signals names none = λ k d lt. at names none k d lt
  where
    at : (ns : List (List ℕ)) → unknown_in signals ns ≡ None → (k : ℕ) (d : List ℕ) → k < length ns → Contains signals (get_or ns k d)
    at [] e k d lt = absurd (omega arith)
    at (n ∷ ns) e k d lt = by_test (is_among signals n) refl e k lt (at ns)
      where
        by_test : (b : Bool) → is_among signals n ≡ b → cond (not b) (Some n) (unknown_in signals ns) ≡ None → (k : ℕ) → k < length (n ∷ ns) → (unknown_in signals ns ≡ None → (k : ℕ) (d : List ℕ) → k < length ns → Contains signals (get_or ns k d)) → Contains signals (get_or (n ∷ ns) k d)
        by_test true is e zero lt rest = among_contains signals n is
        by_test true is e (suc k) lt rest = rest e k d (omega arith)
        by_test false is e k lt rest = cc

pub none_split : (signals xs ys : List (List ℕ)) → unknown_in signals (xs ++ ys) ≡ None → (unknown_in signals xs ≡ None) × (unknown_in signals ys ≡ None)
none_split signals [] ys e = (refl, e)
none_split signals (x ∷ xs) ys e = by_test (not (is_among signals x)) e (none_split signals xs ys)
  where
    by_test : (b : Bool) → cond b (Some x) (unknown_in signals (xs ++ ys)) ≡ None → (unknown_in signals (xs ++ ys) ≡ None → (unknown_in signals xs ≡ None) × (unknown_in signals ys ≡ None)) → (cond b (Some x) (unknown_in signals xs) ≡ None) × (unknown_in signals ys ≡ None)
    by_test true is rest = cc
    by_test false is rest = rest is

-- names that differ do so in another order: each is there once at most

abbrev bit : Bool → ℕ
bit b = cond b 1 0

abbrev hits : List ℕ → List (List ℕ) → ℕ
hits name xs = sum_by (λ y. cond (bytes_eq name y) 1 0) xs

hits-cons : (name x : List ℕ) (xs : List (List ℕ)) → hits name (x ∷ xs) ≡ cond (bytes_eq name x) 1 0 + hits name xs
hits-cons name x xs = sum_by-cons (λ y. cond (bytes_eq name y) 1 0) x xs

hits-none : (x : List ℕ) (xs : List (List ℕ)) → AllByRecursion (λ y. bytes_eq x y ≡ false) xs → hits x xs ≡ 0
hits-none x [] all = refl
hits-none x (y ∷ ys) all = omega (arith, hits-cons x y ys, ap bit all.0, hits-none x ys all.1)

hits-distinct : (name : List ℕ) (xs : List (List ℕ)) → IsDistinct bytes_eq xs → hits name xs ≤ 1
unfolding IsDistinct
hits-distinct name [] distinct = omega arith
hits-distinct name (x ∷ xs) distinct = by_test (bytes_eq name x) refl (hits-cons name x xs) (hits-distinct name xs distinct.1)
  where
    by_test : (b : Bool) → bytes_eq name x ≡ b → hits name (x ∷ xs) ≡ cond b 1 0 + hits name xs → hits name xs ≤ 1 → hits name (x ∷ xs) ≤ 1
    by_test true e is rest = omega (arith, is, ap (λ n. hits n xs) (bytes_eq_is name x e), hits-none x xs distinct.0)
    by_test false e is rest = omega (arith, is, rest)

none-hits : (x : List ℕ) (xs : List (List ℕ)) → hits x xs ≡ 0 → AllByRecursion (λ y. bytes_eq x y ≡ false) xs
none-hits x [] e = tt
none-hits x (y ∷ ys) e = by_test (bytes_eq x y) refl (hits-cons x y ys) (none-hits x ys)
  where
    by_test : (b : Bool) → bytes_eq x y ≡ b → hits x (y ∷ ys) ≡ cond b 1 0 + hits x ys → (hits x ys ≡ 0 → AllByRecursion (λ z. bytes_eq x z ≡ false) ys) → (bytes_eq x y ≡ false) × AllByRecursion (λ z. bytes_eq x z ≡ false) ys
    by_test true is sum rest = absurd (omega (arith, e, sum))
    by_test false is sum rest = (is, rest (omega (arith, e, sum)))

distinct-hits : (xs : List (List ℕ)) → ((name : List ℕ) → hits name xs ≤ 1) → IsDistinct bytes_eq xs
unfolding IsDistinct
distinct-hits [] few = tt
distinct-hits (x ∷ xs) few = (
  none-hits x xs (omega (arith, few x, hits-cons x x xs, ap bit (bytes_eq_same x x refl))),
  distinct-hits xs (λ name. omega (arith, few name, hits-cons name x xs)),
)

pub distinct_moved : (xs ys : List (List ℕ)) → IsPermutation xs ys → IsDistinct bytes_eq xs → IsDistinct bytes_eq ys
distinct_moved xs ys moved distinct = distinct-hits ys (λ name. subst (λ n. n ≤ 1) (sym (sum_by-IsPermutation (λ y. cond (bytes_eq name y) 1 0) xs ys moved)) (hits-distinct name xs distinct))
