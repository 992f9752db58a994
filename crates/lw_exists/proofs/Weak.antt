-- What cannot fail to be: it goes on from one thing to the next, and any property of finitely many numbers is decided.
use Rattle.std.proofs.Common.{ℕ, zero, suc, ◌<◌, ◌≤◌, ◌≡◌, ◌⊎◌, inl, inr, List, [], ◌∷◌, length, Some, slice_get, Contains, refl, ap, sym, subst, arith}
use Rattle.std.specs.List.{AllZip}
use native.Mathlib.Decide.{dec_lt}
use native.Mathlib.Nat.{eq-or-lt_of_le}
use Rattle.lw_exists.specs.Weakly.{Weakly}

pub sure : {P : Type 0} → P → Weakly P
sure p = λ none. none p

pub and_then : {P Q : Type 0} → Weakly P → (P → Weakly Q) → Weakly Q
and_then w f = λ none. w (λ p. f p none)

pub weaker : {P Q : Type 0} → (P → Q) → Weakly P → Weakly Q
weaker f w = λ none. w (λ p. none (f p))

-- a property holds, or it does not
pub either : (P : Type 0) → Weakly (P ⊎ (P → ⊥))
either P = λ none. none (inr (λ p. none (inl p)))

-- what holds below a number and at it holds below the next
below_next : (P : ℕ → Type 0) (n : ℕ) → ((i : ℕ) → i < n → P i) → P n → (i : ℕ) → i < suc n → P i
below_next P n below here i lt = by_place (eq-or-lt_of_le {n = i} {m = n} (omega arith))
  where
    by_place : (i ≡ n) ⊎ (i < n) → P i
    by_place (inl e) = subst P (sym e) here
    by_place (inr l) = below i l

-- what each number below a bound cannot fail to have, all of them cannot fail to have
pub weak_all : (P : ℕ → Type 0) (n : ℕ) → ((i : ℕ) → i < n → Weakly (P i)) → Weakly ((i : ℕ) → i < n → P i)
weak_all P zero f = sure (λ i lt. absurd (omega arith))
weak_all P (suc n) f =
    and_then (weak_all P n (λ i lt. f i (omega arith))) (λ below. weaker (below_next P n below) (f n (omega arith)))

-- decisions for all numbers below a bound
abbrev pub Decided : (ℕ → Type 0) → ℕ → Type 0
Decided P n = (i : ℕ) → i < n → P i ⊎ (P i → ⊥)

pub weak_decided : (P : ℕ → Type 0) (n : ℕ) → Weakly (Decided P n)
weak_decided P n = weak_all (λ i. P i ⊎ (P i → ⊥)) n (λ i lt. either (P i))

-- a number below the bound that has it, or none has it
pub find_below : (P : ℕ → Type 0) (n : ℕ) → Decided P n → ((i : ℕ) × (i < n) × P i) ⊎ ((i : ℕ) → i < n → P i → ⊥)
find_below P zero d = inr (λ i lt p. absurd (omega arith))
find_below P (suc n) d = by_last (find_below P n (λ i lt. d i (omega arith))) (d n (omega arith))
  where
    by_last : ((i : ℕ) × (i < n) × P i) ⊎ ((i : ℕ) → i < n → P i → ⊥) → P n ⊎ (P n → ⊥) → ((i : ℕ) × (i < suc n) × P i) ⊎ ((i : ℕ) → i < suc n → P i → ⊥)
    by_last (inl (i, lt, p)) q = inl (i, omega arith, p)
    by_last (inr none) (inl p) = inl (n, omega arith, p)
    by_last (inr none) (inr out) = inr (below_next (λ i. P i → ⊥) n none out)

-- the first number below the bound that has it, or none has it
abbrev pub IsFirstBelow : (ℕ → Type 0) → ℕ → ℕ → Type 0
IsFirstBelow P n m = (m < n) × P m × ((i : ℕ) → i < m → P i → ⊥)

pub first_below : (P : ℕ → Type 0) (n : ℕ) → Decided P n → ((m : ℕ) × IsFirstBelow P n m) ⊎ ((i : ℕ) → i < n → P i → ⊥)
first_below P zero d = inr (λ i lt p. absurd (omega arith))
first_below P (suc n) d = by_last (first_below P n (λ i lt. d i (omega arith))) (d n (omega arith))
  where
    by_last : ((m : ℕ) × IsFirstBelow P n m) ⊎ ((i : ℕ) → i < n → P i → ⊥) → P n ⊎ (P n → ⊥) → ((m : ℕ) × IsFirstBelow P (suc n) m) ⊎ ((i : ℕ) → i < suc n → P i → ⊥)
    by_last (inl (i, (lt, p, first))) q = inl (i, (omega arith, p, first))
    by_last (inr none) (inl p) = inl (n, (omega arith, p, none))
    by_last (inr none) (inr out) = inr (below_next (λ i. P i → ⊥) n none out)

-- each number below the bound has it, or this is the first that does not
abbrev pub HoldsBefore : (ℕ → Type 0) → ℕ → Type 0
HoldsBefore P n =
    ((i : ℕ) → i < n → P i) ⊎ ((m : ℕ) × ((m < n) × (P m → ⊥) × ((i : ℕ) → i < m → P i)))

pub weak_all_or_first : (P : ℕ → Type 0) (n : ℕ) → Weakly (HoldsBefore P n)
weak_all_or_first P zero = sure (inl (λ i lt. absurd (omega arith)))
weak_all_or_first P (suc n) = and_then (weak_all_or_first P n) (λ before. weaker (by_last before) (either (P n)))
  where
    by_last : HoldsBefore P n → P n ⊎ (P n → ⊥) → HoldsBefore P (suc n)
    by_last (inl all) (inl p) = inl (below_next P n all p)
    by_last (inl all) (inr out) = inr (n, (omega arith, out, all))
    by_last (inr (m, (lt, out, before))) q = inr (m, (omega arith, out, before))

-- the least number with a property that some number has
pub weak_least : (P : ℕ → Type 0) (n : ℕ) → P n → Weakly ((m : ℕ) × P m × ((k : ℕ) → P k → m ≤ k))
weak_least P n p = weaker by_search (weaker (first_below P (suc n)) (weak_decided P (suc n)))
  where
    not_below : (m : ℕ) → ((i : ℕ) → i < m → P i → ⊥) → (k : ℕ) → P k → Dec (k < m) → m ≤ k
    not_below m first k q (yes lt) = absurd (first k lt q)
    not_below m first k q (no out) = omega arith

    by_search : ((m : ℕ) × IsFirstBelow P (suc n) m) ⊎ ((i : ℕ) → i < suc n → P i → ⊥) → (m : ℕ) × P m × ((k : ℕ) → P k → m ≤ k)
    by_search (inl (m, (lt, q, first))) = (m, q, λ k r. not_below m first k r (dec_lt k m))
    by_search (inr none) = absurd (none n (omega arith) p)

-- a list of things that are there for each place
pub some_list : {A : Type 0} (P : ℕ → A → Type 0) (n : ℕ) → ((i : ℕ) → i < n → (x : A) × P i x) → (xs : List A) × (length xs ≡ n) × ((i : ℕ) (x : A) → slice_get xs i ≡ Some x → P i x)
some_list {A} P zero f = ([], refl, λ i x e. cc)
some_list {A} P (suc n) f =
    let (x, here) = f 0 (omega arith) in
    let (xs, count, rest) = some_list (λ i. P (suc i)) n (λ i lt. f (suc i) (omega arith)) in
    (x ∷ xs, ap suc count, by_place x here xs rest)
  where
    by_place : (x : A) → P 0 x → (xs : List A) → ((i : ℕ) (y : A) → slice_get xs i ≡ Some y → P (suc i) y) → (i : ℕ) (y : A) → slice_get (x ∷ xs) i ≡ Some y → P i y
    by_place x here xs rest zero y e = let same : x ≡ y = cc in subst (P 0) same here
    by_place x here xs rest (suc i) y e = rest i y e

-- one for each entry of a list
pub some_zip : {A B : Type 0} (R : A → B → Type 0) (xs : List A) → ((x : A) → Contains xs x → (y : B) × R x y) → (ys : List B) × AllZip R xs ys
some_zip R [] f = ([], tt)
some_zip R (x ∷ xs) f =
    let (y, here) = f x (0, omega arith, refl) in
    let (ys, rest) = some_zip R xs (λ z (k, lt, e). f z (suc k, omega arith, e)) in
    (y ∷ ys, (here, rest))
