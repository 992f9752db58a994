-- The names of signals differ.
use Rattle.std.proofs.Common.{◌≡◌, ℕ, ◌+◌, ◌-◌, ◌^◌, ◌<◌, Bool, true, false, cond, nat_lt, List, ◌∷◌, length, get_or, Contains, refl, sym, ◌∙◌, arith}
use Rattle.std.specs.Fmt.{decimal}
use Rattle.std.specs.List.{IsDistinct}
use Rattle.std.specs.Str.{bytes_eq}
use Rattle.std.proofs.lemmas.Bool.{ltb-false}
use Rattle.std.proofs.lemmas.Fmt.{decimal_injective}
use Rattle.std.proofs.lemmas.List.FromFn.{length-map-range_with_len, get_or-map-range_with_len}
use Rattle.std.proofs.lemmas.Map.Keys.{IsDistinct-from_apart}
use Rattle.std.proofs.lemmas.Slice.Eq.{bytes_eq-Decides}
use Rattle.lw_big.specs.Generated.{signal_name, signal_names}

same_digits : (letter : ℕ) (xs ys : List ℕ) → ◌≡◌ {A = List ℕ} (letter ∷ xs) (letter ∷ ys) → xs ≡ ys
same_digits letter xs ys e = cc

same_letter : (a b : ℕ) (xs ys : List ℕ) → ◌≡◌ {A = List ℕ} (a ∷ xs) (b ∷ ys) → a ≡ b
same_letter a b xs ys e = cc

-- a name is that of one signal
pub same_signal : (s t : ℕ) → s < 2 ^ 64 → t < 2 ^ 64 → signal_name s ≡ signal_name t → s ≡ t
unfolding signal_name
same_signal s t small small' same = by_tests (nat_lt s 16) (nat_lt t 16) refl refl same
  where
    by_tests : (a b : Bool) → nat_lt s 16 ≡ a → nat_lt t 16 ≡ b → cond a (105 ∷ decimal s) (103 ∷ decimal (s - 16)) ≡ cond b (105 ∷ decimal t) (103 ∷ decimal (t - 16)) → s ≡ t
    by_tests true true low low' e = decimal_injective s t small small' (same_digits 105 (decimal s) (decimal t) e)
    by_tests true false low low' e = absurd (omega (arith, same_letter 105 103 (decimal s) (decimal (t - 16)) e))
    by_tests false true low low' e = absurd (omega (arith, same_letter 103 105 (decimal (s - 16)) (decimal t) e))
    by_tests false false low low' e =
        let behind = ltb-false s 16 low in
        let behind' = ltb-false t 16 low' in
        omega (arith, decimal_injective (s - 16) (t - 16) (omega arith) (omega arith) (same_digits 103 (decimal (s - 16)) (decimal (t - 16)) e))

pub length-signal_names : (first count : ℕ) → length (signal_names first count) ≡ count
unfolding signal_names
length-signal_names first count = length-map-range_with_len signal_name first count

pub signal_names-at : (first count k s : ℕ) (d : List ℕ) → k < count → first + k ≡ s → get_or (signal_names first count) k d ≡ signal_name s
unfolding signal_names
signal_names-at first count k s d lt is = get_or-map-range_with_len signal_name first count k s d lt is

pub name_among : (count s : ℕ) → s < count → Contains (signal_names 0 count) (signal_name s)
name_among count s lt = (s, omega (arith, length-signal_names 0 count), signal_names-at 0 count s s (signal_name s) lt (omega arith))

pub names_differ : (first count : ℕ) → first + count < 2 ^ 64 → IsDistinct bytes_eq (signal_names first count)
names_differ first count small =
    IsDistinct-from_apart bytes_eq (signal_names first count) (λ i j d lt below. apart i j d lt (omega (arith, length-signal_names first count)) (bytes_eq (get_or (signal_names first count) i d) (get_or (signal_names first count) j d)) refl)
  where
    apart : (i j : ℕ) (d : List ℕ) → i < j → j < count → (b : Bool) → bytes_eq (get_or (signal_names first count) i d) (get_or (signal_names first count) j d) ≡ b → b ≡ false
    apart i j d lt below false is = refl
    apart i j d lt below true is =
        let one = get_or (signal_names first count) i d in
        let other = get_or (signal_names first count) j d in
        let same = sym (signal_names-at first count i (first + i) d (omega arith) refl) ∙ ((bytes_eq-Decides one other).0 is ∙ signal_names-at first count j (first + j) d below refl) in
        absurd (omega (arith, same_signal (first + i) (first + j) (omega arith) (omega arith) same))
