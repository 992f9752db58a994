-- Chains of the places of names.
use Rattle.std.proofs.Common.{ℕ, suc, ◌≡◌, ◌≢◌, ◌<◌, ◌≤◌, ◌+◌, ◌*◌, ◌%◌, ◌⊎◌, inl, inr, Bool, true, false, ◌||◌, List, [], ◌∷◌, length, set, get_or, refl, ap, sym, ◌∙◌, arith}
use Rattle.std.specs.Prelude.{⊤}
use Rattle.std.specs.Str.{bytes_eq}
use Rattle.std.proofs.lemmas.Bool.{cases_lt, cases_eq}
use Rattle.std.proofs.lemmas.Grind.{get_or-set_at}
use Rattle.std.proofs.lemmas.List.{get_or-set_other, length-set}
use Rattle.lw_facts.proofs.Lists.{bytes_eq_is}
use Rattle.lw_verilog.specs.Chains.{AreChains, bucket_at, bucket_from, bucket_of, known_width, name_at}
use Rattle.lw_verilog.specs.Windows.{Raises}
use Rattle.lw_verilog.proofs.Marks.{or-no}

from-low : (hash : ℕ) (name : List ℕ) → hash < known_width → bucket_from hash name < known_width
from-low hash [] low = low
from-low hash (b ∷ name) low = from-low ((hash * 31 + b) % known_width) name (omega arith)

-- there are so many buckets
pub bucket_low : (name : List ℕ) → bucket_of name < known_width
bucket_low name = from-low 0 name (omega arith)

-- The chain of a name's bucket is walked down to a place.
pub record IsWalked (names : List (List ℕ)) (name : List ℕ) (left : ℕ) (old new : List Bool) : Type 0 where
  pub many : length new ≡ length old
  pub low : left ≤ length names
  pub chain : (k : ℕ) → left ≡ suc k → bucket_at names k ≡ bucket_of name
  pub above : (i : ℕ) → i < length old → left ≤ i → get_or new i false ≡ (get_or old i false || bytes_eq (name_at names i) name)
  pub below : (i : ℕ) → i < left → get_or new i false ≡ get_or old i false

-- a name of another bucket is another
other-bucket : (x name : List ℕ) → (bucket_of x ≡ bucket_of name → ⊥) → bytes_eq x name ≡ false
other-bucket x name apart = by_test (bytes_eq x name) refl
  where
    by_test : (t : Bool) → bytes_eq x name ≡ t → t ≡ false
    by_test true e = absurd (apart (ap bucket_of (bytes_eq_is x name e)))
    by_test false e = refl

pub walked-first : (names : List (List ℕ)) (heads next : List ℕ) (name : List ℕ) (b : ℕ) (flags : List Bool) → AreChains bucket_of known_width (λ k. ⊤) names (length names) heads next → b ≡ bucket_of name → b < known_width → length flags ≡ length names → IsWalked names name (get_or heads b 0) flags flags
walked-first names heads next name b flags c own in_heads many = record {
  many = refl;
  low = c.low b in_heads;
  chain = λ k e. c.headed b k in_heads e ∙ own;
  above = λ i lt past. or-no (get_or flags i false) (bytes_eq (name_at names i) name) (other-bucket (name_at names i) name (λ same. apart i lt past same));
  below = λ i lt. refl;
}
  where
    apart : (i : ℕ) → i < length flags → get_or heads b 0 ≤ i → bucket_at names i ≡ bucket_of name → ⊥
    apart i lt past same =
        let head : get_or heads (bucket_at names i) 0 ≡ get_or heads b 0 = ap (λ x. get_or heads x 0) (same ∙ sym own) in
        omega (arith, c.first i (omega (arith, lt, many)) tt, head, past)

module _ (names : List (List ℕ)) (heads next : List ℕ) (name : List ℕ) (left j : ℕ) (old new : List Bool) (c : AreChains bucket_of known_width (λ k. ⊤) names (length names) heads next) (is : left ≡ suc j) (many : length old ≡ length names) (w : IsWalked names name left old new) where
  hit : Bool
  hit = bytes_eq (name_at names j) name

  after : List Bool
  after = set new j (get_or new j false || hit)

  in_names : j < length names
  in_names = omega (arith, w.low, is)

  bucket : bucket_at names j ≡ bucket_of name
  bucket = w.chain j is

  at-place : (i : ℕ) → i ≡ j → get_or after i false ≡ (get_or new j false || hit)
  unfolding after
  at-place i same = get_or-set_at new j i (get_or new j false || hit) false same (omega (arith, in_names, many, w.many))

  off-place : (i : ℕ) → i ≢ j → get_or after i false ≡ get_or new i false
  unfolding after
  off-place i apart = get_or-set_other new j i (get_or new j false || hit) false apart

  above-next : (i : ℕ) → i < length old → get_or next j 0 ≤ i → (i < j) ⊎ (j ≤ i) → (i ≡ j) ⊎ (i ≢ j) → get_or after i false ≡ (get_or old i false || bytes_eq (name_at names i) name)
  unfolding hit
  above-next i lt past order (inl same) =
      at-place i same
      ∙ (ap (λ t. t || bytes_eq (name_at names j) name) (w.below j (omega (arith, is))) ∙ ap (λ k. get_or old k false || bytes_eq (name_at names k) name) (sym same))
  above-next i lt past (inl before) (inr apart) =
      off-place i apart
      ∙ (w.below i (omega (arith, before, is))
      ∙ or-no (get_or old i false) (bytes_eq (name_at names i) name) (other-bucket (name_at names i) name (λ same. never same)))
    where
      never : bucket_at names i ≡ bucket_of name → ⊥
      never same = omega (arith, c.later j i before in_names tt (same ∙ sym bucket), past)
  above-next i lt past (inr behind) (inr apart) = off-place i apart ∙ w.above i lt (omega (arith, behind, apart, is))

  pub walked-more : IsWalked names name (get_or next j 0) old (set new j (get_or new j false || bytes_eq (name_at names j) name))
  unfolding hit after
  walked-more = record {
    many = length-set new j (get_or new j false || bytes_eq (name_at names j) name) ∙ w.many;
    low = omega (arith, c.falling j in_names, in_names);
    chain = λ k e. c.chained j k in_names e ∙ bucket;
    above = λ i lt past. above-next i lt past (cases_lt i j) (cases_eq i j);
    below = λ i lt. off-place i (omega (arith, lt, c.falling j in_names)) ∙ w.below i (omega (arith, lt, c.falling j in_names, is));
  }

pub walked-all : (names : List (List ℕ)) (name : List ℕ) (left : ℕ) (old new : List Bool) → left ≤ 0 → IsWalked names name left old new → Raises (λ i. bytes_eq (name_at names i) name) old new
walked-all names name left old new none w = record { many = w.many; each = λ i lt. w.above i lt (omega (arith, none)) }
