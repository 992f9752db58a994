-- Words one after another in one list of bytes.
use Rattle.std.proofs.Common.{ℕ, zero, suc, ◌+◌, ◌-◌, ◌<◌, ◌≤◌, ◌≡◌, List, [], ◌∷◌, ◌++◌, length, get_or, Some, refl, ap, sym, ◌∙◌, arith}
use Rattle.std.specs.Prelude.{slice_get}
use Rattle.std.specs.List.{slice_range}
use Rattle.lw_facts.proofs.Lists.{slice_range_append}
use Rattle.lw_words.specs.Arenas.{words_at, last_end, AreEnds, begin_of}

pub AreEnds-more : (from n m : ℕ) (ends : List ℕ) → n ≤ m → AreEnds from n ends → AreEnds from m ends
AreEnds-more from n m [] le h = omega arith
AreEnds-more from n m (end ∷ ends) le h = (h.0, h.1, AreEnds-more end n m ends le h.2)

pub from-last_end : (from n : ℕ) (ends : List ℕ) → AreEnds from n ends → (from ≤ last_end from ends) × (last_end from ends ≤ n)
from-last_end from n [] h = (omega arith, h)
from-last_end from n (end ∷ ends) h =
    let e = from-last_end end n ends h.2 in
    (omega (arith, h.0, e.0), e.1)

pub AreEnds-push : (from n : ℕ) (ends : List ℕ) (end : ℕ) → AreEnds from n ends → last_end from ends < end → end ≤ last_end from ends + 4095 → end ≤ n → AreEnds from n (ends ++ end ∷ [])
AreEnds-push from n [] end h lt few le = (lt, few, le)
AreEnds-push from n (first ∷ ends) end h lt few le = (h.0, h.1, AreEnds-push first n ends end h.2 lt few le)

pub last_end-push : (from : ℕ) (ends : List ℕ) (end : ℕ) → last_end from (ends ++ end ∷ []) ≡ end
last_end-push from [] end = refl
last_end-push from (first ∷ ends) end = last_end-push first ends end

pub words_at-push : (from : ℕ) (bytes ends : List ℕ) (end : ℕ) → words_at from bytes (ends ++ end ∷ []) ≡ words_at from bytes ends ++ slice_range bytes (last_end from ends) end ∷ []
words_at-push from bytes [] end = refl
words_at-push from bytes (first ∷ ends) end = ap (λ ws. slice_range bytes from first ∷ ws) (words_at-push first bytes ends end)

pub words_at-append : (from : ℕ) (bytes more ends : List ℕ) → AreEnds from (length bytes) ends → words_at from (bytes ++ more) ends ≡ words_at from bytes ends
words_at-append from bytes more [] h = refl
words_at-append from bytes more (end ∷ ends) h =
    let e = from-last_end end (length bytes) ends h.2 in
    let first = slice_range_append bytes more from end (omega (arith, h.0, e.0, e.1)) (omega (arith, e.0, e.1)) in
    let others = words_at-append end bytes more ends h.2 in
    cc

pub length-words_at : (from : ℕ) (bytes ends : List ℕ) → length (words_at from bytes ends) ≡ length ends
length-words_at from bytes [] = refl
length-words_at from bytes (end ∷ ends) = ap suc (length-words_at end bytes ends)

pub begin_of-first : (from : ℕ) (ends : List ℕ) → begin_of from ends 0 ≡ from
begin_of-first from [] = refl
begin_of-first from (end ∷ ends) = refl

pub begin_of-later : (from : ℕ) (ends : List ℕ) (place : ℕ) → suc place < length ends → begin_of from ends (suc place) ≡ get_or ends place 0
begin_of-later from [] place lt = absurd (omega arith)
begin_of-later from (end ∷ []) place lt = absurd (omega arith)
begin_of-later from (end ∷ next ∷ ends) zero lt = refl
begin_of-later from (end ∷ next ∷ ends) (suc place) lt = begin_of-later end (next ∷ ends) place (omega arith)

pub begin_of-before : (from : ℕ) (ends : List ℕ) (place : ℕ) → 0 < place → place < length ends → get_or ends (place - 1) 0 ≡ begin_of from ends place
begin_of-before from ends zero some lt = absurd (omega arith)
begin_of-before from ends (suc place) some lt =
    let before : suc place - 1 ≡ place = omega arith in
    ap (λ n. get_or ends n 0) before ∙ sym (begin_of-later from ends place lt)

pub slice_get-words_at : (from : ℕ) (bytes ends : List ℕ) (place : ℕ) → place < length ends → slice_get (words_at from bytes ends) place ≡ Some (slice_range bytes (begin_of from ends place) (get_or ends place 0))
slice_get-words_at from bytes [] place lt = absurd (omega arith)
slice_get-words_at from bytes (end ∷ ends) zero lt = refl
slice_get-words_at from bytes (end ∷ ends) (suc place) lt = slice_get-words_at end bytes ends place (omega arith)

pub record IsWithin (n begin end : ℕ) : Type 0 where
  pub some : begin < end
  pub few : end ≤ begin + 4095
  pub within : end ≤ n

pub word-within : (from n : ℕ) (ends : List ℕ) (place : ℕ) → place < length ends → AreEnds from n ends → IsWithin n (begin_of from ends place) (get_or ends place 0)
word-within from n [] place lt h = absurd (omega arith)
word-within from n (end ∷ ends) zero lt h =
    let e = from-last_end end n ends h.2 in
    record { some = h.0; few = h.1; within = omega (arith, e.0, e.1) }
word-within from n (end ∷ ends) (suc place) lt h = word-within end n ends place (omega arith) h.2
