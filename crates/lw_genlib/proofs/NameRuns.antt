-- The tokens of a word, from its front on.
use Rattle.std.proofs.Common.{ℕ, ◌+◌, ◌<◌, ◌≤◌, ◌≡◌, Bool, true, false, not, cond, List, [], ◌∷◌, ◌++◌, length, take, drop, refl, sym, ap, ◌∙◌, subst, arith, append_assoc, Some, slice_get}
use native.Mathlib.Decide.{dec_lt}
use Rattle.std.specs.List.{prefix_len, list_all}
use Rattle.std.proofs.lemmas.List.{take-append-drop, drop_more, drop_all, get_or-take, length-take-le}
use Rattle.std.proofs.lemmas.List.Sums.{prefix_len_passes, prefix_len_stops, prefix_len-le-length, list_all-from_AllPass}
use Rattle.std.proofs.lemmas.Bool.{and_parts, not-false, not-true}
use Rattle.lw_genlib.specs.declared.token.Token.{Token}
use Rattle.lw_genlib.specs.declared.token.Token.TheVariants.{Name, Punct}
use Rattle.lw_genlib.specs.Cells.{is_punct_byte}
use Rattle.lw_genlib.specs.Functions.{with_byte, tokens_in}

abbrev pub is_name_byte : ℕ → Bool
is_name_byte b = not (is_punct_byte b)

-- behind a whole name stands a punctuation byte, or nothing
pub record IsCut (bytes : List ℕ) : Type 0 where
  alone : (b : ℕ) → with_byte b (tokens_in bytes) ≡ Name (b ∷ []) ∷ tokens_in bytes

pub punct_first : (m : ℕ) (bytes : List ℕ) → is_punct_byte m ≡ true → tokens_in (m ∷ bytes) ≡ Punct m ∷ tokens_in bytes
punct_first m bytes is = ap (λ b. cond b (Punct m ∷ tokens_in bytes) (with_byte m (tokens_in bytes))) is

byte_first : (m : ℕ) (bytes : List ℕ) → is_punct_byte m ≡ false → tokens_in (m ∷ bytes) ≡ with_byte m (tokens_in bytes)
byte_first m bytes is = ap (λ b. cond b (Punct m ∷ tokens_in bytes) (with_byte m (tokens_in bytes))) is

cut_nothing : IsCut []
cut_nothing = record { alone = λ b. refl }

cut_punct : (m : ℕ) (bytes : List ℕ) → is_punct_byte m ≡ true → IsCut (m ∷ bytes)
cut_punct m bytes is = record { alone = λ b. ap (with_byte b) (punct_first m bytes is) ∙ ap (λ s. Name (b ∷ []) ∷ s) (sym (punct_first m bytes is)) }

-- a name and what stands behind it
run_of_name : (name rest : List ℕ) → list_all is_name_byte name ≡ true → 0 < length name → IsCut rest → tokens_in (name ++ rest) ≡ Name name ∷ tokens_in rest
run_of_name [] rest all some cut = absurd (omega arith)
run_of_name (b ∷ []) rest all some cut = byte_first b rest (not-true (is_punct_byte b) (and_parts (is_name_byte b) true all).0) ∙ cut.alone b
run_of_name (b ∷ c ∷ name) rest all some cut =
    let parts = and_parts (is_name_byte b) (list_all is_name_byte (c ∷ name)) all in
    byte_first b (c ∷ name ++ rest) (not-true (is_punct_byte b) parts.0) ∙ ap (with_byte b) (run_of_name (c ∷ name) rest parts.1 (omega arith) cut)

module _ (bytes : List ℕ) where
  front_passes : list_all is_name_byte (take (prefix_len is_name_byte bytes) bytes) ≡ true
  front_passes =
      let most : prefix_len is_name_byte bytes ≤ length bytes = prefix_len-le-length is_name_byte bytes in
      let long : length (take (prefix_len is_name_byte bytes) bytes) ≡ prefix_len is_name_byte bytes = length-take-le (prefix_len is_name_byte bytes) bytes most in
      list_all-from_AllPass is_name_byte (take (prefix_len is_name_byte bytes) bytes)
      (λ k d lt. let near : k < prefix_len is_name_byte bytes = omega arith in
      ap is_name_byte (get_or-take (prefix_len is_name_byte bytes) bytes k d near) ∙ prefix_len_passes is_name_byte bytes k d near)

  behind_cut : IsCut (drop (prefix_len is_name_byte bytes) bytes)
  behind_cut = at_end (dec_lt (prefix_len is_name_byte bytes) (length bytes))
    where
      at_end : Dec (prefix_len is_name_byte bytes < length bytes) → IsCut (drop (prefix_len is_name_byte bytes) bytes)
      at_end (yes lt) = subst IsCut (sym (drop_more bytes (prefix_len is_name_byte bytes) 0 lt)) (cut_punct _ _ (not-false _ (prefix_len_stops is_name_byte bytes 0 lt)))
      at_end (no past) = subst IsCut (sym (drop_all (prefix_len is_name_byte bytes) bytes (omega arith))) cut_nothing

  -- the name at the front, and what stands behind it
  pub name_first : 0 < prefix_len is_name_byte bytes → tokens_in bytes ≡ Name (take (prefix_len is_name_byte bytes) bytes) ∷ tokens_in (drop (prefix_len is_name_byte bytes) bytes)
  name_first some =
      let most : prefix_len is_name_byte bytes ≤ length bytes = prefix_len-le-length is_name_byte bytes in
      let long : length (take (prefix_len is_name_byte bytes) bytes) ≡ prefix_len is_name_byte bytes = length-take-le (prefix_len is_name_byte bytes) bytes most in
      ap tokens_in (sym (take-append-drop (prefix_len is_name_byte bytes) bytes)) ∙ run_of_name _ _ front_passes (omega arith) behind_cut

-- The loop over a word.
pub record Worded (word rest : List ℕ) (old new : List Token) : Type 0 where
  pub tokens : new ++ tokens_in rest ≡ old ++ tokens_in word

pub goes_on_by : (word rest behind : List ℕ) (old new new' : List Token) (token : Token) → Worded word rest old new → tokens_in rest ≡ token ∷ tokens_in behind → new' ≡ new ++ token ∷ [] → Worded word behind old new'
goes_on_by word rest behind old new new' token w next grown =
    record { tokens = ap (λ n. n ++ tokens_in behind) grown ∙ (append_assoc new (token ∷ []) (tokens_in behind) ∙ (ap (λ s. new ++ s) (sym next) ∙ w.tokens)) }

pub some_name : (bytes : List ℕ) (b : ℕ) → Some b ≡ slice_get bytes 0 → false ≡ is_punct_byte b → 0 < prefix_len is_name_byte bytes
some_name [] b at is = cc
some_name (c ∷ bytes) b at is =
    let same : b ≡ c = some_same b c at in
    let name : is_name_byte c ≡ true = ap not (sym (is ∙ ap is_punct_byte same)) in
    subst (λ t. 0 < cond t (1 + prefix_len is_name_byte bytes) 0) (sym name) (omega arith)
  where
    some_same : (x y : ℕ) → Some x ≡ Some y → x ≡ y
    some_same x y e = cc
