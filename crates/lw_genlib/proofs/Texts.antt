-- The tokens of words.
use Rattle.std.proofs.Common.{ℕ, zero, suc, ◌+◌, ◌-◌, ◌≡◌, ◌≤◌, Bool, true, false, not, ◌||◌, ◌&&◌, cond, List, [], ◌∷◌, ◌++◌, length, take, length-take, refl, ap, ap₂, sym, ◌∙◌, subst, arith, length-append}
use Rattle.std.specs.Prelude.{replicate}
use Rattle.std.specs.List.{list_any, list_all, before_first, position_or_len}
use Rattle.std.proofs.lemmas.Bool.{and_parts, or_parts}
use Rattle.std.proofs.lemmas.List.{length-replicate}
use Rattle.std.proofs.lemmas.List.Folds.{list_any-append}
use Rattle.lw_genlib.specs.declared.token.Token.{Token}
use Rattle.lw_genlib.specs.declared.token.Token.TheVariants.{Name, Punct}
use Rattle.lw_genlib.specs.Cells.{IsWord, IsPart, is_word_byte, is_punct_byte}
use Rattle.lw_genlib.specs.Grammar.{is_punct}
use Rattle.lw_genlib.specs.Functions.{tokens_in, with_byte}
use Rattle.lw_genlib.specs.Entries.{is_end}
use Rattle.lw_genlib.specs.Kept.{AreRunsWithin, IsOpenText}

-- One more byte before tokens.

more-runs : (n : ℕ) (tokens : List Token) → AreRunsWithin n tokens → AreRunsWithin (n + 1) tokens
more-runs n [] h = tt
more-runs n (Name m ∷ tokens) h = ((h.0.0, (let short : length m ≤ n = h.0.1 in omega arith), h.0.2), h.1, more-runs n tokens h.2)
more-runs n (Punct b ∷ tokens) h = more-runs n tokens h

byte-runs : (n b : ℕ) (tokens : List Token) → is_word_byte b ≡ true → is_punct_byte b ≡ false → AreRunsWithin n tokens → AreRunsWithin (n + 1) (with_byte b tokens)
byte-runs n b [] word punct h = ((omega arith, omega arith, ap (λ w. w && true) word), ap (λ m. not m && true) punct, tt)
byte-runs n b (Name m ∷ tokens) word punct h = (
  (omega arith, (let short : length m ≤ n = h.0.1 in omega arith), ap₂ (λ w v. w && v) word h.0.2),
  ap₂ (λ w v. not w && v) punct h.1,
  more-runs n tokens h.2,
)
byte-runs n b (Punct c ∷ tokens) word punct h = ((omega arith, omega arith, ap (λ w. w && true) word), ap (λ m. not m && true) punct, more-runs n tokens h)

byte-count : (b : ℕ) (tokens : List Token) → length (with_byte b tokens) ≤ length tokens + 1
byte-count b [] = omega arith
byte-count b (Name m ∷ tokens) = omega arith
byte-count b (Punct c ∷ tokens) = omega arith

byte-end : (b : ℕ) (tokens : List Token) → list_any (is_punct 59) (with_byte b tokens) ≡ list_any (is_punct 59) tokens
byte-end b [] = refl
byte-end b (Name m ∷ tokens) = refl
byte-end b (Punct c ∷ tokens) = refl

-- The tokens of a word.

runs-step : (n b : ℕ) (tokens : List Token) (m : Bool) → is_punct_byte b ≡ m → is_word_byte b ≡ true → AreRunsWithin n tokens → AreRunsWithin (n + 1) (cond m (Punct b ∷ tokens) (with_byte b tokens))
runs-step n b tokens true is word h = more-runs n tokens h
runs-step n b tokens false is word h = byte-runs n b tokens word is h

pub runs_in : (bytes : List ℕ) → list_all is_word_byte bytes ≡ true → AreRunsWithin (length bytes) (tokens_in bytes)
runs_in [] words = tt
runs_in (b ∷ bytes) words =
    let size : length bytes + 1 ≡ length (b ∷ bytes) = omega arith in
    subst (λ n. AreRunsWithin n (tokens_in (b ∷ bytes))) size
    (runs-step (length bytes) b (tokens_in bytes) (is_punct_byte b) refl (and_parts (is_word_byte b) (list_all is_word_byte bytes) words).0
    (runs_in bytes (and_parts (is_word_byte b) (list_all is_word_byte bytes) words).1))

pub count_in : (bytes : List ℕ) → length (tokens_in bytes) ≤ length bytes
count_in [] = omega arith
count_in (b ∷ bytes) = at (is_punct_byte b) (count_in bytes)
  where
    at : (m : Bool) → length (tokens_in bytes) ≤ length bytes → length (cond m (Punct b ∷ tokens_in bytes) (with_byte b (tokens_in bytes))) ≤ length (b ∷ bytes)
    at true h = omega arith
    at false h = let more : length (with_byte b (tokens_in bytes)) ≤ length (tokens_in bytes) + 1 = byte-count b (tokens_in bytes) in omega arith

end-step : (b : ℕ) (tokens : List Token) (m : Bool) → is_end b ≡ false → list_any (is_punct 59) tokens ≡ false → list_any (is_punct 59) (cond m (Punct b ∷ tokens) (with_byte b tokens)) ≡ false
end-step b tokens true none h = ap₂ (λ v w. v || w) none h
end-step b tokens false none h = byte-end b tokens ∙ h

pub no_end_in : (bytes : List ℕ) → list_any is_end bytes ≡ false → list_any (is_punct 59) (tokens_in bytes) ≡ false
no_end_in [] none = refl
no_end_in (b ∷ bytes) none =
    end-step b (tokens_in bytes) (is_punct_byte b) (or_parts (is_end b) (list_any is_end bytes) none).0 (no_end_in bytes (or_parts (is_end b) (list_any is_end bytes) none).1)

runs-up-to : (n m : ℕ) (tokens : List Token) → n ≤ m → AreRunsWithin n tokens → AreRunsWithin m tokens
runs-up-to n m [] le h = tt
runs-up-to n m (Name name ∷ tokens) le h = ((h.0.0, (let short : length name ≤ n = h.0.1 in omega arith), h.0.2), h.1, runs-up-to n m tokens le h.2)
runs-up-to n m (Punct b ∷ tokens) le h = runs-up-to n m tokens le h

runs-append : (n : ℕ) (xs ys : List Token) → AreRunsWithin n xs → AreRunsWithin n ys → AreRunsWithin n (xs ++ ys)
runs-append n [] ys h g = g
runs-append n (Name m ∷ xs) ys h g = (h.0, h.1, runs-append n xs ys h.2 g)
runs-append n (Punct b ∷ xs) ys h g = runs-append n xs ys h g

-- one more word of a text
pub word-kept : (tokens : List Token) (lines : List ℕ) (room line : ℕ) (bytes : List ℕ) → IsOpenText tokens lines room → IsPart bytes → list_any is_end bytes ≡ false → 1 + length bytes ≤ room
    → IsOpenText (tokens ++ tokens_in bytes) (lines ++ replicate (length (tokens_in bytes)) line) (room - (1 + length bytes))
word-kept tokens lines room line bytes h part none fits =
    let few : length (tokens_in bytes) ≤ length bytes = count_in bytes in
    let more : length (tokens ++ tokens_in bytes) ≡ length tokens + length (tokens_in bytes) = length-append tokens (tokens_in bytes) in
    let lined : length (lines ++ replicate (length (tokens_in bytes)) line) ≡ length lines + length (replicate (length (tokens_in bytes)) line) = length-append lines (replicate (length (tokens_in bytes)) line) in
    let repeated : length (replicate (length (tokens_in bytes)) line) ≡ length (tokens_in bytes) = length-replicate (length (tokens_in bytes)) line in
    let paired : length lines ≡ length tokens = h.paired in
    let limit : length tokens + room ≤ 2049 = h.few in
    record {
      paired = omega arith;
      few = omega arith;
      no_end = list_any-append (is_punct 59) tokens (tokens_in bytes) ∙ ap₂ (λ v w. v || w) h.no_end (no_end_in bytes none);
      runs = runs-append 2048 tokens (tokens_in bytes) h.runs (runs-up-to (length bytes) 2048 (tokens_in bytes) (omega arith) (runs_in bytes part.1));
    }

pub word-kept-at : (tokens new : List Token) (lines behind : List ℕ) (room line count : ℕ) (bytes : List ℕ) → IsOpenText tokens lines room → IsPart bytes → list_any is_end bytes ≡ false → 1 + length bytes ≤ room
    → new ≡ tokens ++ tokens_in bytes → behind ≡ lines ++ replicate count line → count ≡ length (tokens_in bytes) → IsOpenText new behind (room - length bytes - 1)
word-kept-at tokens new lines behind room line count bytes h part none fits news news_lines counted =
    let left : room - (1 + length bytes) ≡ room - length bytes - 1 = omega arith in
    subst (λ r. IsOpenText new behind r) left
    (subst (λ ls. IsOpenText new ls (room - (1 + length bytes))) (sym (news_lines ∙ ap (λ n. lines ++ replicate n line) counted))
    (subst (λ ss. IsOpenText ss (lines ++ replicate (length (tokens_in bytes)) line) (room - (1 + length bytes))) (sym news)
    (word-kept tokens lines room line bytes h part none fits)))

-- the lines that are wanting
pub lines-wanting : (tokens new : List Token) (lines : List ℕ) (bytes : List ℕ) (room count : ℕ) → IsOpenText tokens lines room → new ≡ tokens ++ tokens_in bytes → count ≡ length new - length lines → count ≡ length (tokens_in bytes)
lines-wanting tokens new lines bytes room count h news counted =
    let size : length new ≡ length tokens + length (tokens_in bytes) = ap length news ∙ length-append tokens (tokens_in bytes) in
    let paired : length lines ≡ length tokens = h.paired in
    omega arith

-- Words around their first `;`.

take-suc : (b : ℕ) (bytes : List ℕ) (n : ℕ) → take n bytes ≡ bytes → take (1 + n) (b ∷ bytes) ≡ b ∷ bytes
take-suc b bytes n h =
    let next : 1 + n ≡ suc n = omega arith in
    ap (λ m. take m (b ∷ bytes)) next ∙ ap (λ bs. b ∷ bs) h

any-take-suc : (b : ℕ) (bytes : List ℕ) (n : ℕ) → is_end b ≡ false → list_any is_end (take n bytes) ≡ false → list_any is_end (take (1 + n) (b ∷ bytes)) ≡ false
any-take-suc b bytes n here h =
    let next : 1 + n ≡ suc n = omega arith in
    ap (λ m. list_any is_end (take m (b ∷ bytes))) next ∙ ap₂ (λ v w. v || w) here h

pub all-take : (n : ℕ) (bytes : List ℕ) → list_all is_word_byte bytes ≡ true → list_all is_word_byte (take n bytes) ≡ true
all-take zero bytes h = refl
all-take (suc n) [] h = refl
all-take (suc n) (b ∷ bytes) h = ap₂ (λ v w. v && w) (and_parts (is_word_byte b) (list_all is_word_byte bytes) h).0 (all-take n bytes (and_parts (is_word_byte b) (list_all is_word_byte bytes) h).1)

pub before-none : (bytes : List ℕ) → list_any is_end bytes ≡ false → before_first is_end bytes ≡ bytes
before-none [] none = refl
before-none (b ∷ bytes) none = at (is_end b) (or_parts (is_end b) (list_any is_end bytes) none).0 (before-none bytes (or_parts (is_end b) (list_any is_end bytes) none).1)
  where
    at : (e : Bool) → e ≡ false → before_first is_end bytes ≡ bytes → take (cond (not e) (1 + position_or_len is_end bytes) 0) (b ∷ bytes) ≡ b ∷ bytes
    at true is h = cc
    at false is h = take-suc b bytes (position_or_len is_end bytes) h

pub before-plain : (bytes : List ℕ) → list_any is_end (before_first is_end bytes) ≡ false
before-plain [] = refl
before-plain (b ∷ bytes) = at (is_end b) refl (before-plain bytes)
  where
    at : (e : Bool) → is_end b ≡ e → list_any is_end (before_first is_end bytes) ≡ false → list_any is_end (take (cond (not e) (1 + position_or_len is_end bytes) 0) (b ∷ bytes)) ≡ false
    at true is h = refl
    at false is h = any-take-suc b bytes (position_or_len is_end bytes) is h

pub before-part : (bytes : List ℕ) → IsWord 4095 bytes → IsPart (before_first is_end bytes)
before-part bytes h = (omega (arith, length-take (position_or_len is_end bytes) bytes, h.1), all-take (position_or_len is_end bytes) bytes h.2)
