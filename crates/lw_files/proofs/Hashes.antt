-- The lines of an unmarked reading hold no `#`.
use Rattle.std.proofs.Common.{◌≡◌, ℕ, ◌+◌, ◌==◌, Bool, true, false, not, cond, List, [], ◌∷◌, ◌++◌, map, take, All, refl, arith}
use Rattle.std.specs.List.{AllByRecursion, slice_split, onto_first}
use Rattle.std.proofs.lemmas.Bool.{eqb-false}
use Rattle.std.proofs.lemmas.List.Elements.{All-from_recursion, All-map, All-filter, All-take}
use Rattle.lw_words.specs.Gathering.{IsNoHash}
use Rattle.lw_words.specs.Lines.{Text, is_blank, has_some, before_hash, before_trimmed, trimmed, is_continued, with_blank, continued_by, text_before, text_of, texts_from, words_of, line_of, has_words, lines_of, physical_lines, logical_lines}
use Rattle.lw_genlib.specs.Standing.{HasNoHash}

-- the bytes hold no `#`
abbrev IsPlain : List ℕ → Type 0
IsPlain bytes = AllByRecursion IsNoHash bytes

abbrev ArePlain : List Text → Type 0
ArePlain texts = AllByRecursion (λ (t : Text). IsPlain t.bytes) texts

-- Bytes of a physical line

before-plain : (bytes : List ℕ) → IsPlain (before_hash bytes)
before-plain [] = tt
before-plain (b ∷ bytes) = by (b == 35) refl (before-plain bytes)
  where
    by : (t : Bool) → (b == 35) ≡ t → IsPlain (before_hash bytes) → IsPlain (cond t [] (b ∷ before_hash bytes))
    by true is rest = tt
    by false is rest = (eqb-false b 35 is, rest)

before_trimmed-plain : (b : ℕ) (rest : List ℕ) → IsNoHash b → IsPlain rest → IsPlain (before_trimmed b rest)
before_trimmed-plain b [] h rest = by (is_blank b)
  where
    by : (t : Bool) → IsPlain (cond t [] (b ∷ []))
    by true = tt
    by false = (h, tt)
before_trimmed-plain b (next ∷ bytes) h rest = (h, rest)

trimmed-plain : (bytes : List ℕ) → IsPlain bytes → IsPlain (trimmed bytes)
trimmed-plain [] h = tt
trimmed-plain (b ∷ bytes) h = before_trimmed-plain b (trimmed bytes) h.0 (trimmed-plain bytes h.1)

text-plain : (line : List ℕ) → IsPlain (text_of false line)
text-plain line = trimmed-plain (before_hash line) (before-plain line)

blank-plain : (bytes : List ℕ) → IsPlain bytes → IsPlain (with_blank bytes)
blank-plain [] h = tt
blank-plain (b ∷ []) h = ((λ e. absurd (omega (arith, e))), tt)
blank-plain (b ∷ next ∷ bytes) h = (h.0, blank-plain (next ∷ bytes) h.1)

both-plain : (xs ys : List ℕ) → IsPlain xs → IsPlain ys → IsPlain (xs ++ ys)
both-plain [] ys h k = k
both-plain (x ∷ xs) ys h k = (h.0, both-plain xs ys h.1 k)

-- Texts of logical lines

continued-plain : (ends : Bool) (number : ℕ) (bytes : List ℕ) (texts : List Text) → IsPlain bytes → ArePlain texts → ArePlain (continued_by ends number bytes texts)
continued-plain true number bytes [] h all = (h, tt)
continued-plain false number bytes [] h all = tt
continued-plain ends number bytes (next ∷ texts) h all = (both-plain bytes next.bytes h all.0, all.1)

before-texts : (ends : Bool) (number : ℕ) (text : List ℕ) (others : List Text) → IsPlain text → ArePlain others → ArePlain (text_before ends number text others)
before-texts ends number text others h all = by (is_continued text)
  where
    by : (t : Bool) → ArePlain (cond t (continued_by ends number (with_blank text) others) (record { number = number; bytes = text } ∷ others))
    by true = continued-plain ends number (with_blank text) others (blank-plain text h) all
    by false = (h, all)

texts-plain : (ends begins : Bool) (number : ℕ) (lines : List (List ℕ)) → ArePlain (texts_from ends false begins number lines)
texts-plain ends begins number [] = tt
texts-plain ends begins number (line ∷ lines) =
    before-texts ends number (text_of false line) (texts_from ends false (not (is_continued (text_of false line))) (number + 1) lines) (text-plain line)
    (texts-plain ends (not (is_continued (text_of false line))) (number + 1) lines)

-- Words

split-plain : (p : ℕ → Bool) (bytes : List ℕ) → IsPlain bytes → AllByRecursion IsPlain (slice_split p bytes)
split-plain p [] h = (tt, tt)
split-plain p (b ∷ bytes) h = by (p b) (slice_split p bytes) (split-plain p bytes h.1)
  where
    by : (t : Bool) (parts : List (List ℕ)) → AllByRecursion IsPlain parts → AllByRecursion IsPlain (cond t ([] ∷ parts) (onto_first b parts))
    by true parts all = (tt, all)
    by false [] all = ((h.0, tt), tt)
    by false (part ∷ parts) all = ((h.0, all.0), all.1)

all-words : (words : List (List ℕ)) → AllByRecursion IsPlain words → AllByRecursion (All IsNoHash) words
all-words [] h = tt
all-words (word ∷ words) h = (All-from_recursion IsNoHash word h.0, all-words words h.1)

line-plain : (text : Text) → IsPlain text.bytes → HasNoHash (line_of text)
line-plain text h =
    All-map (All IsNoHash) (take 4095) (words_of text.bytes) (take-words (words_of text.bytes)
    (All-filter has_some (All IsNoHash) (slice_split is_blank text.bytes) (All-from_recursion (All IsNoHash) (slice_split is_blank text.bytes) (all-words (slice_split is_blank text.bytes) (split-plain is_blank text.bytes h)))))
  where
    take-words : (words : List (List ℕ)) → All (All IsNoHash) words → All (λ word. All IsNoHash (take 4095 word)) words
    take-words words all = λ k d lt. All-take IsNoHash 4095 _ (all k d lt)

lines-plain : (texts : List Text) → ArePlain texts → All HasNoHash (lines_of texts)
lines-plain texts h =
    All-filter has_words HasNoHash (map line_of texts) (All-map HasNoHash line_of texts (All-from_recursion (λ (t : Text). HasNoHash (line_of t)) texts (each texts h)))
  where
    each : (ts : List Text) → ArePlain ts → AllByRecursion (λ (t : Text). HasNoHash (line_of t)) ts
    each [] h = tt
    each (t ∷ ts) h = (line-plain t h.0, each ts h.1)

pub logical-plain : (bytes : List ℕ) → All HasNoHash (logical_lines false bytes)
unfolding logical_lines
logical-plain bytes = lines-plain (texts_from true false true 1 (physical_lines true bytes)) (texts-plain true true 1 (physical_lines true bytes))
