-- The words of the lines of a text are words.
use Rattle.std.proofs.Common.{◌≡◌, ℕ, zero, suc, ◌+◌, ◌==◌, Bool, true, false, not, ◌&&◌, ◌||◌, cond, List, [], ◌∷◌, ◌++◌, map, take, filter, All, refl, arith}
use Rattle.std.specs.List.{AllByRecursion, list_all, slice_split, onto_first}
use Rattle.std.proofs.lemmas.List.{length-take}
use Rattle.std.proofs.lemmas.List.Elements.{All-from_recursion}
use Rattle.lw_words.specs.Lines.{LogicalLine, Text, is_blank, is_line_feed, has_some, lines_among, physical_lines, before_hash, before_trimmed, trimmed, is_continued, with_blank, continued_by, text_before, text_of, texts_from, line_of, has_words, lines_of, logical_lines}
use Rattle.lw_genlib.specs.Cells.{IsWord, is_word_byte}
use Rattle.lw_mapped.proofs.TextWords.{any-bytes}
use Rattle.lw_files.specs.Sources.{lines_in}

-- no line feed, and no `#`
abbrev IsTextByte : ℕ → Type 0
IsTextByte b = ((b == 35) ≡ false) × (is_line_feed b ≡ false)

abbrev IsLine : List ℕ → Type 0
IsLine bytes = AllByRecursion (λ b. (is_line_feed b ≡ false) × Unit {0}) bytes

abbrev IsText : List ℕ → Type 0
IsText bytes = AllByRecursion IsTextByte bytes

abbrev AreTexts : List Text → Type 0
AreTexts texts = AllByRecursion (λ (t : Text). IsText t.bytes) texts

-- Parts

split-parts : (p : ℕ → Bool) (Q : ℕ → Type 0) (bytes : List ℕ) → AllByRecursion Q bytes → AllByRecursion (λ part. AllByRecursion (λ b. (p b ≡ false) × Q b) part) (slice_split p bytes)
split-parts p Q [] h = (tt, tt)
split-parts p Q (b ∷ bytes) h = by (p b) refl (slice_split p bytes) (split-parts p Q bytes h.1)
  where
    by : (t : Bool) → p b ≡ t → (parts : List (List ℕ)) → AllByRecursion (λ part. AllByRecursion (λ b. (p b ≡ false) × Q b) part) parts → AllByRecursion (λ part. AllByRecursion (λ b. (p b ≡ false) × Q b) part) (cond t ([] ∷ parts) (onto_first b parts))
    by true e parts all = (tt, all)
    by false e [] all = (((e, h.0), tt), tt)
    by false e (part ∷ parts) all = (((e, h.0), all.0), all.1)

among : (ends : Bool) (parts : List (List ℕ)) → AllByRecursion IsLine parts → AllByRecursion IsLine (lines_among ends parts)
among ends [] all = tt
among ends (part ∷ []) all = by (ends && has_some part)
  where
    by : (t : Bool) → AllByRecursion IsLine (cond t (part ∷ []) [])
    by true = (all.0, tt)
    by false = tt
among ends (part ∷ next ∷ parts) all = (all.0, among ends (next ∷ parts) all.1)

physical : (bytes : List ℕ) → AllByRecursion IsLine (physical_lines true bytes)
physical bytes = among true (slice_split is_line_feed bytes) (split-parts is_line_feed (λ b. Unit {0}) bytes (any-bytes bytes))

-- Texts

before-text : (bytes : List ℕ) → IsLine bytes → IsText (before_hash bytes)
before-text [] h = tt
before-text (b ∷ bytes) h = by (b == 35) refl (before-text bytes h.1)
  where
    by : (t : Bool) → (b == 35) ≡ t → IsText (before_hash bytes) → IsText (cond t [] (b ∷ before_hash bytes))
    by true is rest = tt
    by false is rest = ((is, h.0.0), rest)

before_trimmed-text : (b : ℕ) (rest : List ℕ) → IsTextByte b → IsText rest → IsText (before_trimmed b rest)
before_trimmed-text b [] h rest = by (is_blank b)
  where
    by : (t : Bool) → IsText (cond t [] (b ∷ []))
    by true = tt
    by false = (h, tt)
before_trimmed-text b (next ∷ bytes) h rest = (h, rest)

trimmed-text : (bytes : List ℕ) → IsText bytes → IsText (trimmed bytes)
trimmed-text [] h = tt
trimmed-text (b ∷ bytes) h = before_trimmed-text b (trimmed bytes) h.0 (trimmed-text bytes h.1)

line-text : (line : List ℕ) → IsLine line → IsText (text_of false line)
line-text line h = trimmed-text (before_hash line) (before-text line h)

blank-text : (bytes : List ℕ) → IsText bytes → IsText (with_blank bytes)
blank-text [] h = tt
blank-text (b ∷ []) h = ((refl, refl), tt)
blank-text (b ∷ next ∷ bytes) h = (h.0, blank-text (next ∷ bytes) h.1)

both-text : (xs ys : List ℕ) → IsText xs → IsText ys → IsText (xs ++ ys)
both-text [] ys h k = k
both-text (x ∷ xs) ys h k = (h.0, both-text xs ys h.1 k)

continued-text : (number : ℕ) (bytes : List ℕ) (texts : List Text) → IsText bytes → AreTexts texts → AreTexts (continued_by true number bytes texts)
continued-text number bytes [] h all = (h, tt)
continued-text number bytes (next ∷ texts) h all = (both-text bytes next.bytes h all.0, all.1)

before-texts : (number : ℕ) (text : List ℕ) (others : List Text) → IsText text → AreTexts others → AreTexts (text_before true number text others)
before-texts number text others h all = by (is_continued text)
  where
    by : (t : Bool) → AreTexts (cond t (continued_by true number (with_blank text) others) (record { number = number; bytes = text } ∷ others))
    by true = continued-text number (with_blank text) others (blank-text text h) all
    by false = (h, all)

texts-text : (begins : Bool) (number : ℕ) (lines : List (List ℕ)) → AllByRecursion IsLine lines → AreTexts (texts_from true false begins number lines)
texts-text begins number [] all = tt
texts-text begins number (line ∷ lines) all =
    before-texts number (text_of false line) (texts_from true false (not (is_continued (text_of false line))) (number + 1) lines) (line-text line all.0)
    (texts-text (not (is_continued (text_of false line))) (number + 1) lines all.1)

-- Words

abbrev IsInked : List ℕ → Type 0
IsInked word = AllByRecursion (λ b. (is_blank b ≡ false) × IsTextByte b) word

none-of : (a b c d e f : Bool) → (a || b || c || d) ≡ false → e ≡ false → f ≡ false → not (a || b || c || d || e || f) ≡ true
none-of false false false false false false x y z = refl
none-of false false false false false true x y z = cc
none-of false false false false true f x y z = cc
none-of false false false true e f x y z = cc
none-of false false true d e f x y z = cc
none-of false true c d e f x y z = cc
none-of true b c d e f x y z = cc

inked : (word : List ℕ) → IsInked word → list_all is_word_byte word ≡ true
inked [] h = refl
inked (b ∷ word) h = both (is_word_byte b) (none-of (b == 32) (b == 9) (b == 13) (b == 12) (b == 10) (b == 35) h.0.0 h.0.1.1 h.0.1.0) (inked word h.1)
  where
    both : (t : Bool) → t ≡ true → list_all is_word_byte word ≡ true → (t && list_all is_word_byte word) ≡ true
    both true e rest = rest
    both false e rest = cc

taken : (n : ℕ) (word : List ℕ) → IsInked word → IsInked (take n word)
taken zero word h = tt
taken (suc n) [] h = tt
taken (suc n) (b ∷ word) h = (h.0, taken n word h.1)

cut-word : (word : List ℕ) → IsInked word → has_some word ≡ true → IsWord 4095 (take 4095 word)
cut-word [] h some = cc
cut-word (b ∷ word) h some = let long = length-take 4095 (b ∷ word) in (omega arith, omega arith, inked (take 4095 (b ∷ word)) (taken 4095 (b ∷ word) h))

cut-words : (parts : List (List ℕ)) → AllByRecursion IsInked parts → AllByRecursion (IsWord 4095) (map (take 4095) (filter has_some parts))
cut-words [] all = tt
cut-words (part ∷ parts) all = by (has_some part) refl (cut-words parts all.1)
  where
    by : (t : Bool) → has_some part ≡ t → AllByRecursion (IsWord 4095) (map (take 4095) (filter has_some parts)) → AllByRecursion (IsWord 4095) (map (take 4095) (cond t (part ∷ filter has_some parts) (filter has_some parts)))
    by true some rest = (cut-word part all.0 some, rest)
    by false some rest = rest

line-words : (text : Text) → IsText text.bytes → All (IsWord 4095) (line_of text).words
line-words text h = All-from_recursion (IsWord 4095) (line_of text).words (cut-words (slice_split is_blank text.bytes) (split-parts is_blank IsTextByte text.bytes h))

abbrev HasWords : LogicalLine → Type 0
HasWords line = All (IsWord 4095) line.words

lines-words : (texts : List Text) → AreTexts texts → AllByRecursion HasWords (lines_of texts)
lines-words [] all = tt
lines-words (text ∷ texts) all = by (has_words (line_of text)) (lines-words texts all.1)
  where
    by : (t : Bool) → AllByRecursion HasWords (lines_of texts) → AllByRecursion HasWords (cond t (line_of text ∷ lines_of texts) (lines_of texts))
    by true rest = (line-words text all.0, rest)
    by false rest = rest

pub lines_have_words : (bytes : List ℕ) → All HasWords (lines_in bytes)
unfolding logical_lines
lines_have_words bytes = All-from_recursion HasWords (lines_in bytes) (lines-words (texts_from true false true 1 (physical_lines true bytes)) (texts-text true 1 (physical_lines true bytes) (physical bytes)))
