-- The logical lines of a whole text.
use Rattle.std.specs.Prelude.{ℕ, ◌+◌, Bool, true, false, not, ◌&&◌, ◌||◌, ◌==◌, nat_lt, List, [], ◌∷◌, ◌++◌, length}
use Rattle.std.specs.Prelude.{map, take, drop, if◌then◌else◌, filter}
use Rattle.std.specs.List.{slice_split, list_any}
use Rattle.lw_words.specs.Limits.{longest_word}

-- a logical line: its words are cut to 4,095 bytes each
pub record LogicalLine : Type 0 where
  -- the number of its first physical line, from 1
  pub number : ℕ
  -- some word was longer
  pub long : Bool
  pub words : List (List ℕ)

-- Bytes.

-- a space, a tab, a carriage return or a form feed
abbrev pub is_blank : ℕ → Bool
is_blank b = b == 32 || b == 9 || b == 13 || b == 12

abbrev pub is_line_feed : ℕ → Bool
is_line_feed b = b == 10

-- the list is not empty
abbrev pub has_some : {A : Type 0} → List A → Bool
has_some [] = false
has_some (x ∷ xs) = true

-- Physical lines.

-- All parts but the last. Where the text ends here, the last one too, if it is not empty.
abbrev pub lines_among : Bool → List (List ℕ) → List (List ℕ)
lines_among ends [] = []
lines_among ends (part ∷ []) = if ends && has_some part then part ∷ [] else []
lines_among ends (part ∷ next ∷ parts) = part ∷ lines_among ends (next ∷ parts)

abbrev pub physical_lines : Bool → List ℕ → List (List ℕ)
physical_lines ends bytes = lines_among ends (slice_split is_line_feed bytes)

-- The text of a physical line.

abbrev pub before_hash : List ℕ → List ℕ
before_hash [] = []
before_hash (b ∷ bytes) = if b == 35 then [] else b ∷ before_hash bytes

abbrev pub is_cut : List ℕ → Bool
is_cut [] = true
is_cut (b ∷ bytes) = is_blank b

-- `#@`, and then a blank or nothing
abbrev pub has_mark : List ℕ → Bool
has_mark (hash ∷ sign ∷ rest) = hash == 35 && sign == 64 && is_cut rest
has_mark line = false

-- The line without its comment. At a mark, where marks count, a later `#` begins it.
abbrev pub uncommented : Bool → List ℕ → List ℕ
uncommented counts line = if counts && has_mark line then 35 ∷ before_hash (drop 1 line) else before_hash line

abbrev pub before_trimmed : ℕ → List ℕ → List ℕ
before_trimmed b [] = if is_blank b then [] else b ∷ []
before_trimmed b (next ∷ rest) = b ∷ next ∷ rest

-- the bytes without the blanks at their end
abbrev pub trimmed : List ℕ → List ℕ
trimmed [] = []
trimmed (b ∷ bytes) = before_trimmed b (trimmed bytes)

-- the last byte is `\`
abbrev pub is_continued : List ℕ → Bool
is_continued [] = false
is_continued (b ∷ []) = b == 92
is_continued (b ∷ next ∷ bytes) = is_continued (next ∷ bytes)

-- the bytes with a blank in place of the last
abbrev pub with_blank : List ℕ → List ℕ
with_blank [] = []
with_blank (b ∷ []) = 32 ∷ []
with_blank (b ∷ next ∷ bytes) = b ∷ with_blank (next ∷ bytes)

-- Logical lines.

-- what a logical line says, and the number of its first physical line
pub record Text : Type 0 where
  pub number : ℕ
  pub bytes : List ℕ

-- These bytes before the first of the texts that follow, which continues them. Where the text ends here, nothing need
-- follow.
abbrev pub continued_by : Bool → ℕ → List ℕ → List Text → List Text
continued_by ends number bytes [] = if ends then record { number = number; bytes = bytes } ∷ [] else []
continued_by ends number bytes (next ∷ texts) = record { number = number; bytes = bytes ++ next.bytes } ∷ texts

-- a physical line with this text and number, before the texts that follow
abbrev pub text_before : Bool → ℕ → List ℕ → List Text → List Text
text_before ends number text others =
    if is_continued text then continued_by ends number (with_blank text) others
    else record { number = number; bytes = text } ∷ others

abbrev pub text_of : Bool → List ℕ → List ℕ
text_of counts line = trimmed (uncommented counts line)

-- The texts of physical lines, of which the first has this number. The third argument says whether it begins a logical
-- line.
abbrev pub texts_from : Bool → Bool → Bool → ℕ → List (List ℕ) → List Text
texts_from ends marked begins number [] = []
texts_from ends marked begins number (line ∷ lines) =
    text_before ends number (text_of (marked && begins) line)
    (texts_from ends marked (not (is_continued (text_of (marked && begins) line))) (number + 1) lines)

abbrev pub is_long : List ℕ → Bool
is_long word = nat_lt longest_word (length word)

abbrev pub words_of : List ℕ → List (List ℕ)
words_of bytes = filter has_some (slice_split is_blank bytes)

abbrev pub line_of : Text → LogicalLine
line_of text = record {
  number = text.number;
  long = list_any is_long (words_of text.bytes);
  words = map (take longest_word) (words_of text.bytes);
}

abbrev pub has_words : LogicalLine → Bool
has_words line = has_some line.words

abbrev pub lines_of : List Text → List LogicalLine
lines_of texts = filter has_words (map line_of texts)

-- The logical lines of a whole text. In the marked reading a `#@` that begins a line is kept.
unfoldable pub logical_lines : Bool → List ℕ → List LogicalLine
logical_lines marked bytes = lines_of (texts_from true marked true 1 (physical_lines true bytes))

-- Of the first bytes of a text, the logical lines that end at a line feed, so that no further bytes change them.
unfoldable pub finished_lines : Bool → List ℕ → List LogicalLine
finished_lines marked bytes = lines_of (texts_from false marked true 1 (physical_lines false bytes))

-- How much there is.

-- the bytes of words, and their number
abbrev pub weight : List (List ℕ) → ℕ
weight [] = 0
weight (word ∷ words) = length word + 1 + weight words

abbrev pub lines_weight : List LogicalLine → ℕ
lines_weight [] = 0
lines_weight (line ∷ lines) = weight line.words + lines_weight lines
