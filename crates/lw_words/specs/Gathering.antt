-- The words of a logical line, byte by byte.
use Rattle.std.specs.Prelude.{ℕ, ◌+◌, ◌≢◌, ◌≡◌, ◌<◌, ◌≤◌, Bool, true, false, nat_lt, List, [], ◌∷◌, ◌++◌, length, drop}
use Rattle.std.specs.Prelude.{if◌then◌else◌, All, Option, Some, None}
use Rattle.std.specs.Str.{bytes_eq}
use Rattle.lw_words.specs.Lines.{LogicalLine, is_blank, has_some}
use Rattle.lw_words.specs.Arenas.{words_at, last_end, AreEnds}
use Rattle.lw_words.specs.Limits.{longest_word}

-- the words so far, and the word that is not ended yet, each cut to 4,095 bytes
pub record Gathered : Type 0 where
  pub words : List (List ℕ)
  pub last : List ℕ
  pub long : Bool

abbrev pub nothing_gathered : Gathered
nothing_gathered = record { words = []; last = []; long = false }

abbrev pub mark_gathered : Gathered
mark_gathered = record { words = (35 ∷ 64 ∷ []) ∷ []; last = []; long = false }

-- one more byte of the word
abbrev pub with_byte : ℕ → Gathered → Gathered
with_byte b g =
    if nat_lt (length g.last) longest_word then record { words = g.words; last = g.last ++ b ∷ []; long = g.long }
    else record { words = g.words; last = g.last; long = true }

-- more bytes of the word
abbrev pub with_bytes : List ℕ → Gathered → Gathered
with_bytes [] g = g
with_bytes (b ∷ bytes) g = with_bytes bytes (with_byte b g)

-- the word ends, if there is one
abbrev pub ended : Gathered → Gathered
ended g =
    if has_some g.last then record { words = g.words ++ g.last ∷ []; last = []; long = g.long } else g

-- the line of these words, if there are some
abbrev pub line_gathered : ℕ → Gathered → Option LogicalLine
line_gathered number g =
    if has_some g.words then Some (record { number = number; long = g.long; words = g.words }) else None

-- What the words of a line are.

abbrev pub IsInk : ℕ → Type 0
IsInk b = (is_blank b ≡ false) × (b ≢ 10)

abbrev pub IsNoHash : ℕ → Type 0
IsNoHash b = b ≢ 35

-- a blank, or a byte of a word that cannot end a line
abbrev pub IsPlainByte : ℕ → Type 0
IsPlainByte b = (b ≢ 10) × IsNoHash b × (b ≢ 92)

-- a word has 1 to 4,095 bytes, and among them no blank and no line feed
pub record IsWord (word : List ℕ) : Type 0 where
  pub some : 0 < length word
  pub few : length word ≤ longest_word
  pub ink : All IsInk word

-- the words without a first word `#@`
abbrev pub without_mark : List (List ℕ) → List (List ℕ)
without_mark [] = []
without_mark (word ∷ words) = if bytes_eq word (35 ∷ 64 ∷ []) then words else word ∷ words

-- `#` stands in no word but a first word `#@`
abbrev pub HasNoHash : List (List ℕ) → Type 0
HasNoHash words = All (All IsNoHash) (without_mark words)

pub record IsLine (words : List (List ℕ)) : Type 0 where
  pub some : 0 < length words
  pub are_words : All IsWord words
  pub no_hash : HasNoHash words

pub record IsGathered (g : Gathered) : Type 0 where
  pub are_words : All IsWord g.words
  pub no_hash : HasNoHash g.words
  pub few : length g.last ≤ longest_word
  pub ink : All IsInk g.last
  pub plain : All IsNoHash g.last
  pub cut : g.long ≡ true → 0 < length g.words + length g.last

-- bytes and the ends of words in them, such that this is so
pub record IsKept (bytes ends : List ℕ) (start : ℕ) (long : Bool) : Type 0 where
  pub are_ends : AreEnds 0 (length bytes) ends
  pub is_start : start ≡ last_end 0 ends
  pub within : start ≤ length bytes
  pub gathered : IsGathered (record { words = words_at 0 bytes ends; last = drop start bytes; long = long })
