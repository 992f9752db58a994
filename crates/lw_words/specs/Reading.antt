-- What has been read of a text whose end is still to come.
use Rattle.std.specs.Prelude.{ℕ, ◌+◌, ◌≡◌, Bool, true, false, ◌&&◌, ◌==◌, List, [], ◌∷◌, ◌++◌, if◌then◌else◌}
use Rattle.std.specs.Prelude.{option_to_list, ⊤}
use Rattle.lw_words.specs.declared.place.Place.{Place}
use Rattle.lw_words.specs.declared.place.Place.TheVariants.{Start, Hash, Mark, Text, Stroke, Gap, Comment}
use Rattle.lw_words.specs.declared.place.Place.TheVariants.{ContinuedComment}
use Rattle.lw_words.specs.Lines as lines
use Rattle.lw_words.specs.Lines.{LogicalLine, is_blank, before_hash, uncommented, trimmed, text_of, is_continued}
use Rattle.lw_words.specs.Lines.{with_blank}
use Rattle.lw_words.specs.Gathering.{Gathered, nothing_gathered, mark_gathered, with_byte, ended, line_gathered}

-- A place moves over a byte that is no line feed.

abbrev pub after_ink : ℕ → Place
after_ink b = if b == 92 then Stroke else Text

abbrev pub after_text : ℕ → Place
after_text b = if b == 35 then Comment else (if is_blank b then Text else after_ink b)

abbrev pub after_stroke : ℕ → Place
after_stroke b = if b == 35 then ContinuedComment else (if is_blank b then Gap else after_ink b)

abbrev pub place_after : Place → ℕ → Place
place_after Start b = if b == 35 then Hash else after_text b
place_after Hash b = if b == 64 then Mark else Comment
place_after Mark b = if is_blank b then Text else Comment
place_after Text b = after_text b
place_after Stroke b = after_stroke b
place_after Gap b = after_stroke b
place_after Comment b = Comment
place_after ContinuedComment b = ContinuedComment

-- What is gathered then. A `\` is kept back until a byte follows that is no blank.

abbrev pub with_ink : ℕ → Gathered → Gathered
with_ink b g = if b == 92 then g else with_byte b g

abbrev pub over_text : ℕ → Gathered → Gathered
over_text b g = if b == 35 then g else (if is_blank b then ended g else with_ink b g)

-- over a byte behind a `\`: the first is what is gathered without it, the other with it
abbrev pub over_stroke : ℕ → Gathered → Gathered → Gathered
over_stroke b g flushed = if b == 35 then g else (if is_blank b then g else with_ink b flushed)

abbrev pub gathered_after : Place → ℕ → Gathered → Gathered
gathered_after Start b g = over_text b g
gathered_after Hash b g = g
gathered_after Mark b g = if is_blank b then mark_gathered else g
gathered_after Text b g = over_text b g
gathered_after Stroke b g = over_stroke b g (with_byte 92 g)
gathered_after Gap b g = over_stroke b g (ended (with_byte 92 g))
gathered_after Comment b g = g
gathered_after ContinuedComment b g = g

abbrev pub IsComment : Place → Type 0
IsComment Comment = ⊤
IsComment ContinuedComment = ⊤
IsComment other = ⊥

-- At the end of a physical line.

abbrev pub goes_on : Place → Bool
goes_on Stroke = true
goes_on Gap = true
goes_on ContinuedComment = true
goes_on other = false

abbrev pub gathered_at_end : Place → Gathered → Gathered
gathered_at_end Mark g = mark_gathered
gathered_at_end other g = ended g

-- where a logical line begins
abbrev pub first_place : Bool → Place
first_place marked = if marked then Start else Text

-- What the definition has behind some bytes.

pub record Unfinished : Type 0 where
  -- the texts of the logical lines that ended
  pub done : List lines.Text
  -- no physical line of this logical line ended
  pub begins : Bool
  -- the physical line with which the logical line begins
  pub number : ℕ
  -- the physical line
  pub at : ℕ
  -- the text of the physical lines of the logical line that ended
  pub text : List ℕ
  -- the physical line so far
  pub line : List ℕ

abbrev pub at_start : Unfinished
at_start = record { done = []; begins = true; number = 1; at = 1; text = []; line = [] }

-- the physical line ends with this text
abbrev pub line_ended : Unfinished → List ℕ → Unfinished
line_ended u text =
    if is_continued text then record {
      done = u.done;
      begins = false;
      number = u.number;
      at = u.at + 1;
      text = u.text ++ with_blank text;
      line = [];
    }
    else record {
      done = u.done ++ record { number = u.number; bytes = u.text ++ text } ∷ [];
      begins = true;
      number = u.at + 1;
      at = u.at + 1;
      text = [];
      line = [];
    }

abbrev pub behind_byte : Bool → Unfinished → ℕ → Unfinished
behind_byte marked u b =
    if b == 10 then line_ended u (text_of (marked && u.begins) u.line)
    else record {
      done = u.done;
      begins = u.begins;
      number = u.number;
      at = u.at;
      text = u.text;
      line = u.line ++ b ∷ [];
    }

abbrev pub behind_bytes : Bool → Unfinished → List ℕ → Unfinished
behind_bytes marked u [] = u
behind_bytes marked u (b ∷ bytes) = behind_bytes marked (behind_byte marked u b) bytes

unfoldable pub unfinished : Bool → List ℕ → Unfinished
unfinished marked bytes = behind_bytes marked at_start bytes

-- What is gathered stands for the text.

abbrev pub over_byte : Gathered → ℕ → Gathered
over_byte g b = if is_blank b then ended g else with_byte b g

abbrev pub over_bytes : Gathered → List ℕ → Gathered
over_bytes g [] = g
over_bytes g (b ∷ bytes) = over_bytes (over_byte g b) bytes

-- these bytes are gathered
abbrev pub gathered_from : List ℕ → Gathered
gathered_from bytes = over_bytes nothing_gathered bytes

-- no `\` ends the bytes of the physical line that are kept
pub record IsPlain (text kept : List ℕ) (g : Gathered) : Type 0 where
  pub ends : is_continued (trimmed kept) ≡ false
  pub bytes : gathered_from (text ++ kept) ≡ g

-- A `\` ends them. All is gathered but that `\`; with it, this other would be.
pub record IsBehindStroke (text kept : List ℕ) (g flushed : Gathered) : Type 0 where
  pub ends : is_continued (trimmed kept) ≡ true
  pub bytes : gathered_from (text ++ kept) ≡ flushed
  pub before : gathered_from (text ++ with_blank (trimmed kept)) ≡ ended g

pub record IsContinued (text kept : List ℕ) (g : Gathered) : Type 0 where
  pub ends : is_continued (trimmed kept) ≡ true
  pub before : gathered_from (text ++ with_blank (trimmed kept)) ≡ ended g

-- a logical line begins, and it has only these bytes
pub record IsFirst (counts : Bool) (u : Unfinished) (bytes : List ℕ) (g : Gathered) : Type 0 where
  pub counted : counts ≡ true
  pub no_text : u.text ≡ []
  pub only : u.line ≡ bytes
  pub nothing : g ≡ nothing_gathered

-- no comment has begun
pub record HasNoComment (counts : Bool) (line : List ℕ) : Type 0 where
  pub more : (more : List ℕ) → uncommented counts (line ++ more) ≡ line ++ before_hash more

-- a comment has begun
pub record HasComment (counts : Bool) (line : List ℕ) : Type 0 where
  pub more : (more : List ℕ) → uncommented counts (line ++ more) ≡ uncommented counts line

-- what a place and what is gathered say of the line
abbrev pub Fits : Bool → Unfinished → Place → Gathered → Type 0
Fits counts u Start g = IsFirst counts u [] g
Fits counts u Hash g = IsFirst counts u (35 ∷ []) g
Fits counts u Mark g = IsFirst counts u (35 ∷ 64 ∷ []) g
Fits counts u Text g = HasNoComment counts u.line × IsPlain u.text u.line g
Fits counts u Stroke g = HasNoComment counts u.line × IsBehindStroke u.text u.line g (with_byte 92 g)
Fits counts u Gap g = HasNoComment counts u.line × IsBehindStroke u.text u.line g (ended (with_byte 92 g))
Fits counts u Comment g = HasComment counts u.line × IsPlain u.text (uncommented counts u.line) g
Fits counts u ContinuedComment g = HasComment counts u.line × IsContinued u.text (uncommented counts u.line) g

-- what is kept of an unfinished line
pub record IsReading (marked : Bool) (u : Unfinished) (number at : ℕ) (place : Place) (g : Gathered) : Type 0 where
  pub same_number : number ≡ u.number
  pub same_at : at ≡ u.at
  pub fits : Fits (marked && u.begins) u place g

-- Over any byte.

abbrev pub next_place : Bool → Place → ℕ → Place
next_place marked place b =
    if b == 10 then (if goes_on place then Text else first_place marked) else place_after place b

abbrev pub next_gathered : Place → ℕ → Gathered → Gathered
next_gathered place b g =
    if b == 10 then (if goes_on place then gathered_at_end place g else nothing_gathered) else gathered_after place b g

abbrev pub next_number : Place → ℕ → ℕ → ℕ → ℕ
next_number place b at number = if b == 10 then (if goes_on place then number else at + 1) else number

abbrev pub next_at : ℕ → ℕ → ℕ
next_at b at = if b == 10 then at + 1 else at

-- the line that ends
abbrev pub ended_lines : ℕ → Place → Gathered → List LogicalLine
ended_lines number place g = option_to_list (line_gathered number (gathered_at_end place g))

abbrev pub next_lines : Place → ℕ → ℕ → Gathered → List LogicalLine
next_lines place b number g = if b == 10 then (if goes_on place then [] else ended_lines number place g) else []
