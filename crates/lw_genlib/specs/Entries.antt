-- The entries of a library, word by word.
use Rattle.std.specs.Prelude.{ℕ, ◌-◌, ◌+◌, max, Bool, false, ◌&&◌, ◌||◌, ◌==◌, nat_lt, nat_le, List, [], ◌∷◌, ◌++◌}
use Rattle.std.specs.Prelude.{length, take, drop, replicate, Option, Some, None, Result, Ok, Err, slice_index}
use Rattle.std.specs.Prelude.{if◌then◌else◌, codes}
use Rattle.std.specs.List.{list_any, before_first, after_first, position, slice_set}
use Rattle.std.specs.Str.{bytes_eq}
use Rattle.std.specs.Char.{is_ascii_digit}
use Rattle.lw_fixed.specs.declared.micro.Micro.{Micro}
use Rattle.lw_fixed.specs.declared.fault.DecimalFault.{DecimalFault}
use Rattle.lw_fixed.specs.Decimals.{given_units, decimal_of}
use Rattle.lw_genlib.specs.Cells.{function_room}
use Rattle.lw_genlib.specs.declared.token.Token.{Token}
use Rattle.lw_genlib.specs.declared.token.Token.TheVariants.{Punct}
use Rattle.lw_genlib.specs.declared.fault.LibKind.{LibKind}
use Rattle.lw_genlib.specs.declared.fault.LibKind.TheVariants.{Expected, PinUnknown, PhaseWord, Decimal, LimitText}
use Rattle.lw_genlib.specs.declared.fault.LibKind.TheVariants.{LongWord}
use Rattle.lw_genlib.specs.declared.fault.LibFault.{LibFault}
use Rattle.lw_genlib.specs.declared.fault.LibFault.TheVariants.{Line}
use Rattle.lw_genlib.specs.declared.pin.Field.{Field}
use Rattle.lw_genlib.specs.declared.pin.Field.TheVariants.{Phase, Load, MostLoad, Rise, RiseUnused, Fall, FallUnused}
use Rattle.lw_genlib.specs.declared.pin.Target.{Target}
use Rattle.lw_genlib.specs.declared.pin.Target.TheVariants.{Every, One}
use Rattle.lw_genlib.specs.Functions.{tokens_in, first_fault, pins_in}
use Rattle.lw_genlib.specs.Streams.{StreamItem, word_on, long_line, text_end, Reading, done, broken, cut_short}
use Rattle.lw_genlib.specs.Streams.{and_then, with_rest, word_by}

-- Single words.

abbrev pub is_quote_alone : List ℕ → Bool
is_quote_alone bytes = bytes_eq bytes (codes "\"") || bytes_eq bytes (codes "\"\"")

abbrev pub is_quoted : List ℕ → Bool
is_quoted bytes = nat_le 3 (length bytes) && slice_index bytes 0 == 34 && slice_index bytes (length bytes - 1) == 34

-- a cell's name, without its quotes
abbrev pub cell_name : List ℕ → Result (List ℕ) LibKind
cell_name bytes =
    if is_quote_alone bytes then Err Expected
    else Ok (if is_quoted bytes then take (length bytes - 2) (drop 1 bytes) else bytes)

abbrev pub in_library : Result Micro DecimalFault → Result Micro LibKind
in_library (Ok number) = Ok number
in_library (Err fault) = Err (Decimal fault)

-- a number below a million
abbrev pub number_of : List ℕ → Result Micro LibKind
number_of bytes = in_library (decimal_of bytes given_units)

-- a word that is not used begins like a number
abbrev pub is_like_number : List ℕ → Bool
is_like_number [] = false
is_like_number (b ∷ bytes) = is_ascii_digit b || b == 43 || b == 45 || b == 46

abbrev pub is_phase : List ℕ → Bool
is_phase bytes = list_any (bytes_eq bytes) (codes "INV" ∷ codes "NONINV" ∷ codes "UNKNOWN" ∷ [])

-- Functions.

abbrev pub is_end : ℕ → Bool
is_end b = b == 59

-- The tokens of a function so far, the line of each, and how many bytes there is room for. A blank is counted before
-- each word.
pub record FunctionText : Type 0 where
  pub tokens : List Token
  pub lines : List ℕ
  pub room : ℕ

-- no words
abbrev pub no_text : FunctionText
no_text = record { tokens = []; lines = []; room = function_room }

-- one more word, or a part of one
abbrev pub with_word : FunctionText → ℕ → List ℕ → FunctionText
with_word text line bytes = record {
  tokens = text.tokens ++ tokens_in bytes;
  lines = text.lines ++ replicate (length (tokens_in bytes)) line;
  room = text.room - (1 + length bytes);
}

-- the `;`
abbrev pub with_end : FunctionText → ℕ → FunctionText
with_end text line = record { tokens = text.tokens ++ Punct 59 ∷ []; lines = text.lines ++ line ∷ []; room = text.room }

-- what is left of a word, if any byte is, is a word of its own
abbrev pub left_over : ℕ → List ℕ → List StreamItem
left_over line [] = []
left_over line (b ∷ bytes) = word_on line (b ∷ bytes) ∷ []

-- the text of a function behind the words so far, up to the first `;`
unfoldable pub text_from : FunctionText → List StreamItem → Reading FunctionText
text_from text [] = cut_short
text_from text (text_end line ∷ rest) = broken (Line line Expected)
text_from text (long_line line ∷ rest) = broken (Line line LongWord)
text_from text (word_on line bytes ∷ rest) =
    if nat_lt text.room (1 + length (before_first is_end bytes)) then broken (Line line LimitText)
    else (if list_any is_end bytes then done (with_end (with_word text line (before_first is_end bytes)) line)
    (left_over line (after_first is_end bytes) ++ rest)
    else text_from (with_word text line bytes) rest)

-- Entries.

-- an entry of a cell, up to its last word so far
pub record Entry : Type 0 where
  -- of the word `GATE`
  pub line : ℕ
  pub name : List ℕ
  pub area : Micro
  pub tokens : List Token
  -- the last delay of each pin that its name was given
  pub named : List (Option Micro)
  -- the last delay of all pins
  pub every : Option Micro

abbrev pub pins_of : Entry → List (List ℕ)
pins_of entry = pins_in entry.tokens

-- the entry that begins with these words, or the first token of the function that may not stand
abbrev pub entry_by : ℕ → List ℕ → Micro → FunctionText → Option LibFault → Result Entry LibFault
entry_by line name area text (Some fault) = Err fault
entry_by line name area text None =
    Ok (record {
      line = line;
      name = name;
      area = area;
      tokens = text.tokens;
      named = replicate (length (pins_in text.tokens)) None;
      every = None;
    })

abbrev pub entry_begun : ℕ → List ℕ → Micro → FunctionText → Result Entry LibFault
entry_begun line name area text = entry_by line name area text (first_fault [] text.lines text.tokens)

-- what follows the area, the name and the word `GATE`

abbrev pub behind_words : ℕ → List ℕ → Micro → FunctionText → List StreamItem → Reading Entry
behind_words line name area text stream =
    and_then (text_from text stream) (λ whole rest. with_rest rest (entry_begun line name area whole))

abbrev pub behind_area : ℕ → List ℕ → Micro → List StreamItem → Reading Entry
behind_area line name area stream = behind_words line name area no_text stream

abbrev pub behind_name : ℕ → List ℕ → List StreamItem → Reading Entry
behind_name line name stream = and_then (word_by number_of stream) (λ area rest. behind_area line name area rest)

abbrev pub behind_gate : ℕ → List StreamItem → Reading Entry
behind_gate line stream = and_then (word_by cell_name stream) (λ name rest. behind_name line name rest)

-- Pins.

abbrev pub target_at : Option ℕ → Result Target LibKind
target_at (Some place) = Ok (One place)
target_at None = Err PinUnknown

abbrev pub target_of : List (List ℕ) → List ℕ → Result Target LibKind
target_of pins bytes = if bytes_eq bytes (codes "*") then Ok Every else target_at (position (bytes_eq bytes) pins)

-- what stands behind a pin's name: the phase, two loads, and the block delay and a word that is not used, for a rise
-- and for a fall
abbrev pub pin_fields : List Field
pin_fields = Phase ∷ Load ∷ MostLoad ∷ Rise ∷ RiseUnused ∷ Fall ∷ FallUnused ∷ []

-- the larger of a delay and a block delay
abbrev pub larger : Micro → Result Micro LibKind → Result Micro LibKind
larger delay (Ok block) = Ok (record { 0 = max delay.0 block.0 })
larger delay (Err kind) = Err kind

-- the delay behind one more word
abbrev pub delay_behind : Field → Micro → List ℕ → Result Micro LibKind
delay_behind Phase delay bytes = if is_phase bytes then Ok delay else Err PhaseWord
delay_behind Rise delay bytes = larger delay (number_of bytes)
delay_behind Fall delay bytes = larger delay (number_of bytes)
delay_behind unused delay bytes = if is_like_number bytes then Ok delay else Err Expected

abbrev pub delay_from : List Field → Micro → List StreamItem → Reading Micro
delay_from [] delay stream = done delay stream
delay_from (field ∷ fields) delay stream =
    and_then (word_by (delay_behind field delay) stream) (λ larger rest. delay_from fields larger rest)

abbrev pub no_delay : Micro
no_delay = record { 0 = 0 }

-- the entry with one more delay: of pins of one kind the last wins
abbrev pub with_delay : Entry → Target → Micro → Entry
with_delay entry Every delay =
    record {
      line = entry.line;
      name = entry.name;
      area = entry.area;
      tokens = entry.tokens;
      named = entry.named;
      every = Some delay;
    }
with_delay entry (One place) delay =
    record {
      line = entry.line;
      name = entry.name;
      area = entry.area;
      tokens = entry.tokens;
      named = slice_set entry.named place (Some delay);
      every = entry.every;
    }

-- what follows a pin's name, and the word `PIN`

abbrev pub behind_target : Entry → Target → List Field → Micro → List StreamItem → Reading Entry
behind_target entry target fields delay stream =
    and_then (delay_from fields delay stream) (λ delay rest. done (with_delay entry target delay) rest)

abbrev pub behind_pin : Entry → List StreamItem → Reading Entry
behind_pin entry stream = and_then (word_by (target_of (pins_of entry)) stream)
    (λ target rest. behind_target entry target pin_fields no_delay rest)
