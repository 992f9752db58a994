-- The first rule that a line of a network's text breaks, behind the lines before it.
use Rattle.std.specs.Prelude.{ℕ, ◌+◌, ◌-◌, Bool, true, false, not, ◌&&◌, ◌||◌, ◌==◌, nat_lt, nat_le, List, [], ◌∷◌}
use Rattle.std.specs.Prelude.{length, take, drop, reverse, filter, Option, Some, None, Result, Ok, Err}
use Rattle.std.specs.Prelude.{if◌then◌else◌, codes}
use Rattle.std.specs.List.{list_any, list_all, flat_map}
use Rattle.std.specs.Str.{bytes_eq}
use Rattle.lw_words.specs.Lines.{LogicalLine}
use Rattle.lw_blif.specs.declared.command.Command.{Command}
use Rattle.lw_blif.specs.declared.command.Command.TheVariants.{Model, Inputs, Outputs, Names, Latch, Arrival}
use Rattle.lw_blif.specs.declared.command.Command.TheVariants.{DefaultArrival, End, Ignored, Unsupported, Unknown, Row}
use Rattle.lw_blif.specs.declared.fault.BlifKind.{BlifKind}
use Rattle.lw_blif.specs.declared.fault.BlifKind.TheVariants as kind
use Rattle.lw_blif.specs.Commands.{command_of}
use Rattle.lw_fixed.specs.declared.micro.Micro.{Micro}
use Rattle.lw_fixed.specs.declared.fault.DecimalFault.{DecimalFault}
use Rattle.lw_fixed.specs.declared.fault.DecimalFault.TheVariants.{Shape}
use Rattle.lw_frame.specs.Starts.{start_said}
use Rattle.lw_frame.specs.Ending.{lines_until, has_end}
use Rattle.lw_blif_text.specs.FirstFaults as faults
use Rattle.lw_blif_text.specs.FirstFaults.{first_fault_by}
use Rattle.lw_words.specs.Words.{is_among, first_word, front, is_name}
use Rattle.lw_pool.specs.Numbers.{most_signals}

-- Words.

abbrev pub last_word : List (List ℕ) → List ℕ
last_word [] = []
last_word (word ∷ []) = word
last_word (word ∷ next ∷ words) = last_word (next ∷ words)

abbrev pub other_words : List (List ℕ) → List (List ℕ)
other_words words = drop 1 words

abbrev pub words_before_last : List (List ℕ) → List (List ℕ)
words_before_last words = take (length words - 1) words

-- some word stands twice
abbrev pub has_twice : List (List ℕ) → Bool
has_twice [] = false
has_twice (word ∷ words) = is_among words word || has_twice words

-- What lines are.

abbrev pub command : LogicalLine → Command
command line = command_of (first_word line.words)

abbrev pub is_row_command : Command → Bool
is_row_command Row = true
is_row_command other = false

abbrev pub is_names_command : Command → Bool
is_names_command Names = true
is_names_command other = false

abbrev pub is_ignored_command : Command → Bool
is_ignored_command Ignored = true
is_ignored_command other = false

abbrev pub is_row : LogicalLine → Bool
is_row line = is_row_command (command line)

abbrev pub is_names : LogicalLine → Bool
is_names line = is_names_command (command line)

abbrev pub is_ignored : LogicalLine → Bool
is_ignored line = is_ignored_command (command line)

-- The end of a reading.

-- The command ends the reading: a model does so where it is not on the first line.
abbrev pub ends : Bool → Command → Bool
ends first End = true
ends first Model = not first
ends first other = false

abbrev pub goes_on : LogicalLine → Bool
goes_on line = not (ends false (command line))

abbrev pub ends_on : Bool → LogicalLine → Bool
ends_on first line = ends first (command line)

-- the lines that are read
abbrev pub lines_read : List LogicalLine → List LogicalLine
lines_read lines = lines_until ends_on lines

-- Names and signals.

-- the words in places of names
abbrev pub names_for : Command → List (List ℕ) → List (List ℕ)
names_for Model words = other_words words
names_for Inputs words = other_words words
names_for Outputs words = other_words words
names_for Names words = other_words words
names_for Latch words = other_words words
names_for Arrival words = take 1 (other_words words)
names_for other words = []

-- the signals that a line defines
abbrev pub defined_for : Command → List (List ℕ) → List (List ℕ)
defined_for Inputs words = other_words words
defined_for Names words = last_word words ∷ []
defined_for Latch words = take 1 (drop 2 words)
defined_for other words = []

abbrev pub defined_on : LogicalLine → List (List ℕ)
defined_on line = defined_for (command line) line.words

unfoldable pub defined_by : List LogicalLine → List (List ℕ)
defined_by lines = flat_map defined_on lines

-- Nodes and rows.

abbrev pub fanins_on : LogicalLine → List (List ℕ)
fanins_on line = words_before_last (other_words line.words)

-- the lines before, the nearest first, without those that are ignored
abbrev pub nearest : List LogicalLine → List LogicalLine
nearest before = reverse (filter (λ line. not (is_ignored line)) before)

-- the rows just before
unfoldable pub rows_before : List LogicalLine → List LogicalLine
rows_before before = front is_row (nearest before)

-- the line of the node whose rows may follow
unfoldable pub node_before : List LogicalLine → List LogicalLine
node_before before = filter is_names (take 1 (drop (length (rows_before before)) (nearest before)))

abbrev pub is_column : ℕ → Bool
is_column b = b == 48 || b == 49 || b == 45

abbrev pub is_value : List ℕ → Bool
is_value word = bytes_eq word (codes "0") || bytes_eq word (codes "1")

-- a row of a node with this many fan-ins
abbrev pub has_shape : ℕ → List (List ℕ) → Bool
has_shape fanins (value ∷ []) = fanins == 0 && is_value value
has_shape fanins (columns ∷ value ∷ []) =
    nat_lt 0 fanins && length columns == fanins && list_all is_column columns && is_value value
has_shape fanins words = false

-- some row has another last word
abbrev pub differs_from : List (List ℕ) → List LogicalLine → Bool
differs_from words rows = list_any (λ other. not (bytes_eq (last_word other.words) (last_word words))) rows

-- The rules.

-- the most rows of a node
abbrev pub most_rows : ℕ
most_rows = 4096

-- the most fan-ins of a node
abbrev pub most_fanins : ℕ
most_fanins = 256

-- a test, and the kind of the rule that is broken where it is true
pub record Rule : Type 0 where
  pub broken : Bool
  pub kind : BlifKind

abbrev pub first_broken : List Rule → Option BlifKind
first_broken [] = None
first_broken (rule ∷ rules) = if rule.broken then Some rule.kind else first_broken rules

-- The first rule that a row breaks, behind the node with this line and these rows.
abbrev pub row_rules : List LogicalLine → List LogicalLine → List (List ℕ) → List Rule
row_rules node rows words =
    record { broken = nat_lt (length node) 1; kind = kind.RowOutside }
    ∷ record { broken = not (has_shape (length (flat_map fanins_on node)) words); kind = kind.RowShape }
    ∷ record { broken = differs_from words rows; kind = kind.RowMix }
    ∷ record { broken = nat_le most_rows (length rows); kind = kind.LimitRows } ∷ []

-- The rules for names, behind lines that define these signals.
abbrev pub name_rules : List (List ℕ) → Command → List (List ℕ) → List Rule
name_rules defined c words =
    record { broken = not (list_all is_name (names_for c words)); kind = kind.BadName }
    ∷ record {
      broken = is_names_command c && nat_lt most_fanins (length (words_before_last (other_words words)));
      kind = kind.LimitFanin;
    }
    ∷ record { broken = nat_lt most_signals (length defined + length (defined_for c words)); kind = kind.LimitSignals }
    ∷ record {
      broken = has_twice (defined_for c words) || list_any (is_among defined) (defined_for c words);
      kind = kind.Redefined;
    } ∷ []

-- a command for an arrival line
abbrev pub is_arrival_command : Command → Bool
is_arrival_command Arrival = true
is_arrival_command DefaultArrival = true
is_arrival_command other = false

-- what a command asks of the number of words
abbrev pub wants_words : Command → List (List ℕ) → Bool
wants_words Model words = length words == 2
wants_words Names words = nat_le 2 (length words)
wants_words Latch words = nat_le 3 (length words) && nat_le (length words) 6
wants_words Arrival words = nat_le 4 (length words)
wants_words DefaultArrival words = nat_le 3 (length words)
wants_words other words = true

-- the words for the rise and the fall of an input, and those behind them
abbrev pub times_for : Command → List (List ℕ) → List (List ℕ)
times_for Arrival words = drop 2 words
times_for DefaultArrival words = drop 1 words
times_for other words = []

-- where they begin
abbrev pub times_place : Command → ℕ
times_place Arrival = 2
times_place other = 1

-- the start that the first two of these words say
abbrev pub start_in : List (List ℕ) → Result Micro DecimalFault
start_in (rise ∷ fall ∷ words) = start_said rise fall
start_in words = Err Shape

abbrev pub start_rules : Result Micro DecimalFault → List Rule
start_rules (Ok start) = []
start_rules (Err fault) = record { broken = true; kind = kind.Decimal fault } ∷ []

-- The rules for an arrival line.
abbrev pub arrival_rules : Command → List (List ℕ) → List Rule
arrival_rules c words =
    record { broken = not (wants_words c words); kind = kind.WordCount }
    ∷ record { broken = not (list_all is_name (names_for c words)); kind = kind.BadName }
    ∷ start_rules (start_in (times_for c words))

-- The rules for a line of this command.
abbrev pub rules_for : List LogicalLine → List LogicalLine → List (List ℕ) → Command → List (List ℕ) → List Rule
rules_for node rows defined Unknown words = record { broken = true; kind = kind.UnknownCommand } ∷ []
rules_for node rows defined Unsupported words = record { broken = true; kind = kind.Unsupported } ∷ []
rules_for node rows defined Row words = row_rules node rows words
rules_for node rows defined Ignored words = []
rules_for node rows defined Arrival words = arrival_rules Arrival words
rules_for node rows defined DefaultArrival words = arrival_rules DefaultArrival words
rules_for node rows defined c words =
    record { broken = not (wants_words c words); kind = kind.WordCount } ∷ name_rules defined c words

-- The first rule that the line breaks behind these, which break none.
unfoldable pub line_fault : List LogicalLine → LogicalLine → Option BlifKind
line_fault before line =
    first_broken (record { broken = line.long; kind = kind.LongWord }
    ∷ rules_for (node_before before) (rows_before before) (defined_by before) (command line) line.words)

-- a rule, and the number of the line that breaks it
abbrev pub FaultAt : Type 0
FaultAt = faults.FaultAt BlifKind

-- the first of the lines behind these that breaks a rule
abbrev pub first_fault : List LogicalLine → List LogicalLine → Option FaultAt
first_fault before lines = first_fault_by line_fault before lines

-- a line of these ends the reading
abbrev pub has_ended : List LogicalLine → Bool
has_ended lines = has_end ends_on lines
