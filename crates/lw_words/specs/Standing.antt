-- What a value stands for: the bytes that it was fed and the number of lines that were taken.
use Rattle.std.specs.Prelude.{ℕ, ◌+◌, ◌≤◌, ◌≡◌, Bool, false, List, ◌++◌, length, drop, if◌then◌else◌, option_to_list}
use Rattle.lw_words.specs.declared.lines.Lines.{Lines}
use Rattle.lw_words.specs.Lines.{LogicalLine, logical_lines, finished_lines}
use Rattle.lw_words.specs.Gathering.{nothing_gathered, line_gathered}
use Rattle.lw_words.specs.Reading.{IsReading, unfinished, next_place, next_gathered, next_number, next_at, next_lines}

abbrev pub is_marked : Lines → Bool
is_marked lines = lines.marked

abbrev pub is_finished : Lines → Bool
is_finished lines = lines.finished

-- how many bytes were fed
abbrev pub fed_count : Lines → ℕ
fed_count lines = lines.fed

-- the lines that are finished, of these bytes
abbrev pub lines_so_far : Lines → List ℕ → List LogicalLine
lines_so_far lines fed = if lines.finished then logical_lines lines.marked fed else finished_lines lines.marked fed

pub record StandsFor (lines : Lines) (fed : List ℕ) (taken : ℕ) : Type 0 where
  pub count : lines.fed ≡ length fed
  pub within : taken ≤ length (lines_so_far lines fed)
  -- the lines that are kept are those that were not taken
  pub left : lines.ready.items ≡ drop taken (lines_so_far lines fed)
  -- where more bytes may come, what is kept beside is of the line that is not finished
  pub open_line : lines.finished ≡ false → IsReading lines.marked
      (unfinished lines.marked fed) lines.number lines.at lines.place lines.gathering

-- more bytes
pub record ReadsAll (old : Lines) (bytes : List ℕ) (new : Lines) : Type 0 where
  pub marked : new.marked ≡ old.marked
  pub finished : new.finished ≡ old.finished
  pub fed : new.fed ≡ old.fed + length bytes
  pub stands : (fed : List ℕ) (taken : ℕ) → old.finished ≡ false → StandsFor old fed taken
      → StandsFor new (fed ++ bytes) taken

-- one more byte
pub record ReadsByte (old : Lines) (b : ℕ) (new : Lines) : Type 0 where
  pub marked : new.marked ≡ old.marked
  pub finished : new.finished ≡ old.finished
  pub fed : new.fed ≡ old.fed + 1
  pub place : new.place ≡ next_place old.marked old.place b
  pub gathering : new.gathering ≡ next_gathered old.place b old.gathering
  pub number : new.number ≡ next_number old.place b old.at old.number
  pub at : new.at ≡ next_at b old.at
  pub ready : new.ready.items ≡ old.ready.items ++ next_lines old.place b old.number old.gathering

-- the physical line ends
pub record EndsLine (old new : Lines) : Type 0 where
  pub marked : new.marked ≡ old.marked
  pub finished : new.finished ≡ old.finished
  pub fed : new.fed ≡ old.fed
  pub place : new.place ≡ next_place old.marked old.place 10
  pub gathering : new.gathering ≡ next_gathered old.place 10 old.gathering
  pub number : new.number ≡ next_number old.place 10 old.at old.number
  pub at : new.at ≡ old.at + 1
  pub ready : new.ready.items ≡ old.ready.items ++ next_lines old.place 10 old.number old.gathering

-- the line that is gathered is finished
pub record PutsLine (old new : Lines) : Type 0 where
  pub marked : new.marked ≡ old.marked
  pub finished : new.finished ≡ old.finished
  pub fed : new.fed ≡ old.fed
  pub number : new.number ≡ old.number
  pub at : new.at ≡ old.at
  pub place : new.place ≡ old.place
  pub gathering : new.gathering ≡ nothing_gathered
  pub ready : new.ready.items ≡ old.ready.items ++ option_to_list (line_gathered old.number old.gathering)
