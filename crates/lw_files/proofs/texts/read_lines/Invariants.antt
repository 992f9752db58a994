use Rattle.std.proofs.Common.{◌≡◌, ◌≤◌, ◌-◌, false, take, length}
use Rattle.lw_words.specs.Standing.{is_finished, fed_count}
use Rattle.lw_words.specs.Lines.{logical_lines}
use Rattle.lw_files.specs.Texts.{IsGiven}
use Rattle.lw_files.proofs.texts.read_lines.Given as goal

abbrev pub invariant-pieces : goal.invariant-pieces
invariant-pieces g l = record {
  within : l.at ≤ length l.bytes;
  unfinished : is_finished l.lines ≡ false;
  count : fed_count l.lines ≡ l.at;
  given : IsGiven (λ r ls. g.R.TakesLines.given r l.over ls) g.R.TakesLines.accepts l.marked l.lines l.reader (logical_lines l.marked l.bytes) (take l.at l.bytes);
}

abbrev pub decreases-pieces : goal.decreases-pieces
decreases-pieces g l = length l.bytes - l.at
