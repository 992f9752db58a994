use Rattle.std.proofs.Common.{◌≡◌, ℕ, Bool, List, length}
use Rattle.lw_words.specs.Lines.{LogicalLine}
use Rattle.lw_words.specs.Standing.{is_finished, fed_count}
use Rattle.lw_files.specs.Texts.{IsGiven}
use Rattle.lw_files.proofs.texts.give_lines.Given as goal

abbrev pub invariant-each : goal.invariant-each
invariant-each g l = record {
  count : fed_count l.lines ≡ fed_count l.initial.lines;
  finished : is_finished l.lines ≡ is_finished l.initial.lines;
  given : (marked : Bool) (all : List LogicalLine) (fed : List ℕ) → IsGiven (λ r ls. g.R.TakesLines.given r l.over ls) g.R.TakesLines.accepts marked l.initial.lines l.initial.reader all fed → IsGiven (λ r ls. g.R.TakesLines.given r l.over ls) g.R.TakesLines.accepts marked l.lines l.reader all fed;
}

abbrev pub decreases-each : goal.decreases-each
decreases-each g l = length l.lines.ready.items
