use Rattle.std.proofs.Common.{◌≡◌, ◌+◌, false}
use Rattle.lw_words.specs.Standing.{is_finished, fed_count}
use Rattle.lw_test_parts.proofs.lines.feed_bytes.Given as goal

abbrev pub invariant-loop-i : goal.invariant-loop-i
invariant-loop-i l = (is_finished l.lines ≡ false) × (fed_count l.lines ≡ fed_count l.initial.lines + l.i)
