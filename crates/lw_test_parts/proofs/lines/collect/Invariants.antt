use Rattle.std.proofs.Common.{◌≡◌}
use Rattle.lw_words.specs.Standing.{is_finished, fed_count}
use Rattle.lw_test_parts.proofs.lines.collect.Given as goal

abbrev pub invariant-loop : goal.invariant-loop
invariant-loop l = (is_finished l.lines ≡ is_finished l.initial.lines) × (fed_count l.lines ≡ fed_count l.initial.lines)
