use Rattle.std.proofs.Common.{◌≡◌, drop}
use Rattle.std.specs.List.{list_all}
use Rattle.lw_words.proofs.names.are_names.Given as goal
use Rattle.lw_words.specs.Words.{is_name}

abbrev pub invariant-loop-i : goal.invariant-loop-i
invariant-loop-i l = list_all is_name (drop l.i l.words) ≡ list_all is_name (drop l.from l.words)
