use Rattle.std.proofs.Common.{◌≡◌, drop, map, string_bytes}
use Rattle.lw_area.specs.Words.{first_dashed}
use Rattle.lw_area.proofs.words.first_dashed.Given as goal

abbrev pub invariant-words : goal.invariant-words
invariant-words l = first_dashed (map string_bytes (drop l.word-index l.words)) ≡ first_dashed (map string_bytes l.words)
