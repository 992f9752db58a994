use Rattle.std.proofs.Common.{◌≡◌, ◌++◌, List, map, drop}
use Rattle.lw_genlib.specs.Streams.{StreamItem, word_on}
use Rattle.lw_genlib.specs.Standing.{resume}
use Rattle.lw_genlib.proofs.reader.read_words.Given as goal

abbrev pub invariant-loop-place : goal.invariant-loop-place
invariant-loop-place l = (rest : List StreamItem) → resume l.initial.state (map (word_on l.line) l.words ++ rest) ≡ resume l.state (map (word_on l.line) (drop l.place l.words) ++ rest)
