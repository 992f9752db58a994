use Rattle.std.proofs.Common.{◌≡◌, length, take}
use Rattle.lw_report.specs.Reading.{words_of}
use Rattle.lw_report.proofs.gates.read_nets.Given as goal

abbrev pub invariant-loop-k : goal.invariant-loop-k
invariant-loop-k l = record {
  front : take l.k l.words ≡ take l.k (words_of l.nets l.pins);
  length : length l.words ≡ length l.initial.words;
}
