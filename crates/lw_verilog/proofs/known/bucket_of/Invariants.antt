use Rattle.std.proofs.Common.{◌≡◌, ◌<◌, drop}
use Rattle.lw_verilog.specs.Chains.{bucket_from, known_width}
use Rattle.lw_verilog.proofs.known.bucket_of.Given as goal

abbrev pub invariant-loop-byte : goal.invariant-loop-byte
invariant-loop-byte l = record {
  low : l.hash < known_width;
  rest : bucket_from l.hash (drop l.byte-index l.name) ≡ bucket_from 0 l.name;
}
