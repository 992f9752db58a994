use Rattle.std.proofs.Common.{◌≡◌, length}
use Rattle.std.specs.Prelude.{⊤}
use Rattle.lw_verilog.specs.Chains.{AreChains, bucket_of, known_width}
use Rattle.lw_verilog.proofs.known.link.Given as goal

abbrev pub invariant-loop-place : goal.invariant-loop-place
invariant-loop-place l = record {
  chains : AreChains bucket_of known_width (λ k. ⊤) l.names l.place l.heads l.next;
  buckets : length l.heads ≡ known_width;
  places : length l.next ≡ known_width;
}
