use Rattle.std.proofs.Common.{◌≡◌, ◌+◌, drop}
use Rattle.lw_equal.specs.Ports.{fault_from}
use Rattle.lw_equal.proofs.ports.compare_more.Given as goal

abbrev pub invariant-loop-side : goal.invariant-loop-side
invariant-loop-side l = record {
  number : l.number ≡ 3 + l.side-index;
  left : fault_from l.one.side.now l.number (drop l.side-index l.more) ≡ fault_from l.one.side.now 3 l.more;
}
