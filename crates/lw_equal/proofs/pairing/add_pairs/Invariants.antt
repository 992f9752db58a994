use Rattle.std.proofs.Common.{List, ℕ, take, Contains}
use Rattle.lw_equal.specs.Pairs.{Covers, Grows}
use Rattle.lw_equal.proofs.pairing.add_pairs.Given as goal

abbrev pub invariant-loop-name : goal.invariant-loop-name
invariant-loop-name l = record {
  grows : Grows l.one.side.now l.other.side.now l.initial.pairs.items l.pairs.items;
  covers : (name : List ℕ) → Contains (take l.name-index l.names) name → Covers l.one.side.now l.other.side.now l.kind name l.pairs.items;
}
