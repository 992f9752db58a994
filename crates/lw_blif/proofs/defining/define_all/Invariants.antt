use Rattle.std.proofs.Common.{◌≡◌, ◌++◌, drop}
use Rattle.std.specs.List.{slice_range}
use Rattle.lw_blif.specs.Readers.{are_fresh}
use Rattle.lw_blif.proofs.defining.define_all.Given as goal

abbrev pub invariant-loop-i : goal.invariant-loop-i
invariant-loop-i l =
    (l.defined.keys ≡ l.initial.defined.keys ++ slice_range l.words l.from l.i)
    × (are_fresh l.defined.keys (drop l.i l.words) ≡ are_fresh l.initial.defined.keys (drop l.from l.words))
