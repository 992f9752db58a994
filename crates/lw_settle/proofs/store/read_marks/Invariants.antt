use Rattle.std.proofs.Common.{List}
use Rattle.lw_laws.specs.Marks.{Mark}
use Rattle.lw_cost.specs.Values.{marks_in}
use Rattle.lw_settle.proofs.Reading.{AreRead}
use Rattle.lw_settle.proofs.store.read_marks.Given as goal

abbrev pub invariant-loop-k : goal.invariant-loop-k
invariant-loop-k l = (ks : List Mark) × AreRead (marks_in l.marks) l.pins l.k l.height l.costs ks
