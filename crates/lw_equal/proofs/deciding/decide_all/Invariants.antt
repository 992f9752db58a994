use Rattle.std.proofs.Common.{◌≡◌, take, All}
use Rattle.lw_equal.specs.Answers.{IsShared}
use Rattle.lw_equal.specs.Cases.{AreJudged, one_of, other_of}
use Rattle.lw_equal.proofs.deciding.decide_all.Given as goal

abbrev pub invariant-pairs : goal.invariant-pairs
invariant-pairs l = record {
  same : l.sweep ≡ l.fn.sweep;
  shared : All (IsShared (one_of l.case) (other_of l.case)) l.undecided;
  judged : AreJudged (one_of l.case) (other_of l.case) (take l.pair-index l.pairs) l.undecided;
}
