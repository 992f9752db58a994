use Rattle.std.proofs.Common.{length, reverse, take}
use Rattle.lw_match.specs.Cutting.{AreKnown}
use Rattle.lw_extract.proofs.Descent.{IsDown}
use Rattle.lw_extract.proofs.choosing.choose_down.Given as goal

abbrev pub invariant-loop-place : goal.invariant-loop-place
invariant-loop-place g l = record {
  can_next : (goal.iterator-loop-place g).can_next l.place-iterator;
  is_finite : (goal.iterator-loop-place g).is_finite l.place-iterator;
  known : AreKnown (g.C.Cost.costs l.job.cost.now) l.job.pats.now l.bounds.gaps l.tops;
  down : IsDown l.job.graph.now (g.C.Cost.costs l.job.cost.now) l.job.pats.now l.job.marks.now l.job.ports.now.roots (take (length l.yielded) (reverse l.places)) l.needed.items (reverse l.chosen.items);
}
