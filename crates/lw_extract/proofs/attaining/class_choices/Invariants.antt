use Rattle.lw_match.specs.Cutting.{AreKnown}
use Rattle.lw_extract.proofs.ClassChoices.{AreChoicesBelow}
use Rattle.lw_extract.proofs.attaining.class_choices.Given as goal

abbrev pub invariant-loop-number : goal.invariant-loop-number
invariant-loop-number g l = record {
  known : AreKnown (g.C.Cost.costs l.job.cost.now) l.job.pats.now l.bounds.gaps l.tops;
  below : AreChoicesBelow l.job.graph.now (g.C.Cost.costs l.job.cost.now) l.job.pats.now l.job.marks.now l.number l.all.items;
}
