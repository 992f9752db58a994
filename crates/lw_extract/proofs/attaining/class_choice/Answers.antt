use Rattle.std.proofs.Common.{None, slice_index_or, sym}
use Rattle.lw_facts.proofs.Tests.{none_when_not_some}
use Rattle.lw_extract.proofs.ClassChoices.{leaf_of, choice_found}
use Rattle.lw_extract.proofs.ClassNets.{some_of}
use Rattle.lw_extract.proofs.attaining.class_choice.Goals as goal

pub returns-then-is_some-clause-choice : goal.returns-then-is_some-clause-choice
returns-then-is_some-clause-choice g c = λ out.
    let (n, at) = some_of (slice_index_or c.args.nets.now c.args.class.0 None) (sym c.if-is_some.ensures) in
    absurd (out (leaf_of c.args.job.now.graph.now c.args.nets.now c.args.class.0 n c.requires.nets at))

pub returns-clause-choice : goal.returns-clause-choice
returns-clause-choice g c =
    let (mark, at) = some_of (slice_index_or c.args.job.now.marks.now c.args.class.0 None) c.if-is_none.ensures in
    let out = c.requires.nets.none c.args.class.0 (none_when_not_some _ (sym c.if-is_some.ensures)) in
    choice_found c.args.job.now.graph.now (g.C.Cost.costs c.args.job.now.cost.now) c.args.job.now.pats.now c.args.job.now.marks.now c.args.class.0 c.choice.result mark at out c.choice.ensures.choice
