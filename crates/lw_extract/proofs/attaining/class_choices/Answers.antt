use Rattle.std.proofs.Common.{◌+◌, List, Option, sym, subst}
use Rattle.lw_cost.specs.declared.mark.Match.{Match}
use Rattle.lw_extract.proofs.ClassChoices.{AreChoicesBelow, choices_more}
use Rattle.lw_extract.proofs.attaining.class_choices.Goals as goal

pub loop-number-preserved : goal.loop-number-preserved
loop-number-preserved g c =
    let job = c.args.job.now in
    let cost = g.C.Cost.costs job.cost.now in
    let l = c.loop-number in
    let more = choices_more job.graph.now cost job.pats.now job.marks.now l.number l.all.items c.class_choice.result c.class_choice.ensures.choice l.invariant.below in
    record {
      known = c.class_choice.ensures.known;
      below = subst (λ (all : List (Option Match)). AreChoicesBelow job.graph.now cost job.pats.now job.marks.now (l.number + 1) all) (sym c.in_ok-push.ensures.items) more;
    }
