use Rattle.std.proofs.Common.{◌+◌, refl, subst, arith}
use Rattle.lw_cost.specs.declared.mark.Mark.{Mark}
use Rattle.lw_cost.specs.Values.{plain_mark, AreInRange}
use Rattle.lw_extract.proofs.Picking.{chosen_by, some_match, can_rise, before_next, last_before}
use Rattle.lw_extract.proofs.choosing.choice.Goals as goal

-- the mark that comes next after one: of the same cost, and one higher
abbrev after : Mark → Mark
after mark = record { cost = mark.cost; height = mark.height + 1 }

pub overflow_add-bound : goal.overflow_add-bound
overflow_add-bound g c =
    omega (arith, can_rise c.args.job.now.graph.now (g.C.Cost.costs c.args.job.now.cost.now) c.args.job.now.pats.now c.args.job.now.marks.now c.requires.labels.least c.args.class.0 c.in_ok-mark.mark c.in_ok-mark.was)

pub returns-in_err-best-clause-choice : goal.returns-in_err-best-clause-choice
returns-in_err-best-clause-choice g c = λ mark at.
    absurd (some_match c.args.job.now.graph.now (g.C.Cost.costs c.args.job.now.cost.now) c.args.job.now.pats.now c.args.job.now.marks.now c.requires.labels.least c.args.class.0 c.in_ok-mark.mark (plain_mark (after c.in_ok-mark.mark)) c.requires.class.no_leaf c.in_ok-mark.was
    (before_next (plain_mark c.in_ok-mark.mark) (plain_mark (after c.in_ok-mark.mark)) refl refl)
    c.in_err-best.ensures.least)

pub least_before-requires-clause-may : goal.least_before-requires-clause-may
least_before-requires-clause-may g c =
    let labels = c.requires.labels in
    record {
      class = c.requires.class.within;
      one_each = labels.least.one_each;
      in_range = subst (λ cap. AreInRange cap c.args.job.now.marks.now) (g.met.C.Cost.cap c.args.job.now.cost.now) labels.least.in_range;
      of_cells = labels.of_cells;
      fits = c.requires.bounds.fits;
    }

pub returns-clause-choice : goal.returns-clause-choice
returns-clause-choice g c = λ mark at. (
  c.in_ok-best.best.found,
  refl,
  chosen_by c.args.job.now.graph.now (g.C.Cost.costs c.args.job.now.cost.now) c.args.job.now.pats.now c.args.job.now.marks.now c.requires.labels.least c.args.class.0 mark c.in_ok-best.best c.requires.class.no_leaf at c.in_ok-best.ensures.least.0,
)

pub least_before-requires-clause-last : goal.least_before-requires-clause-last
least_before-requires-clause-last g c =
    last_before c.args.job.now.graph.now (g.C.Cost.costs c.args.job.now.cost.now) c.args.job.now.pats.now c.args.job.now.marks.now c.requires.labels.least c.args.class.0 c.in_ok-mark.mark (plain_mark (after c.in_ok-mark.mark)) c.in_ok-mark.was refl refl
