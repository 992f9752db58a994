use Rattle.std.proofs.Common.{◌/◌, ◌<◌, length, sym, subst}
use Rattle.lw_reduce.proofs.RepLemmas.{path_start, path_here, path_above, path_step, path_falls, by_up}
use Rattle.lw_reduce.proofs.representatives.find.Goals as goal

pub path-init : goal.path-init
path-init c =
    path_start (length c.args.reps.now) c.args.facts.now.nands.now c.args.facts.now.links.now c.args.reps.now c.args.form c.requires.valid c.requires.within

pub returns-then-up-at : goal.returns-then-up-at
returns-then-up-at c =
    path_here (length c.args.reps.now) c.args.facts.now.nands.now c.args.facts.now.links.now c.args.reps.now c.path.reps c.args.form c.path.at c.path.invariant (by_up c.rep_of-up.ensures c.if-up-at.true)

pub returns-then-top-up : goal.returns-then-top-up
returns-then-top-up c =
    path_above (length c.args.reps.now) c.args.facts.now.nands.now c.args.facts.now.links.now c.args.reps.now c.path.reps c.args.form c.path.at c.path.invariant c.rep_of-up.result c.rep_of-up.ensures c.requires.within (by_up c.rep_of-top.ensures c.if-top-up.true)

pub path-smaller : goal.path-smaller
path-smaller c =
    path_falls (length c.args.reps.now) c.args.facts.now.nands.now c.args.facts.now.links.now c.args.reps.now c.path.reps c.args.form c.path.at c.path.invariant c.rep_of-up.result c.rep_of-up.ensures c.requires.within c.set_rep.new.reps c.rep_of-top.result c.rep_of-top.ensures c.if-up-at.false c.if-top-up.false c.set_rep.ensures

pub path-preserved : goal.path-preserved
path-preserved c =
    path_step (length c.args.reps.now) c.args.facts.now.nands.now c.args.facts.now.links.now c.args.reps.now c.path.reps c.args.form c.path.at c.path.invariant c.rep_of-up.result c.rep_of-up.ensures c.requires.within c.set_rep.new.reps c.rep_of-top.result c.rep_of-top.ensures c.if-up-at.false c.if-top-up.false c.set_rep.ensures

pub rep_of-up-requires : goal.rep_of-up-requires
rep_of-up-requires c = subst (λ n. c.path.at / 2 < n) (sym c.path.invariant.valid.count) c.path.invariant.within

pub rep_of-top-requires : goal.rep_of-top-requires
rep_of-top-requires c =
    let is = c.path.invariant in
    subst (λ n. c.rep_of-up.result / 2 < n) (sym is.valid.count) (subst (λ f. f / 2 < length c.args.reps.now) (sym c.rep_of-up.ensures) (is.valid.sound c.path.at is.within).0)

pub set_rep-requires : goal.set_rep-requires
set_rep-requires c = subst (λ n. c.path.at / 2 < n) (sym c.path.invariant.valid.count) c.path.invariant.within
