use Rattle.std.proofs.Common.{sym, subst₂}
use Rattle.lw_backtrace.specs.SecondLook.{IsRightWalk}
use Rattle.lw_backtrace.specs.Walks.{IsWalk}
use Rattle.lw_backtrace.proofs.Checked.{checked_walk, sites_of}
use Rattle.lw_backtrace.proofs.walk.walk_by.Goals as goal

pub returns-then-branch : goal.returns-then-branch
returns-then-branch c = λ s t are fit.
    let plan = c.args.plan.now in
    let trail = c.walk_through.new.trail in
    let w = trail.walk in
    let right : IsRightWalk plan trail = c.in_ok-walk_through.ensures c.if-branch.true in
    let sites = sites_of s plan trail are.ways are.starts fit.inputs fit.count fit.cells in
    (sites, subst₂ (λ rs ts. IsWalk s plan.curves.now.choices are.ways.held sites rs ts w.cells.items w.pins.items w.nets.items) (sym fit.roots) (sym fit.times) (checked_walk s plan trail are.ways are.starts fit.inputs fit.count fit.cells right))
