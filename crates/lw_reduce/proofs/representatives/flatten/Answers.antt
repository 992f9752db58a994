use Rattle.std.proofs.Common.{length, slice_index, refl, sym, subst, ◌+◌, arith}
use Rattle.lw_reduce.specs.Representatives.{IsFlatBelow, StayRepresentatives}
use Rattle.lw_reduce.proofs.RepSteps.{flat_from_below, flat_here, flatten_stays, flat_more, stay_more}
use Rattle.lw_reduce.proofs.RepLemmas.{by_up}
use Rattle.lw_reduce.proofs.representatives.flatten.Goals as goal
use Rattle.lw_reduce.proofs.representatives.flatten.Goals.{then-top-up, else-top-up}

pub loop-base-preserved : goal.loop-base-preserved
loop-base-preserved c =
    let n = length c.args.reps.now in
    let nands = c.args.facts.now.nands.now in
    let links = c.args.facts.now.links.now in
    let old = c.args.reps.now in
    let l = c.loop-base in
    let k = l.invariant.kept in
    let below = l.invariant.flat in
    let lt = c.loop-base-test.true in
    let up = slice_index l.reps l.base in
    let new = c.if-top-up.reps in
    let top = c.rep_of-top.result in
    elim c.if-top-up.branch [
      | then-top-up w ↦ record {
        kept = stay_more n nands links old l.reps new k (flatten_stays n nands links l.reps l.base k.valid lt below new up top refl c.rep_of-top.ensures w.if-top-up.true w.reps-is);
        flat = flat_more n nands links l.reps l.base k.valid lt below new up top refl c.rep_of-top.ensures w.if-top-up.true w.reps-is;
      }
      | else-top-up w ↦ record {
        kept = subst (λ ns. StayRepresentatives n nands links old ns) (sym w.reps-is) k;
        flat = subst (λ ns. IsFlatBelow ns (l.base + 1)) (sym w.reps-is) (flat_here n nands links l.reps l.base k.valid lt below (by_up c.rep_of-top.ensures w.if-top-up.false));
      }
    ]

pub returns-clause-flat : goal.returns-clause-flat
returns-clause-flat c =
    let l = c.loop-base in
    let a = l.auto.reps in
    let f = c.loop-base-test.false in
    flat_from_below l.reps l.base (omega arith) l.invariant.flat
