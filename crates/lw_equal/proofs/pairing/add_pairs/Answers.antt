use Rattle.std.proofs.Common.{Contains, subst, sym}
use Rattle.std.proofs.lemmas.List.{take_all}
use Rattle.lw_equal.proofs.Paired.{grow_twice, more_covered}
use Rattle.lw_equal.proofs.pairing.add_pairs.Goals as goal

pub loop-name-preserved : goal.loop-name-preserved
loop-name-preserved c =
    let one = c.args.one.now.side.now in
    let other = c.args.other.now.side.now in
    let old = c.loop-name.pairs.items in
    let new = c.add_pair.new.pairs.items in
    let grows = c.in_ok-add_pair.ensures.grows in
    record {
      grows = grow_twice one other c.args.pairs.now.items old new c.loop-name.invariant.grows grows;
      covers = more_covered one other c.args.kind c.args.names.now c.loop-name.name-index c.name-item.result old new c.loop-name-test.true c.name-item.is grows c.loop-name.invariant.covers c.in_ok-add_pair.ensures.covers;
    }

pub returns-clause-covers : goal.returns-clause-covers
returns-clause-covers c name has = c.loop-name.invariant.covers name (subst (λ ns. Contains ns name) (sym (take_all c.loop-name.name-index c.args.names.now c.loop-name-test.false)) has)
