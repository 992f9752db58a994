use Rattle.std.proofs.Common.{◌<◌, refl, subst, sym}
use Rattle.lw_aig.specs.Aigs.{IsAig}
use Rattle.lw_joint.proofs.Telling.{pair_tells}
use Rattle.lw_joint.proofs.pairs.compare_nets.Goals as goal

pub returns-clause-told : goal.returns-clause-told
returns-clause-told c =
    let one = c.args.one.now in
    let other = c.args.other.now in
    pair_tells c.args.sweep.now one.net.now other.net.now one.places.now other.places.now one.literals.now other.literals.now c.args.k.0 c.args.m.0 (record { 0 = 0 }) _ _ c.in_ok-found.found (subst IsAig c.aig.ensures c.gates.ensures.kept) c.requires.one c.requires.other
    (subst (λ n. c.args.k.0 < n) (sym c.requires.one.whole) c.requires.k)
    (subst (λ n. c.args.m.0 < n) (sym c.requires.other.whole) c.requires.m)
    refl refl c.in_ok-found.ensures.told
