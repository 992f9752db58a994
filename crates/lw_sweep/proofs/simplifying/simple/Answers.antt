use Rattle.std.proofs.Common.{◌≡◌, refl, rules}
use Rattle.lw_sweep.proofs.Simple.{opposite_conjunction}
use Rattle.lw_sweep.proofs.simplifying.simple.Goals as goal

pub returns-then-eq-2 : goal.returns-then-eq-2
returns-then-eq-2 c =
    let same : c.args.left ≡ c.flip.result = search rules in
    opposite_conjunction c.args.left c.args.right c.flip.result (record { 0 = 0 }) same c.flip.ensures refl
