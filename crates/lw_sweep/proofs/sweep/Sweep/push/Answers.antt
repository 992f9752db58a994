use Rattle.std.proofs.Common.{◌*◌, ◌++◌, ◌∷◌, [], ◌∙◌, ap, length}
use Rattle.lw_aig.specs.declared.gate.Gate.TheVariants.{And}
use Rattle.lw_sweep.proofs.Standing.{stands_push}
use Rattle.lw_sweep.proofs.sweep.Sweep.push.Goals as goal

pub invariant_of-self-2 : goal.invariant_of-self-2
invariant_of-self-2 c =
    stands_push c.self.inside.search c.push_and.new.self c.self.inside.stands.items c.push_reserved.new.self.items (And c.args.left c.args.right) c.of.result c.self.invariant c.in_ok-push_and.ensures.ok
    (c.push_reserved.ensures.items ∙ ap (λ ls. ls ++ c.of.result ∷ []) c.reserve.ensures.items)
    (c.of.ensures ∙ ap (λ gs. 2 * length gs) (c.gates.ensures.gates ∙ c.aig.ensures))
