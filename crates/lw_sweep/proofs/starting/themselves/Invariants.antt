use Rattle.std.proofs.Common.{ℕ, ◌<◌, ◌*◌, ◌≡◌, get_or, length}
use Rattle.lw_aig.specs.declared.literal.Literal.{Literal}
use Rattle.lw_sweep.proofs.starting.themselves.Given as goal

abbrev pub invariant-loop-node : goal.invariant-loop-node
invariant-loop-node l = (length l.stands.items ≡ l.node) × ((n : ℕ) (d : Literal) → n < length l.stands.items → (get_or l.stands.items n d).0 ≡ 2 * n)
