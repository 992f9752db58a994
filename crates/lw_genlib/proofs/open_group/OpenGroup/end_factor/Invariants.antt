use Rattle.std.proofs.Common.{◌≡◌, ◌++◌}
use Rattle.std.specs.Prelude.{replicate}
use Rattle.lw_genlib.specs.declared.op.ExprOp.TheVariants.{Not}
use Rattle.lw_genlib.proofs.open_group.OpenGroup.end_factor.Given as goal

abbrev pub invariant-loop : goal.invariant-loop
invariant-loop l = (l.self ≡ l.initial.self) × (l.ops.items ≡ l.initial.ops.items ++ replicate l.counter Not)
