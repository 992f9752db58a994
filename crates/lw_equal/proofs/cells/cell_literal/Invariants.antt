use Rattle.std.proofs.Common.{length}
use Rattle.lw_sweep.specs.Sweeps.{IsExtended}
use Rattle.lw_equal.proofs.Steps.{IsRunning}
use Rattle.lw_equal.proofs.cells.cell_literal.Given as goal

abbrev pub invariant-steps : goal.invariant-steps
invariant-steps l = record { grown : IsExtended l.fn.sweep l.sweep; running : IsRunning l.sweep l.pins l.ops l.op-index l.stack.items }
