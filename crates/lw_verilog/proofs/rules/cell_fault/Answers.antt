use Rattle.std.proofs.Common.{None, Some, cond, ap, sym}
use Rattle.lw_genlib.specs.Cells.{names_of}
use Rattle.lw_verilog.specs.declared.fault.VerilogKind.TheVariants as kind
use Rattle.lw_verilog.proofs.Named.{among-at, none-among}
use Rattle.lw_verilog.proofs.rules.cell_fault.Goals as goal

pub returns-in-Some : goal.returns-in-Some
returns-in-Some c = sym (ap (λ b. cond b None (Some kind.NoCell)) (among-at (names_of c.args.lib.now) _ c.args.name.now c.in-Some.ensures))

pub returns-in-None : goal.returns-in-None
returns-in-None c = sym (ap (λ b. cond b None (Some kind.NoCell)) (none-among (names_of c.args.lib.now) c.args.name.now c.in-None.ensures))
