use Rattle.std.proofs.Common.{sym, subst}
use Rattle.lw_mapped.specs.Texts.{gate_line}
use Rattle.lw_io.specs.Writers.{Writes}
use Rattle.lw_mapped.proofs.gates.put_gate_of.Goals as goal

pub returns : goal.returns
returns g c = subst (λ o. Writes g.S.Sink.taken g.S.Sink.faults c.args.out.now c.put_gate.new.out (gate_line c.args.names.now c.args.gate.now o)) (sym c.cell.ensures) c.put_gate.ensures
