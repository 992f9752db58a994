use Rattle.std.proofs.Common.{◌≡◌, ℕ, List, sym, subst, arith}
use Rattle.std.specs.List.{flat_map, range_with_len}
use Rattle.lw_io.specs.Writers.{Writes}
use Rattle.lw_io.proofs.Putting.{Writes-both}
use Rattle.lw_report.specs.Blocks.{bits_at}
use Rattle.lw_report.specs.Simulated.{value_line}
use Rattle.lw_report.proofs.SimLemmas.{line_more}
use Rattle.lw_report.proofs.outputs.put_net_lines.Goals as goal

pub loop-k-preserved : goal.loop-k-preserved
loop-k-preserved g c =
    let line = λ (k : ℕ). value_line (bits_at k c.args.nets.now) c.args.outputs.now in
    subst (λ (l : List ℕ). Writes g.S.Sink.taken g.S.Sink.faults c.args.out.now c.put_nets.new.out l) (sym (line_more line c.loop-k.k)) (Writes-both c.loop-k.invariant c.put_nets.ensures)

pub returns : goal.returns
returns g c =
    let line = λ (k : ℕ). value_line (bits_at k c.args.nets.now) c.args.outputs.now in
    let count : c.loop-k.k ≡ c.args.count = omega arith in
    subst (λ (n : ℕ). Writes g.S.Sink.taken g.S.Sink.faults c.args.out.now c.loop-k.out (flat_map line (range_with_len 0 n))) count c.loop-k.invariant
