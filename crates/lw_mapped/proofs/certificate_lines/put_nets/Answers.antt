use Rattle.std.proofs.Common.{◌<◌, None, get_or, length, sym, subst, arith}
use Rattle.lw_mapped.specs.Texts.{optional_net}
use Rattle.lw_mapped.proofs.TextParts.{nets_more}
use Rattle.lw_io.specs.Writers.{Writes}
use Rattle.lw_io.proofs.Putting.{Writes-both}
use Rattle.lw_mapped.proofs.certificate_lines.put_nets.Goals as goal

pub loop-g-preserved : goal.loop-g-preserved
loop-g-preserved g c =
    let in_gates : c.loop-g.g < length c.args.gates.now = omega (arith, c.requires.one_each, c.loop-g-test.true) in
    let d = c.index-gates-g.result in
    let name = c.name_of.ensures in
    let next = subst (λ w. Writes g.S.Sink.taken g.S.Sink.faults c.loop-g.out c.put_optional_net.new.out (optional_net w (get_or c.args.classes.now c.loop-g.g None))) name c.put_optional_net.ensures in
    subst (λ l. Writes g.S.Sink.taken g.S.Sink.faults c.args.out.now c.put_optional_net.new.out l) (sym (nets_more c.args.names.now c.args.gates.now c.args.classes.now c.loop-g.g d in_gates c.loop-g-test.true)) (Writes-both c.loop-g.invariant next)
