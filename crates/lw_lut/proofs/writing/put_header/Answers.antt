use Rattle.std.proofs.Common.{◌∷◌, ◌∙◌, take, ap, subst}
use Rattle.std.specs.Prelude.{codes}
use Rattle.lw_io.specs.Writers.{Writes}
use Rattle.lw_io.proofs.Putting.{Writes-both}
use Rattle.lw_lut.specs.declared.ports.TablePorts.{TablePorts}
use Rattle.lw_lut.proofs.writing.put_header.Goals as goal
use Rattle.lw_words.specs.Texts.{line}

pub returns : goal.returns
returns g c =
    let ports = c.ports-ports.ensures in
    let model = subst (λ w. Writes g.S.Sink.taken g.S.Sink.faults c.put.new.self c.put_word.new.out (32 ∷ w)) (c.as_bytes.ensures.bytes ∙ ap (λ (p : TablePorts). p.model) ports) c.put_word.ensures in
    let inputs = subst (λ ws. Writes g.S.Sink.taken g.S.Sink.faults c.put-2.new.self c.put_line.new.out (line (codes ".inputs") (take c.args.of.now.frame.now.inputs ws))) (c.as_slice.ensures ∙ ap (λ (p : TablePorts). p.inputs) ports) c.put_line.ensures in
    let outputs = subst (λ ws. Writes g.S.Sink.taken g.S.Sink.faults c.put_line.new.out c.put_line-2.new.out (line (codes ".outputs") (take c.args.of.now.frame.now.outputs ws))) (c.as_slice-2.ensures ∙ ap (λ (p : TablePorts). p.outputs) ports) c.put_line-2.ensures in
    Writes-both (Writes-both c.put.ensures (Writes-both model c.put-2.ensures)) (Writes-both inputs outputs)
