use Rattle.std.proofs.Common.{◌∷◌, ◌∙◌, map, subst}
use Rattle.std.specs.Prelude.{codes}
use Rattle.lw_io.specs.Writers.{Writes}
use Rattle.lw_io.proofs.Putting.{Writes-both}
use Rattle.lw_mapped.proofs.writing.put_header.Goals as goal
use Rattle.lw_words.specs.Texts.{line}
use Rattle.lw_netlist.specs.Plain.{port_name}

pub returns : goal.returns
returns g c =
    let model = subst (λ w. Writes g.S.Sink.taken g.S.Sink.faults c.put.new.self c.put_word.new.out (32 ∷ w)) (c.as_bytes.ensures.bytes ∙ c.model.ensures) c.put_word.ensures in
    let inputs = subst (λ ws. Writes g.S.Sink.taken g.S.Sink.faults c.put-2.new.self c.put_line.new.out (line (codes ".inputs") ws)) c.input_names.ensures c.put_line.ensures in
    let outputs = subst (λ ps. Writes g.S.Sink.taken g.S.Sink.faults c.put_line.new.out c.put_ports.new.out (line (codes ".outputs") (map port_name ps))) c.output_ports.ensures c.put_ports.ensures in
    Writes-both (Writes-both (Writes-both c.put.ensures (Writes-both model c.put-2.ensures)) inputs) outputs
