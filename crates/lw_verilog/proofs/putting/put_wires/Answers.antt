use Rattle.std.proofs.Common.{[], map, cond, codes, ap, ap₂, sym, ◌∙◌, arith}
use Rattle.std.specs.List.{flat_map}
use Rattle.std.proofs.lemmas.List.{get_or_default, take_all}
use Rattle.lw_io.proofs.Putting.{Writes-more}
use Rattle.lw_named_netlist.specs.Closing.{is_among}
use Rattle.lw_verilog.specs.Texts.{declaration, wire_text}
use Rattle.lw_verilog.proofs.PutParts.{Writes-is}
use Rattle.lw_verilog.proofs.putting.put_wires.Goals as goal
use Rattle.lw_netlist.specs.Plain.{port_name}

pub loop-place-preserved : goal.loop-place-preserved
loop-place-preserved g c =
    let names = c.args.names.now in
    let outputs = map port_name c.args.outputs.now in
    let place = c.loop-place.place in
    let known = c.is_output-is_output.ensures.known ∙ ap (is_among outputs) (sym (get_or_default names place c.index-names-place.result [] c.loop-place-test.true)) in
    let name = c.as_bytes.ensures.bytes ∙ c.index-names-place.is in
    record {
      stands = c.is_output-is_output.ensures.stands;
      put = Writes-more (wire_text outputs) names place c.index-names-place.result c.loop-place-test.true c.loop-place.invariant.put
          (Writes-is c.put_wire.ensures (ap₂ (λ b l. cond b [] (declaration (codes "wire ") l)) known name));
    }

pub returns : goal.returns
returns g c = Writes-is c.loop-place.invariant.put (ap (flat_map (wire_text (map port_name c.args.outputs.now))) (take_all c.loop-place.place c.args.names.now (omega (arith, c.loop-place-test.false))))
