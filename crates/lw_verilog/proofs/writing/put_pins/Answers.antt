use Rattle.std.proofs.Common.{◌<◌, [], length, sym, ap₂, ◌∙◌, arith}
use Rattle.std.proofs.lemmas.List.{get_or_default}
use Rattle.lw_io.proofs.Putting.{Writes-both}
use Rattle.lw_verilog.specs.Texts.{tie_text}
use Rattle.lw_verilog.proofs.PutParts.{Writes-is, pins-more}
use Rattle.lw_verilog.proofs.writing.put_pins.Goals as goal

pub loop-k-preserved : goal.loop-k-preserved
loop-k-preserved g c =
    let in_nets : c.loop-k.k < length c.args.nets.now = omega (arith, c.requires.one_each, c.loop-k-test.true) in
    let pin = c.as_bytes.ensures.bytes ∙ (c.index-pins-k.is ∙ get_or_default c.args.pins.now c.loop-k.k c.index-pins-k.result [] c.loop-k-test.true) in
    Writes-is (Writes-both c.loop-k.invariant (Writes-both (Writes-is c.put_tie.ensures (ap₂ tie_text pin c.name_of.ensures)) c.put.ensures))
    (sym (pins-more c.args.names.now c.args.pins.now c.args.nets.now c.loop-k.k c.loop-k-test.true in_nets))
