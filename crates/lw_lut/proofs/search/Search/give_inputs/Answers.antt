use Rattle.std.proofs.Common.{subst, sym}
use Rattle.lw_lut.specs.Cuts.{IsCutAt, is_odd}
use Rattle.lw_lut.proofs.Sides.{pin_cut}
use Rattle.lw_lut.proofs.Started.{started_more}
use Rattle.lw_lut.proofs.search.Search.give_inputs.Goals as goal

pub loop-input-preserved : goal.loop-input-preserved
loop-input-preserved c =
    let s = c.loop-input.self in
    let g = c.args.graph.now in
    let q = c.leaf-class.result in
    let cut = c.pin.result in
    let stands : IsCutAt g q.0 (is_odd q.0) cut = subst (λ ps. IsCutAt g q.0 (is_odd q.0) (record { pins = ps; bits = cut.bits })) (sym c.pin.ensures.pins) (pin_cut g q cut.bits c.pin.ensures.low c.pin.ensures.high) in
    started_more g c.args.leaves c.loop-input.input s.counts.items s.cuts.items s.pins.items s.depths.items c.loop-input.invariant q c.leaf-class.ensures.class c.leaf-class.ensures.within cut c.pin.ensures.pins stands
