use Rattle.std.proofs.Common.{◌<◌, ◌&&◌, length, map, ap, arith}
use Rattle.std.proofs.lemmas.List.Elements.{All-get_or}
use Rattle.lw_pool.specs.declared.id.NetId.{NetId}
use Rattle.lw_laws.specs.Networks.{row_value}
use Rattle.lw_net.specs.Signs.{asked}
use Rattle.lw_report.specs.Blocks.{bits_at}
use Rattle.lw_report.proofs.Bits.{bit_ones}
use Rattle.lw_report.proofs.SimLemmas.{row_more, row_done}
use Rattle.lw_report.proofs.nodes.row_word.Goals as goal
use Rattle.lw_pool.specs.Numbers.{values_at}

pub loop-i-init : goal.loop-i-init
loop-i-init c = λ k below. ap (λ b. b && row_value (values_at (bits_at k c.args.nets.now) c.args.fanins.now) (map asked c.args.row.now)) (bit_ones k below)

pub loop-i-preserved : goal.loop-i-preserved
loop-i-preserved c = λ k below.
    let nets = c.args.nets.now in
    let fanins = c.args.fanins.now in
    let row = c.args.row.now in
    let i = c.loop-i.i in
    let in_fanins : i < length fanins = omega (arith, c.requires.columns, c.loop-i-test.true) in
    let inside = All-get_or (λ (net : NetId). net.0 < length nets) fanins i (record { 0 = 0 }) in_fanins c.requires.known in
    row_more k nets fanins row i c.loop-i.all c.met-all.result (row_value (values_at (bits_at k nets) fanins) (map asked row)) c.requires.columns c.loop-i-test.true inside (c.met-all.ensures k below) (c.loop-i.invariant k below)

pub returns : goal.returns
returns c = λ k below. row_done k c.args.nets.now c.args.fanins.now c.args.row.now c.loop-i.i c.loop-i.all (row_value (values_at (bits_at k c.args.nets.now) c.args.fanins.now) (map asked c.args.row.now)) c.requires.columns c.loop-i-test.false (c.loop-i.invariant k below)
