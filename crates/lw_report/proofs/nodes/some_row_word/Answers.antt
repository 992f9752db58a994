use Rattle.std.proofs.Common.{◌∙◌, ℕ, List, map, ap}
use Rattle.std.specs.List.{list_any}
use Rattle.lw_laws.specs.Networks.{row_value}
use Rattle.lw_net.specs.Signs.{asked}
use Rattle.lw_report.specs.Blocks.{bits_at}
use Rattle.lw_report.proofs.SimLemmas.{rows_more, rows_done}
use Rattle.lw_report.proofs.nodes.some_row_word.Goals as goal
use Rattle.lw_pool.specs.Numbers.{values_at}

pub loop-row-preserved : goal.loop-row-preserved
loop-row-preserved c = λ k below.
    let nets = c.args.nets.now in
    let fanins = c.args.fanins.now in
    let rows = c.args.rows.now in
    let test = row_value (values_at (bits_at k nets) fanins) in
    let row : List ℕ = c.row-item.result in
    let is = c.row_word-some.ensures k below ∙ ap (λ (r : List ℕ). test (map asked r)) c.as_slice.ensures.bytes in
    rows_more k c.loop-row.some c.row_word-some.result test rows c.loop-row.row-index row (list_any test (map (map asked) rows)) c.loop-row-test.true c.row-item.is is (c.loop-row.invariant k below)

pub returns : goal.returns
returns c = λ k below.
    let test = row_value (values_at (bits_at k c.args.nets.now) c.args.fanins.now) in
    rows_done k c.loop-row.some test c.args.rows.now c.loop-row.row-index (list_any test (map (map asked) c.args.rows.now)) c.loop-row-test.false (c.loop-row.invariant k below)
