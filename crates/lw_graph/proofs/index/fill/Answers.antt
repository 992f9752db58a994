use Rattle.std.proofs.Common.{refl, arith}
use Rattle.lw_graph.specs.Rows.{rows_from}
use Rattle.lw_graph.proofs.Indexing.{index_sorted, lists_all, lists_more, row_is}
use Rattle.lw_graph.proofs.index.fill.Goals as goal

pub loop-class-preserved : goal.loop-class-preserved
loop-class-preserved c =
    let l = c.loop-class in
    let pairs = c.args.parts.now.pairs.now.items in
    let ends = c.args.parts.now.ends.now in
    let row = c.row.result.now in
    lists_more (rows_from pairs 0 ends) l.class (record { 0 = l.class }) row l.entries.items c.add_row.new.entries.items refl (row_is pairs ends l.class row (omega arith) c.row.ensures) c.in_ok-add_row.ensures l.invariant

pub returns : goal.returns
returns c =
    let l = c.loop-class in
    let pairs = c.args.parts.now.pairs.now.items in
    let ends = c.args.parts.now.ends.now in
    index_sorted (rows_from pairs 0 ends) l.entries.items c.sort.new.entries.items (lists_all pairs ends l.class l.entries.items (omega arith) l.invariant) c.sort.ensures.permutation c.sort.ensures.sorted
