use Rattle.std.proofs.Common.{◌∙◌, ap, length}
use Rattle.std.proofs.lemmas.List.{length-append}
use Rattle.lw_graph.proofs.Rows.{kept_by_push, rows_by_push}
use Rattle.lw_reduce.proofs.sorted_pairs.add_row.Goals as goal

pub returns : goal.returns
returns c = record {
  ends = let old = c.args.rows.now in
      let n = c.len.ensures ∙ (ap length c.in_ok-append.ensures ∙ length-append old.pairs.items c.args.row.now) in
      kept_by_push old.pairs.items c.append.new.pool.items c.args.row.now old.ends c.push.new.self c.len.result c.requires.ends c.in_ok-append.ensures n c.in_ok-push.ensures;
  rows = let old = c.args.rows.now in
      let n = c.len.ensures ∙ (ap length c.in_ok-append.ensures ∙ length-append old.pairs.items c.args.row.now) in
      rows_by_push old.pairs.items c.append.new.pool.items c.args.row.now old.ends c.push.new.self c.len.result c.requires.ends c.in_ok-append.ensures n c.in_ok-push.ensures;
  size = ap length c.in_ok-append.ensures ∙ length-append c.args.rows.now.pairs.items c.args.row.now;
}
