use Rattle.std.specs.Prelude.{codes, decimal}
use Rattle.lw_io.proofs.Putting.{Writes-both}
use Rattle.lw_area.proofs.Counting.{number_then}
use Rattle.lw_area.proofs.telling.put_counts.Goals as goal

pub returns : goal.returns
returns g c =
    let n = c.args.notes.now in
    let t = g.E.Sink.taken in
    let f = g.E.Sink.faults in
    Writes-both c.put.ensures
    (number_then t f (codes "networks ") (decimal n.networks) _ c.put_count.ensures
    (number_then t f (codes ", forms ") (decimal n.forms) _ (rw c.from.ensures at c.put_count-2.ensures)
    (number_then t f (codes ", pairs equal ") (decimal n.counts.equal) _ (rw c.from-2.ensures at c.put_count-3.ensures)
    (number_then t f (codes ", apart ") (decimal n.counts.apart) _ (rw c.from-3.ensures at c.put_count-4.ensures)
    (number_then t f (codes ", left ") (decimal n.counts.open) _ (rw c.from-4.ensures at c.put_count-5.ensures)
    (number_then t f (codes ", links ") (decimal n.counts.links) _ (rw c.from-5.ensures at c.put_count-6.ensures)
    (number_then t f (codes ", conflicts ") (decimal n.counts.conflicts) _ (rw c.from-6.ensures at c.put_count-7.ensures)
    (number_then t f (codes ", ms to read ") (decimal n.times.read) _ c.put_count-8.ensures
    (number_then t f (codes ", to join ") (decimal n.times.joined) _ c.put_count-9.ensures
    c.put_count-10.ensures)))))))))
