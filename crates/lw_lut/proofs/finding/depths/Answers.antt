use Rattle.std.proofs.Common.{sym, subst, arith}
use Rattle.lw_lut.specs.Reaches.{AreReachesOf}
use Rattle.lw_lut.proofs.Rounds.{found_tables}
use Rattle.lw_lut.proofs.finding.depths.Goals as goal

pub returns : goal.returns
returns c =
    let s = c.find_all.new.self in
    let (d, are) = c.find_all.ensures.counts in
    record {
      one_each = are.one_depth;
      least = c.find_all.ensures.least;
      tables = found_tables c.args.graph.now c.args.leaves d (let two = c.requires.some in omega (arith, two)) s.counts.items s.cuts.items s.pins.items s.depths.items are;
    }

pub invariant_of-find_all : goal.invariant_of-find_all
invariant_of-find_all c = record {
  reaches = subst (AreReachesOf c.args.graph.now) (sym c.deref.ensures.value) c.in_ok-reach.ensures;
}
