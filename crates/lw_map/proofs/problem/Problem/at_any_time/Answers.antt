use Rattle.lw_map.specs.Covering.{cover_in}
use Rattle.lw_map.proofs.AnyTime.{traded_any_time}
use Rattle.lw_map.proofs.Problems.{mappable_by_area, never_lacks}
use Rattle.lw_map.proofs.problem.Problem.at_any_time.Goals as goal

pub mapped-requires : goal.mapped-requires
mapped-requires c = rw c.new-cost.ensures (mappable_by_area c.args.self.now c.requires.problem)

pub returns-in-Ok-clause-traded : goal.returns-in-Ok-clause-traded
returns-in-Ok-clause-traded c =
    let p = c.args.self.now in
    let (times, earliest) = c.requires.covered in
    let (ports, named, is) = c.in-Ok.ensures.mapped.cover.extracted in
    record {
      netlist = traded_any_time p.net.now p.starts.now p.choices.now p.lib.now c.requires.problem.network c.requires.problem.chosen c.in-Ok.mapping.labels
          (rw (c.requires.problem.patterns, c.new-cost.ensures) at c.in-Ok.ensures.mapped.least) ports named (cover_in c.in-Ok.mapping)
          (rw (c.requires.problem.patterns, c.new-cost.ensures) at is) times earliest
          c.requires.problem.library c.gates.ensures.kept c.in-Ok.ensures.mapped.cover.over c.requires.problem.outputs;
      tradeable = record { times = times; earliest = earliest; few = tt };
    }

pub unreachable-requires : goal.unreachable-requires
unreachable-requires c =
    never_lacks c.args.self.now c.requires.problem c.requires.covered c.in-Err-NoCover.field-0 c.in-Err-NoCover.field-0-0 (cc) (rw c.new-cost.ensures at c.in-Err-NoCover.ensures.lacks)
