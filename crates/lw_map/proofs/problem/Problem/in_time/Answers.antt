use Rattle.std.proofs.Common.{arith}
use Rattle.lw_map.specs.Trading.{micros}
use Rattle.lw_map.proofs.Deadlines.{ports_in, latest_low, are_targets, curves_for}
use Rattle.lw_map.proofs.FewPoints.{few_points}
use Rattle.lw_map.proofs.OwnNames.{netlist_traded}
use Rattle.lw_map.proofs.problem.Problem.in_time.Goals as goal

pub curves-requires-clause-horizon : goal.curves-requires-clause-horizon
curves-requires-clause-horizon c =
    let low = latest_low 9223372036854775808 c.args.deadline.0 c.args.times.now (let l = c.requires.late in omega arith) c.requires.least.low in
    let is = c.latest_of-horizon.ensures in
    omega (arith, is)

pub trade-netlist-requires-clause-targets : goal.trade-netlist-requires-clause-targets
trade-netlist-requires-clause-targets c =
    are_targets c.args.self.now.net.now c.args.self.now.starts.now c.args.self.now.choices.now c.args.self.now.lib.now c.requires.problem.network c.requires.problem.chosen c.args.times.now c.args.deadline c.requires.least.earliest (ports_in c.in_ok-targets.targets) c.in_ok-targets.ensures.ports c.in_ok-targets.targets.times
    c.in_ok-targets.ensures.times c.requires.problem.outputs

pub trade-netlist-requires-clause-curves : goal.trade-netlist-requires-clause-curves
trade-netlist-requires-clause-curves c =
    rw c.requires.problem.patterns (curves_for c.args.self.now.net.now c.args.self.now.starts.now c.args.self.now.choices.now c.args.self.now.lib.now c.requires.problem.network c.requires.problem.chosen c.args.times.now c.args.deadline c.requires.least.earliest (ports_in c.in_ok-targets.targets) c.in_ok-targets.ensures.ports c.in_ok-targets.targets.times
    c.in_ok-targets.ensures.times
    c.requires.problem.library c.latest_of-horizon.result c.latest_of-horizon.ensures c.in_ok-curves.curves (rw c.requires.problem.patterns at c.in_ok-curves.ensures.curves) (rw c.requires.problem.patterns at c.in_ok-curves.ensures.bound) (rw c.requires.problem.patterns at c.in_ok-curves.ensures.ways) c.in_ok-curves.ensures.few)

pub returns-clause-traded : goal.returns-clause-traded
returns-clause-traded c =
    let p = c.args.self.now in
    let same = c.latest_of-horizon.ensures in
    record {
      netlist = netlist_traded p.net.now p.starts.now p.choices.now p.lib.now c.requires.problem.network c.requires.problem.chosen c.args.times.now c.args.deadline c.requires.least.earliest (ports_in c.in_ok-targets.targets) c.in_ok-targets.ensures.ports c.in_ok-targets.targets.times
          c.in_ok-targets.ensures.times c.in_ok-netlist.netlist c.gates.ensures.kept (rw c.requires.problem.patterns at c.in_ok-netlist.ensures) c.requires.problem.outputs c.requires.problem.library;
      tradeable = record {
        times = micros c.args.times.now;
        earliest = c.requires.least.earliest;
        few = few_points p.net.now p.choices.now c.requires.problem.chosen p.lib.now p.starts.now c.args.deadline (micros c.args.times.now) c.requires.least.earliest c.in_ok-curves.curves.points
            (rw (c.requires.problem.patterns, same) at c.in_ok-curves.ensures.curves) (rw (c.requires.problem.patterns, same) at c.in_ok-curves.ensures.bound) c.in_ok-curves.ensures.few;
      };
    }
