use Rattle.std.proofs.Common.{◌≡◌, ◌<◌, ◌+◌, ℕ, true, length, vec_len}
use Rattle.lw_dag.specs.Graphs.{height_at, Leads}
use Rattle.lw_dag.specs.Searching.{is_seen, unseen}
use Rattle.lw_dag.proofs.cycles.on_cycle.Given as goal

abbrev pub invariant-walk : goal.invariant-walk
invariant-walk l = record {
  flags : vec_len l.seen ≡ length l.of.graph.now.nodes.now;
  within : l.at < length l.of.graph.now.nodes.now;
  lacks : height_at l.of.heights.now (l.of.graph.now.inputs + l.at) ≡ 0;
  led : (x : ℕ) → is_seen l.seen.items x ≡ true → Leads l.of.graph.now.inputs l.of.graph.now.nodes.now x (l.of.graph.now.inputs + l.at);
}

abbrev pub decreases-walk : goal.decreases-walk
decreases-walk l = unseen l.seen.items
