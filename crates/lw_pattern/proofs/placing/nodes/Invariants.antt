use Rattle.std.proofs.Common.{◌≤◌, ◌≡◌, length}
use Rattle.std.specs.Prelude.{vec_capacity}
use Rattle.lw_pattern.specs.Nodes.{node_count}
use Rattle.lw_pattern.proofs.Placement.{IsPlacing}
use Rattle.lw_pattern.proofs.placing.nodes.Given as goal

abbrev pub invariant-loop-place : goal.invariant-loop-place
invariant-loop-place l = record {
  placing : IsPlacing l.tree l.place l.nodes.items l.roots.items;
  long : length l.nodes.items ≡ l.place;
  room : node_count l.tree ≤ vec_capacity l.nodes;
}
