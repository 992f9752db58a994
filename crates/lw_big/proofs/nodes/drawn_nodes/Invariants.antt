use Rattle.std.proofs.Common.{◌≡◌, ◌*◌}
use Rattle.lw_big.specs.Drawing.{HasDrawn}
use Rattle.lw_big.specs.Generated.{drawn_nodes}
use Rattle.lw_big.proofs.nodes.drawn_nodes.Given as goal

abbrev pub invariant-loop-k : goal.invariant-loop-k
invariant-loop-k l = record {
  drawn : HasDrawn l.fn.seed (3 * l.k) l.draws;
  nodes : l.nodes ≡ drawn_nodes l.fn.seed 0 l.k;
}
