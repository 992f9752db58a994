use Rattle.std.proofs.Common.{◌≡◌, ◌<◌, map, take, length}
use Rattle.std.specs.Prelude.{All}
use Rattle.lw_pool.specs.declared.id.ClassId.{ClassId}
use Rattle.lw_map.specs.Choices.{root_of}
use Rattle.lw_map.proofs.choices.roots.Given as goal
use Rattle.lw_pool.specs.Numbers.{numbers}

abbrev pub invariant-loop-output : goal.invariant-loop-output
invariant-loop-output l = record {
  roots : numbers l.roots.items ≡ map (root_of l.forms l.graph) (take l.output-index l.outputs);
  within : All (λ (root : ClassId). root.0 < length l.graph.pairs) l.roots.items;
}
