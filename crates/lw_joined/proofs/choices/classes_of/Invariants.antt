use Rattle.std.proofs.Common.{◌≡◌, ◌<◌, All, length, map, take}
use Rattle.lw_pool.specs.declared.id.ClassId.{ClassId}
use Rattle.lw_pool.specs.Numbers.{numbers}
use Rattle.lw_map.specs.Choices.{root_of}
use Rattle.lw_joined.proofs.choices.classes_of.Given as goal

abbrev pub invariant-loop-net : goal.invariant-loop-net
invariant-loop-net l = record {
  classes : numbers l.classes.items ≡ map (root_of l.forms l.graph) (take l.net-index l.nets);
  within : All (λ (class : ClassId). class.0 < length l.graph.pairs) l.classes.items;
}
