use Rattle.std.proofs.Common.{◌≤◌, rules}
use Rattle.std.specs.Prelude.{All}
use Rattle.lw_laws.specs.Trees.{Tree}
use Rattle.lw_laws.specs.Patterns.{trees_of_expr}
use Rattle.lw_pattern.specs.Nodes.{node_count}
use Rattle.lw_pattern.proofs.Sizes.{all_few_nodes}
use Rattle.lw_pattern.proofs.library.push_form.Goals as goal

pub nodes-requires : goal.nodes-requires
nodes-requires c =
    let few : All (λ (t : Tree). node_count t ≤ 254) (trees_of_expr c.args.form.now) = all_few_nodes c.args.form.now c.ops.ensures.wide c.ops.ensures.few in
    search rules
