use Rattle.std.proofs.Common.{List, subst, ◌<◌, ◌≡◌, length, get_or}
use Rattle.lw_laws.specs.Trees.{Tree}
use Rattle.lw_pattern.specs.Steps.{law_operator}
use Rattle.lw_pattern.proofs.Bracketings.{pairs_next}
use Rattle.lw_pattern.proofs.shapes.Shapes.push_pairs.Goals as goal

pub loop-first-preserved : goal.loop-first-preserved
loop-first-preserved c =
    pairs_next (law_operator c.args.operator) c.args.self.now c.loop-first.self _ c.args.left.now c.args.right.now c.loop-first.first-index c.first-item.result c.loop-first.invariant c.in_ok-push_each.ensures
    (subst (λ (ts : List Tree). c.loop-first.first-index < length ts) c.as_slice-first-items.ensures c.loop-first-test.true)
    (subst (λ (ts : List Tree). c.first-item.result ≡ get_or ts c.loop-first.first-index c.first-item.result) c.as_slice-first-items.ensures c.first-item.is)
