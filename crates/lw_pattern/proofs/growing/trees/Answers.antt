use Rattle.std.proofs.Common.{◌≡◌, ◌≤◌, ◌<◌, List, [], ◌∷◌, length, arith}
use Rattle.std.proofs.lemmas.Result.{IfOk-weaker}
use Rattle.lw_laws.specs.Trees.{Tree}
use Rattle.lw_laws.specs.Patterns.{bracketed, trees_of_expr}
use Rattle.lw_genlib.specs.Postfix.{postfix, run}
use Rattle.lw_pattern.specs.Growing.{capped, trees_by}
use Rattle.lw_pattern.specs.declared.step.Bracketing.TheVariants.{Every, LeftChain}
use Rattle.lw_pattern.proofs.Meanings.{every_left, chain_left}
use Rattle.lw_pattern.proofs.growing.trees.Goals as goal

pub returns-then-branch-le-MOST_TREES : goal.returns-then-branch-le-MOST_TREES
returns-then-branch-le-MOST_TREES c =
    let few : capped (length (bracketed c.args.form.now)) ≤ 64 = omega arith in
    IfOk-weaker c.grown.result (λ (ts : List Tree). run (trees_by Every) (postfix c.args.form.now) [] ≡ ts ∷ []) (λ (ts : List Tree). ts ≡ trees_of_expr c.args.form.now)
    (λ ts left. every_left c.args.form.now ts left few) c.grown.ensures

pub returns-else-branch-le-MOST_TREES : goal.returns-else-branch-le-MOST_TREES
returns-else-branch-le-MOST_TREES c =
    let many : 64 < capped (length (bracketed c.args.form.now)) = omega arith in
    IfOk-weaker c.grown-else-branch-le-MOST_TREES.result (λ (ts : List Tree). run (trees_by LeftChain) (postfix c.args.form.now) [] ≡ ts ∷ []) (λ (ts : List Tree). ts ≡ trees_of_expr c.args.form.now)
    (λ ts left. chain_left c.args.form.now ts left many) c.grown-else-branch-le-MOST_TREES.ensures
