use Rattle.std.proofs.Common.{◌+◌, ◌*◌, ◌%◌, ap, ap₂, ◌∙◌, arith}
use Rattle.lw_big.specs.Generated.{first_fanin, second_fanin, node_kind, other_than}
use Rattle.lw_big.proofs.Stepping.{draw_as}
use Rattle.lw_big.proofs.nodes.draw_node.Goals as goal

pub returns-clause-first : goal.returns-clause-first
unfolding first_fanin
returns-clause-first c = λ seed has. ap (λ n. n % (16 + c.args.k)) (c.draw.ensures.value seed (3 * c.args.k) has)

pub returns-clause-second : goal.returns-clause-second
unfolding first_fanin second_fanin
returns-clause-second c = λ seed has.
    let signals = 16 + c.args.k in
    let count = 3 * c.args.k in
    c.other_than-second.ensures
    ∙ ap₂ (λ m n. other_than (m % signals) (n % signals) signals) (c.draw.ensures.value seed count has) (c.draw-2.ensures.value seed (count + 1) (c.draw.ensures.draws seed count has))

pub returns-clause-kind : goal.returns-clause-kind
unfolding node_kind
returns-clause-kind c = λ seed has.
    let count = 3 * c.args.k in
    let drawn = c.draw-kind.ensures.value seed (count + 1 + 1) (c.draw-2.ensures.draws seed (count + 1) (c.draw.ensures.draws seed count has)) in
    ap (λ n. n % 4) (drawn ∙ draw_as seed (count + 1 + 1) (count + 2) (omega arith))
