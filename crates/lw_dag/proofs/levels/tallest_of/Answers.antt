use Rattle.std.proofs.Common.{◌≡◌, ◌∙◌, ℕ, ap, get_or, max, arith}
use Rattle.std.proofs.lemmas.Bool.Decides.{nat_tests}
use Rattle.std.proofs.lemmas.List.{drop_all, drop_more}
use Rattle.std.specs.Ordering.{nat_cmp, ord_max}
use Rattle.lw_dag.specs.Graphs.{height_at, tallest}
use Rattle.lw_dag.proofs.Rising.{tallest_least}
use Rattle.lw_dag.proofs.levels.tallest_of.Goals as goal

larger_is_max : (a b : ℕ) → ord_max nat_cmp a b ≡ max a b
larger_is_max a b = grind (arith, nat_tests)

pub loop-s-init : goal.loop-s-init
loop-s-init c = record { so_far = omega (arith, tallest_least c.args.heights.now c.args.fanins.now); least = omega arith }

pub loop-s-preserved : goal.loop-s-preserved
loop-s-preserved c =
    let heights = c.args.heights.now in
    let fanins = c.args.fanins.now in
    let most = c.loop-s.most in
    let next = height_at heights (get_or fanins c.loop-s.s-index 0) in
    let larger : c.max-most.result ≡ max most next = c.max-most.ensures ∙ larger_is_max most next in
    let more = ap (tallest heights) (drop_more fanins c.loop-s.s-index 0 c.loop-s-test.true) in
    record { so_far = omega (arith, larger, more, c.loop-s.invariant.so_far); least = omega (arith, larger, c.loop-s.invariant.least) }

pub returns : goal.returns
returns c =
    let none = ap (tallest c.args.heights.now) (drop_all c.loop-s.s-index c.args.fanins.now (omega (arith, c.loop-s-test.false))) in
    omega (arith, none, c.loop-s.invariant.so_far, c.loop-s.invariant.least)
