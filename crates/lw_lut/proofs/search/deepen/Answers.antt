use Rattle.std.proofs.Common.{◌≡◌, ◌<◌, ◌+◌, ◌*◌, ◌||◌, ◌∙◌, length, ap, ap₂, sym, arith}
use Rattle.std.specs.Prelude.{unwrap_or}
use Rattle.lw_lut.specs.Searches.{depth_in}
use Rattle.lw_lut.proofs.Deepening.{none, none_is, read_depth, deepened}
use Rattle.lw_lut.proofs.search.deepen.Goals as goal

pub returns : goal.returns
returns c =
    let old = c.args.depths.now.items in
    let p = c.args.place in
    let d = c.args.depth in
    let lt1 : 2 * p < length old = omega (arith, c.requires) in
    let one = read_depth old (2 * p) c.index.result.now lt1 c.index.ensures in
    let two = read_depth old (2 * p + 1) c.index-2.result.now c.requires c.index-2.ensures in
    let u : c.unwrap_or.result ≡ unwrap_or (depth_in old (2 * p)) d = c.unwrap_or.ensures ∙ ap (λ o. unwrap_or o d) (sym one) in
    let w : c.unwrap_or-2.result ≡ unwrap_or (depth_in old (2 * p + 1)) d = c.unwrap_or-2.ensures ∙ ap (λ o. unwrap_or o d) (sym two) in
    let n = none_is c.index-2.result.now c.is_none.result c.is_none.ensures ∙ ap none (sym two) in
    let m = none_is c.index.result.now c.is_none-2.result c.is_none-2.ensures ∙ ap none (sym one) in
    deepened old p d c.unwrap_or.result c.unwrap_or-2.result c.either.result c.requires u w (c.either.ensures ∙ ap₂ (λ a b. a || b) n m)
