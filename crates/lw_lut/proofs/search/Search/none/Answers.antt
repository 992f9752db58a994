use Rattle.std.proofs.Common.{◌≡◌, ◌+◌, ◌*◌, ◌/◌, ◌∙◌, suc, length, None, ap, sym, subst, arith}
use Rattle.std.specs.Prelude.{replicate}
use Rattle.lw_lut.specs.Searches.{IsStarted}
use Rattle.lw_lut.proofs.Started.{started_none}
use Rattle.lw_lut.proofs.search.Search.none.Goals as goal

pub returns : goal.returns
returns c =
    let g = c.args.graph.now in
    let most = c.args.leaves in
    let m = c.classes-classes.result in
    let n = m / 2 in
    let cuts = c.in_ok-no_cuts.field-0.items in
    let even = c.classes-classes.ensures.kept.even in
    let all = c.classes-classes.ensures.classes in
    let places : length g.pairs ≡ 2 * n = omega (arith, even, all) in
    let start = started_none g most n m cuts places c.in_ok-no_cuts.ensures all in
    let add : c.args.leaves + 1 ≡ suc most = omega arith in
    let counts : c.in_ok-same_counts.field-0.items ≡ replicate n (suc most) = c.in_ok-same_counts.ensures ∙ ap (λ k. replicate n k) add in
    subst (λ xs. IsStarted g most 0 xs cuts c.in_ok-no_pins.field-0.items c.in_ok-no_depths.field-0.items) (sym counts)
    (subst (λ xs. IsStarted g most 0 (replicate n (suc most)) cuts xs c.in_ok-no_depths.field-0.items) (sym c.in_ok-no_pins.ensures)
    (subst (λ xs. IsStarted g most 0 (replicate n (suc most)) cuts (replicate n None) xs) (sym c.in_ok-no_depths.ensures) start))
