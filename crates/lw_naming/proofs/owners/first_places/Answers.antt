use Rattle.std.proofs.Common.{◌≡◌, ◌==◌, drop, ap, ◌∙◌, arith}
use Rattle.std.specs.List.{position_from}
use Rattle.lw_pool.specs.declared.id.ClassId.{ClassId}
use Rattle.lw_naming.proofs.NamesGiven.{all_places}
use Rattle.lw_naming.proofs.owners.first_places.Goals as goal

pub returns : goal.returns
returns c =
    let roots = c.args.roots.now in
    let kept = c.loop-place.invariant in
    let end : c.loop-place.place ≡ 0 = omega (arith, c.loop-place-test.false) in
    all_places c.loop-place.firsts.items roots c.args.classes kept.one_each c.requires.in_range
    (λ k below. kept.are k below ∙ ap (λ p. position_from (λ (root : ClassId). root.0 == k) p (drop p roots)) end)
