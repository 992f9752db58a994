use Rattle.std.proofs.Common.{subst, subst₂, sym}
use Rattle.std.specs.List.Sorted.{IsNonDecreasingBy, IsPermutation}
use Rattle.lw_pool.specs.declared.id.ClassId.{ClassId}
use Rattle.lw_lut.proofs.RisingClasses.{gathered_step, gathered_all}
use Rattle.lw_lut.proofs.table.rising.Goals as goal

abbrev zero_class : ClassId
zero_class = record { 0 = 0 }

pub returns : goal.returns
returns c =
    let items = c.deref-class-items.result.now in
    let moved : IsPermutation c.args.classes.now items = subst₂ (λ xs ys. IsPermutation xs ys) c.in_ok-sorted.ensures.items (sym c.deref-class-items.ensures.value) c.sort.ensures.permutation in
    let all = gathered_all c.args.classes.now items c.loop-class.rising.items c.loop-class.class-index moved c.loop-class-test.false c.loop-class.invariant in
    record { are_rising = all.0; same = all.1; few = all.2 }

pub loop-class-preserved : goal.loop-class-preserved
loop-class-preserved c =
    let items = c.deref-class-items.result.now in
    let up = subst (λ xs. IsNonDecreasingBy (λ (x : ClassId). x.0) xs) (sym c.deref-class-items.ensures.value) c.sort.ensures.sorted in
    gathered_step items c.loop-class.rising.items c.add.new.classes.items c.loop-class.class-index zero_class up c.loop-class-test.true c.in_ok-add.ensures c.loop-class.invariant
