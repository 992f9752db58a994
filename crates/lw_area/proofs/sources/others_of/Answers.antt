use Rattle.std.proofs.Common.{List, refl, subst}
use Rattle.std.proofs.lemmas.List.{take_all}
use Rattle.lw_area.specs.Sources.{AreOthersOf}
use Rattle.lw_area.specs.declared.sources.Further.{Further}
use Rattle.lw_area.proofs.Further.{others_more}
use Rattle.lw_area.proofs.sources.others_of.Goals as goal

pub loop-one-preserved : goal.loop-one-preserved
loop-one-preserved c =
    rw c.in_ok-push.ensures.items (others_more c.args.further.now c.loop-one.one-index c.one-item.result _ c.loop-one.others.items c.loop-one-test.true c.one-item.is c.loop-one.invariant (refl, c.deref.ensures.value))

pub returns : goal.returns
returns c = subst (λ (fs : List Further). AreOthersOf fs c.loop-one.others.items) (take_all c.loop-one.one-index c.args.further.now c.loop-one-test.false) c.loop-one.invariant
