use Rattle.std.proofs.Common.{◌∙◌, All, length, subst, subst₂, sym}
use Rattle.lw_aig.specs.Aigs.{IsAig}
use Rattle.lw_equal.specs.Trying.{AreBelow, ArePairsEqual}
use Rattle.lw_equal.proofs.Ended.{all_one, ends_below}
use Rattle.lw_equal.proofs.small.try_in.Goals as goal

pub try_all-requires-clause-aig : goal.try_all-requires-clause-aig
try_all-requires-clause-aig c = subst IsAig (sym c.gates-gates.ensures.gates) c.gates-gates.ensures.kept

pub try_all-requires-clause-few : goal.try_all-requires-clause-few
try_all-requires-clause-few c = c.can_try.ensures.few c.if-not-can_try.false

pub try_all-requires-clause-own : goal.try_all-requires-clause-own
try_all-requires-clause-own c = c.can_try.ensures.own c.if-not-can_try.false

pub try_all-requires-clause-within : goal.try_all-requires-clause-within
try_all-requires-clause-within c =
    let found = rw c.in-Some.is at c.in_ok-ends.ensures in
    let same = c.gates-gates.ensures.gates ∙ c.aig.ensures in
    subst₂ (λ gates ends. All (AreBelow (length gates)) ends) (sym same) (sym c.deref.ensures.value)
    (ends_below c.args.sweep.now c.args.case.now c.args.pairs.now c.in-Some.ends.items c.requires.case found)

pub returns-in-Same : goal.returns-in-Same
returns-in-Same c =
    let found = rw c.in-Some.is at c.in_ok-ends.ensures in
    let same = c.gates-gates.ensures.gates ∙ c.aig.ensures in
    let told = rw c.in-Same.is at c.in_ok-try_all.ensures in
    all_one c.args.sweep.now c.args.case.now c.args.pairs.now c.in-Some.ends.items c.requires.case found
    (subst IsAig c.aig.ensures c.gates-gates.ensures.kept) (subst₂ ArePairsEqual same c.deref.ensures.value told)
