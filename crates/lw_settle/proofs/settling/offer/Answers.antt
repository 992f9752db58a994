use Rattle.std.proofs.Common.{None, not, get_or, ap, ◌∙◌, arith}
use Rattle.lw_facts.proofs.Tests.{none_when_not_some}
use Rattle.lw_settle.proofs.Rising.{marked_below}
use Rattle.lw_settle.proofs.settling.offer.Goals as goal

pub offer-requires-clause-height : goal.offer-requires-clause-height
offer-requires-clause-height c =
    let none = none_when_not_some (get_or c.args.marks.now c.args.class.0 None) (c.is_none.ensures ∙ ap not c.if-is_none.true) in
    omega (arith, marked_below c.args.marks.now c.args.class.0 c.args.mark c.requires.class none, c.requires.few, c.requires.height)
