use Rattle.std.proofs.Common.{ap, sym, slice_index}
use Rattle.lw_reduce.specs.Lookups.{entry_fact}
use Rattle.lw_reduce.proofs.EqualOperands.{entry_is, entry_place}
use Rattle.lw_reduce.proofs.propagate.fact_in.Goals as goal

pub bounds-facts-entry : goal.bounds-facts-entry
bounds-facts-entry c = entry_place c.args.facts.now.nands.now c.args.slots.now c.args.slot c.requires.places c.requires.within c.if-entry-eq0.false

pub returns-then-entry-eq0 : goal.returns-then-entry-eq0
returns-then-entry-eq0 c = ap (entry_fact c.args.facts.now.nands.now) (sym c.if-entry-eq0.true)

pub returns : goal.returns
returns c =
    entry_is c.args.facts.now.nands.now (slice_index c.args.slots.now c.args.slot) c.if-entry-eq0.false (entry_place c.args.facts.now.nands.now c.args.slots.now c.args.slot c.requires.places c.requires.within c.if-entry-eq0.false)
