use Rattle.std.proofs.Common.{◌∙◌, sym}
use Rattle.lw_pool.specs.declared.id.ClassId.{ClassId}
use Rattle.lw_lut.proofs.Fanins.{given_from, given_here, given_past}
use Rattle.lw_lut.proofs.table.given.Goals as goal

abbrev zero_class : ClassId
zero_class = record { 0 = 0 }

pub loop-k-preserved : goal.loop-k-preserved
loop-k-preserved c =
    c.loop-k.invariant ∙ given_from c.args.fanins.now.classes.now c.loop-k.k c.args.place c.args.class.0 zero_class c.loop-k-test.true c.if-classes-k.false

pub returns-then-classes-k : goal.returns-then-classes-k
returns-then-classes-k c =
    c.is_set.ensures ∙ sym (c.loop-k.invariant ∙ given_here c.args.fanins.now.classes.now c.loop-k.k c.args.place c.args.class.0 zero_class c.loop-k-test.true c.if-classes-k.true)

pub returns : goal.returns
returns c = sym (c.loop-k.invariant ∙ given_past c.args.fanins.now.classes.now c.loop-k.k c.args.place c.args.class.0 c.loop-k-test.false)
