use Rattle.std.proofs.Common.{All, arith, subst, sym}
use Rattle.lw_equal.specs.Trying.{AreBelow}
use Rattle.lw_equal.proofs.Tried.{one_more_block, pairs_equal}
use Rattle.lw_equal.proofs.trying.try_blocks.Goals as goal

pub loop-block-init : goal.loop-block-init
loop-block-init c = record { size = c.requires.one_each; earlier = λ b lt. absurd (omega (arith, lt)) }

pub all_agree-requires : goal.all_agree-requires
all_agree-requires c = subst (λ n. All (AreBelow n) c.args.ends.now) (sym c.fill.ensures.one_each) c.requires.within

pub first_apart-place-requires : goal.first_apart-place-requires
first_apart-place-requires c = subst (λ n. All (AreBelow n) c.args.ends.now) (sym c.fill.ensures.one_each) c.requires.within

pub loop-block-preserved : goal.loop-block-preserved
loop-block-preserved c = record {
  size = c.fill.ensures.one_each;
  earlier = one_more_block c.args.gates.now c.args.ends.now c.loop-block.block c.loop-block.invariant.earlier
      (record { words = c.fill.new.words; are = c.fill.ensures; agree = c.all_agree.ensures c.if-not-all_agree.false });
}

pub returns : goal.returns
returns c = pairs_equal c.args.gates.now c.args.inputs c.args.ends.now c.requires.aig c.requires.few c.requires.own c.requires.within (λ b lt. c.loop-block.invariant.earlier b (omega (arith, lt, c.loop-block-test.false, c.blocks-block-end.ensures)))
