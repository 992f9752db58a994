use Rattle.std.proofs.Common.{false, true, sym, ◌∙◌}
use Rattle.lw_net.proofs.Filling.{row_step}
use Rattle.lw_net.proofs.eval.row_holds.Goals as goal

pub returns-then-not-is_met : goal.returns-then-not-is_met
returns-then-not-is_met c =
    sym (row_step c.args.nets.now c.args.fanins.now c.args.row.now c.loop-i.i false c.requires.columns c.loop-i-test.true (sym c.if-not-is_met.true ∙ c.is_met.ensures)) ∙ c.loop-i.invariant

pub loop-i-preserved : goal.loop-i-preserved
loop-i-preserved c =
    sym (row_step c.args.nets.now c.args.fanins.now c.args.row.now c.loop-i.i true c.requires.columns c.loop-i-test.true (sym c.if-not-is_met.false ∙ c.is_met.ensures)) ∙ c.loop-i.invariant
