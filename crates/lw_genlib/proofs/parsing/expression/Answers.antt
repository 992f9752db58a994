use Rattle.std.proofs.Common.{sym, subst, arith}
use Rattle.lw_genlib.specs.Grammar.{SpellsSum}
use Rattle.lw_genlib.proofs.Opening.{begins, may_take, taken, all_read, few_products, whole_steps, whole_read}
use Rattle.lw_genlib.proofs.parsing.expression.Goals as goal

pub loop-token-init : goal.loop-token-init
loop-token-init c = begins c.args.pins.now c.args.tokens.now _ c.new-reading.ensures c.requires.fits

pub take-requires-clause-may : goal.take-requires-clause-may
take-requires-clause-may c = may_take c.args.pins.now c.args.tokens.now c.loop-token.token-index c.loop-token.reading c.loop-token.invariant c.token-item.result c.loop-token-test.true c.token-item.is c.requires.few c.requires.short

pub loop-token-preserved : goal.loop-token-preserved
loop-token-preserved c = taken c.args.pins.now c.args.tokens.now c.loop-token.token-index c.loop-token.reading c.loop-token.invariant c.token-item.result c.loop-token-test.true c.token-item.is c.requires.few c.requires.short _ c.in_ok-take.ensures

pub end_sum-requires : goal.end_sum-requires
end_sum-requires c =
    few_products c.args.pins.now c.args.tokens.now c.loop-token.reading
    (all_read c.args.pins.now c.args.tokens.now c.loop-token.token-index c.loop-token.reading c.loop-token.invariant (omega (arith, c.loop-token-test.false))) c.requires.few

pub new-requires : goal.new-requires
new-requires c =
    (whole_read c.args.pins.now c.args.tokens.now _
    (whole_steps c.args.pins.now c.args.tokens.now c.loop-token.reading
    (all_read c.args.pins.now c.args.tokens.now c.loop-token.token-index c.loop-token.reading c.loop-token.invariant (omega (arith, c.loop-token-test.false))) _ c.in_ok-end_sum.ensures) c.requires.fits c.requires.few).steps

pub returns : goal.returns
returns c =
    subst (SpellsSum c.args.pins.now c.args.tokens.now) (sym c.new.ensures)
    (whole_read c.args.pins.now c.args.tokens.now _
    (whole_steps c.args.pins.now c.args.tokens.now c.loop-token.reading
    (all_read c.args.pins.now c.args.tokens.now c.loop-token.token-index c.loop-token.reading c.loop-token.invariant (omega (arith, c.loop-token-test.false))) _ c.in_ok-end_sum.ensures) c.requires.fits c.requires.few).spelled
