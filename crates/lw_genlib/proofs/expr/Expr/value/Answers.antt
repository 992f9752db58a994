use Rattle.std.proofs.Common.{◌∙◌, refl, arith}
use Rattle.lw_laws.specs.Networks.{given}
use Rattle.lw_genlib.proofs.Bits.{value_same}
use Rattle.lw_genlib.proofs.Evaluating.{low_bit, value_in_words}
use Rattle.lw_genlib.proofs.expr.Expr.value.Goals as goal

pub returns : goal.returns
returns c =
    low_bit c.words.result
    ∙ (c.words.ensures 0 (omega arith) ∙ value_same _ (given c.args.pins.now) (value_in_words c.args.pins.now c.as_words-words.result _ refl c.as_words-words.ensures) c.args.self.now)
