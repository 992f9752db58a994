use Rattle.std.proofs.lemmas.Bool.{eq-eqb, eqb-true}
use Rattle.lw_genlib.proofs.Assignments.{words_agree, agreeing_words}
use Rattle.lw_genlib.proofs.truth.agree_in.Goals as goal

pub returns : goal.returns
returns c = (
  (λ same. words_agree c.args.first.now c.args.other.now c.args.pins c.args.block c.pin_words-words.result c.words.result c.words-2.result
      c.pin_words-words.ensures c.requires.few c.requires.first c.requires.other c.words.ensures c.words-2.ensures (eqb-true _ _ same)),
  (λ agree. eq-eqb _ _ (agreeing_words c.args.first.now c.args.other.now c.args.pins c.args.block c.pin_words-words.result c.words.result c.words-2.result
      c.pin_words-words.ensures c.requires.few c.requires.first c.requires.other c.words.ensures c.words-2.ensures c.words.type_inv c.words-2.type_inv agree)),
)
