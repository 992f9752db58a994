use Rattle.std.proofs.Common.{◌∙◌, ap, sym}
use Rattle.std.proofs.lemmas.Bool.{eqb-true}
use Rattle.lw_genlib.specs.Words.{bit}
use Rattle.lw_equal.proofs.trying.agree.Goals as goal

pub returns : goal.returns
returns c same k lt = sym (c.literal_word.ensures k lt) ∙ (ap (bit k) (eqb-true _ _ same) ∙ c.literal_word-2.ensures k lt)
