use Rattle.lw_words.proofs.Weights.{weights_fit}
use Rattle.lw_words.proofs.laws.words_fit.Goals as goal

pub returns : goal.returns
returns c = weights_fit
