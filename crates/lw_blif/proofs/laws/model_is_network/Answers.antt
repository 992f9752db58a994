use Rattle.lw_blif.proofs.Models.{lines_model}
use Rattle.lw_blif.proofs.laws.model_is_network.Goals as goal

pub returns : goal.returns
returns c = λ lines model is. lines_model lines model is
