use Rattle.lw_aig.proofs.Values.{inputs_are_free}
use Rattle.lw_aig.proofs.laws.each_input_is_free.Goals as goal

pub returns : goal.returns
returns c = λ gates x aig. inputs_are_free x gates aig
