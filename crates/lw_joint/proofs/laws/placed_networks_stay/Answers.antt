use Rattle.lw_joint.proofs.Staying.{inputs_begin, inputs_stay, placed_stays}
use Rattle.lw_joint.proofs.laws.placed_networks_stay.Goals as goal

pub returns-clause-begin : goal.returns-clause-begin
returns-clause-begin c = λ inputs places all. inputs_begin inputs places all

pub returns-clause-inputs : goal.returns-clause-inputs
returns-clause-inputs c = λ old new places extended has. inputs_stay old new places extended has

pub returns-clause-placed : goal.returns-clause-placed
returns-clause-placed c = λ old new net places lits extended placed. placed_stays old new net places lits extended placed
