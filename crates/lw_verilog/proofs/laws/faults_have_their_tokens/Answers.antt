use Rattle.lw_verilog.specs.Tokens.{tokens}
use Rattle.lw_verilog.proofs.Faulted.{faulted}
use Rattle.lw_verilog.proofs.laws.faults_have_their_tokens.Goals as goal

pub returns : goal.returns
returns c = λ cells text fault e. faulted cells (tokens text) fault e
