use Rattle.lw_net.proofs.Closed.{closed_kept, closed_distinct, closed_inputs, closed_outputs}
use Rattle.lw_net.proofs.laws.closed_is_network.Goals as goal

pub returns : goal.returns
returns c = record {
  network = λ draft net is closed. closed_kept draft net is closed;
  names = λ draft net is closed. closed_distinct draft net is closed;
  inputs = λ draft net is closed. closed_inputs draft net is closed;
  outputs = λ draft net is closed. closed_outputs draft net is closed;
}
