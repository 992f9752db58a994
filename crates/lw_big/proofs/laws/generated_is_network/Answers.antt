use Rattle.lw_big.proofs.Kept.{generated_kept, generated_names, generated_inputs_differ, generated_outputs_differ, generated_input_count, generated_node_count}
use Rattle.lw_big.proofs.laws.generated_is_network.Goals as goal

pub returns : goal.returns
returns c = record {
  network = generated_kept;
  inputs = generated_input_count;
  nodes = generated_node_count;
  names = generated_names;
  input_names = generated_inputs_differ;
  output_names = generated_outputs_differ;
}
