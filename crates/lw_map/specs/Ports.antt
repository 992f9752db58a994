-- The ports at which the graph of a network is covered.
use Rattle.std.specs.Prelude.{◌≡◌}
use Rattle.lw_net.specs.Networks.{NetworkParts, input_names, output_names}
use Rattle.lw_extract.specs.declared.ports.Ports.{Ports}
use Rattle.lw_map.specs.declared.choices.Choices.{Choices}

-- the names of the model, the inputs and the outputs, and the class of each output
pub record ArePortsOf (net : NetworkParts) (c : Choices) (ports : Ports) : Type 0 where
  pub model : ports.model ≡ net.model
  pub inputs : ports.inputs ≡ input_names net
  pub outputs : ports.outputs ≡ output_names net
  pub roots : ports.roots ≡ c.roots
