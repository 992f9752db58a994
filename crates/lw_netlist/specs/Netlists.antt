-- What a netlist is seen as, as plain data and by the names of its ports, and what its type keeps.
use Rattle.std.specs.Prelude.{ℕ, ◌+◌, ◌-◌, ◌^◌, ◌<◌, ◌≤◌, ◌≡◌, List, Some, length, map, take, slice_get, All}
use Rattle.lw_pool.specs.declared.id.NetId.{NetId}
use Rattle.lw_laws.specs.Netlists as laws
use Rattle.lw_laws.specs.Headline.{Port as PlainPort, Ports}
use Rattle.lw_pool.specs.Numbers.{net_number}
use Rattle.lw_netlist.specs.declared.gate.Gate.{Gate}
use Rattle.lw_netlist.specs.declared.gate.Port.{Port}

-- Nets below `inputs` are the inputs; the gates drive the nets after those, in order.
pub record NetlistParts : Type 0 where
  pub model : List ℕ
  pub names : List (List ℕ)
  pub inputs : ℕ
  pub gates : List Gate
  pub outputs : List Port

abbrev pub plain_gate : Gate → laws.Gate
plain_gate gate = record { cell = gate.cell.0; pins = map net_number gate.pins }

-- the netlist without names
abbrev pub plain : NetlistParts → laws.Netlist
plain n = record { inputs = n.inputs; gates = map plain_gate n.gates }

abbrev pub port_name : Port → List ℕ
port_name port = port.name

-- an output, without names of nets
abbrev pub plain_port : Port → PlainPort
plain_port port = record { name = port.name; net = port.net.0 }

-- the names of the inputs, and the outputs
abbrev pub mapped_ports : NetlistParts → Ports
mapped_ports n = record { inputs = take n.inputs n.names; outputs = map plain_port n.outputs }

-- how many nets there are at most
abbrev pub most_nets : ℕ
most_nets = 2 ^ 32 - 2

-- how many gates there are at most where values or arrivals are wanted
abbrev pub most_gates : ℕ
most_gates = 8000000

-- what holds of gate j
pub record IsGateAt (inputs j : ℕ) (gate : Gate) : Type 0 where
  pub drives : gate.out.0 ≡ inputs + j
  pub before : All (λ (net : NetId). net.0 < inputs + j) gate.pins

-- what each netlist keeps
pub record IsNetlist (n : NetlistParts) : Type 0 where
  pub named : length n.names ≡ n.inputs + length n.gates
  pub few : length n.names ≤ most_nets
  pub gates : (j : ℕ) (gate : Gate) → slice_get n.gates j ≡ Some gate → IsGateAt n.inputs j gate
  pub outputs : All (λ (port : Port). port.net.0 < length n.names) n.outputs
