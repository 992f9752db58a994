use Rattle.lw_mapped.proofs.KeepingLemmas.{takes-nothing, ok-then, match-then}
use Rattle.lw_mapped.proofs.contents.Contents.add.Goals as goal

pub returns-in-Gate : goal.returns-in-Gate
returns-in-Gate c =
    let t = takes-nothing c.args.self.now in
    rw c.in-Gate.is (match-then _ c.push_spelled.result (λ e may. record { model = t.model; inputs = t.inputs; outputs = t.outputs; gates = e; wires = t.wires; latches = t.latches; arrivals = t.arrivals; labels = t.labels; classes = t.classes; low = t.low; nets = t.nets }) c.push_spelled.ensures)

pub returns-in-Wire : goal.returns-in-Wire
returns-in-Wire c =
    let t = takes-nothing c.args.self.now in
    rw c.in-Wire.is (match-then _ c.push.result (λ e may. record { model = t.model; inputs = t.inputs; outputs = t.outputs; gates = t.gates; wires = e; latches = t.latches; arrivals = t.arrivals; labels = t.labels; classes = t.classes; low = t.low; nets = t.nets }) c.push.ensures)

pub returns-in-Inputs : goal.returns-in-Inputs
returns-in-Inputs c =
    let t = takes-nothing c.args.self.now in
    rw c.in-Inputs.is (ok-then c.append.result (λ e may. record { model = t.model; inputs = e; outputs = t.outputs; gates = t.gates; wires = t.wires; latches = t.latches; arrivals = t.arrivals; labels = t.labels; classes = t.classes; low = t.low; nets = t.nets }) c.append.ensures)

pub returns-in-Outputs : goal.returns-in-Outputs
returns-in-Outputs c =
    let t = takes-nothing c.args.self.now in
    rw c.in-Outputs.is (ok-then c.add_all.result (λ e may. record { model = t.model; inputs = t.inputs; outputs = e; gates = t.gates; wires = t.wires; latches = t.latches; arrivals = t.arrivals; labels = t.labels; classes = t.classes; low = t.low; nets = t.nets }) c.add_all.ensures)

pub returns-in-Latch : goal.returns-in-Latch
returns-in-Latch c =
    let t = takes-nothing c.args.self.now in
    rw c.in-Latch.is (match-then _ c.push-in-Latch.result (λ e may. record { model = t.model; inputs = t.inputs; outputs = t.outputs; gates = t.gates; wires = t.wires; latches = e; arrivals = t.arrivals; labels = t.labels; classes = t.classes; low = t.low; nets = t.nets }) c.push-in-Latch.ensures)

pub returns-in-Arrival : goal.returns-in-Arrival
returns-in-Arrival c =
    let t = takes-nothing c.args.self.now in
    rw c.in-Arrival.is (ok-then c.set.result (λ e may. record { model = t.model; inputs = t.inputs; outputs = t.outputs; gates = t.gates; wires = t.wires; latches = t.latches; arrivals = e; labels = t.labels; classes = t.classes; low = t.low; nets = t.nets }) c.set.ensures)
