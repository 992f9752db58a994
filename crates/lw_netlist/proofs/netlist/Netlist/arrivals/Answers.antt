use Rattle.std.proofs.Common.{◌≡◌, ◌+◌, ◌<◌, ◌≤◌, ◌++◌, ℕ, ◌∙◌, Some, length, take, drop, sym, ap, subst, slice_get, arith}
use Rattle.std.proofs.Math.Seq.{take-append_seam}
use Rattle.std.proofs.lemmas.List.{length-append, length-drop}
use Rattle.lw_netlist.specs.declared.gate.Gate.{Gate}
use Rattle.lw_netlist.specs.Filling.{arrival_at, gate_arrival, one_step}
use Rattle.lw_netlist.proofs.Latest.{all_low, filled_arrivals, start_low, starts_read}
use Rattle.lw_netlist.proofs.netlist.Netlist.arrivals.Goals as goal

pub fill_arrivals-requires-clause-started : goal.fill_arrivals-requires-clause-started
fill_arrivals-requires-clause-started c = λ i below.
    let starts = c.args.starts.now in
    let inside : i < length starts = omega (arith, below, c.requires.one_start, c.inputs.ensures.inputs) in
    let copied = c.copy_from_slice.new.self in
    let rest = drop (length c.as_slice-starts.result.now) c.args.nets.now in
    let same : copied ≡ starts = c.copy_from_slice.ensures.after ∙ c.as_slice-starts.ensures in
    let front : take (length starts) (copied ++ rest) ≡ starts = subst (λ n. take n (copied ++ rest) ≡ starts) (ap length same) (take-append_seam copied rest ∙ same) in
    subst (λ t. t ≤ one_step) (sym (starts_read starts (copied ++ rest) front i inside)) (start_low starts c.requires.small i inside)

pub returns-clause-arrivals : goal.returns-clause-arrivals
returns-clause-arrivals c =
    let starts = c.args.starts.now in
    let nets = c.fill_arrivals.new.nets in
    let first = c.inputs.ensures.inputs in
    let copied = c.copy_from_slice.new.self in
    let rest = drop (length c.as_slice-starts.result.now) c.args.nets.now in
    let same : copied ≡ starts = c.copy_from_slice.ensures.after ∙ c.as_slice-starts.ensures in
    let front : take (length starts) (copied ++ rest) ≡ starts = subst (λ n. take n (copied ++ rest) ≡ starts) (ap length same) (take-append_seam copied rest ∙ same) in
    let size : length (copied ++ rest) ≡ c.args.self.now.inputs + length c.args.self.now.gates = omega (arith, length-append copied rest, length-drop (length c.as_slice-starts.result.now) c.args.nets.now, ap length same, ap length c.as_slice-starts.ensures, c.requires.one_start, c.requires.one_net, c.gates-gates.ensures.kept.named) in
    filled_arrivals c.args.lib.now starts c.args.self.now nets c.requires.one_start (c.fill_arrivals.ensures.length ∙ size)
    (λ i below. c.fill_arrivals.ensures.inputs i (omega (arith, below, first)) ∙ starts_read starts (copied ++ rest) front i (omega (arith, below, c.requires.one_start)))
    (subst (λ n. (j : ℕ) (gate : Gate) → slice_get c.args.self.now.gates j ≡ Some gate → arrival_at nets (n + j) ≡ gate_arrival c.args.lib.now nets gate) first (λ j gate at. c.fill_arrivals.ensures.arrivals j gate (rw c.gates-gates.ensures.gates at)))

pub returns-clause-low : goal.returns-clause-low
returns-clause-low c =
    all_low c.fill_arrivals.new.nets (length c.gates-gates.result.now) (subst (λ xs. length xs ≤ 8000000) (sym c.gates-gates.ensures.gates) c.requires.few) c.fill_arrivals.ensures.low
