use Rattle.std.proofs.Common.{◌≡◌, ◌+◌, ◌<◌, ℕ, false, List, Some, length, map, take, get_or, slice_get, sym, ap, subst, ◌∙◌, arith}
use Rattle.std.specs.List.{flat_map, range_with_len}
use Rattle.lw_netlist.specs.declared.gate.Gate.{Gate}
use Rattle.lw_netlist.specs.declared.gate.Port.{Port}
use Rattle.lw_netlist.specs.Filling.{gate_value}
use Rattle.lw_io.specs.Writers.{Writes}
use Rattle.lw_report.specs.Blocks.{bits_at}
use Rattle.lw_report.specs.Simulated.{value_line, port_net, IsNetlistLine}
use Rattle.lw_report.proofs.SimLemmas.{lines_of, netlist_line}
use Rattle.lw_report.proofs.sim.put_netlist_block.Goals as goal

pub copy_front-requires : goal.copy_front-requires
copy_front-requires g c = omega (arith, ap (λ (l : List ℕ). length l) c.deref.ensures.value, c.requires.block.one_each, c.requires.words.one_each, c.gates-gates.ensures.kept.named)

pub returns : goal.returns
returns g c =
    let n = c.args.of.now.netlist.now in
    let block = c.args.block.now in
    let words = block.words.items in
    let before = c.copy_front.new.nets in
    let nets = c.fill_gates.new.nets in
    let count : c.len.result ≡ length words = c.len.ensures ∙ (sym c.deref.ensures.len ∙ ap (λ (l : List ℕ). length l) c.deref.ensures.value) in
    let front = subst (λ (l : List ℕ). take (length l) before ≡ l) c.deref.ensures.value c.copy_front.ensures in
    let size : length nets ≡ n.inputs + length n.gates = c.fill_gates.auto.nets ∙ (c.copy_front.auto.nets ∙ (c.requires.words.one_each ∙ c.gates-gates.ensures.kept.named)) in
    let line = λ (k : ℕ). value_line (bits_at k nets) (map port_net n.outputs) in
    record {
      text = flat_map line (range_with_len 0 block.count);
      is = lines_of (IsNetlistLine c.args.of.now.lib.now n) (λ k. bits_at k words) line 0 block.count (λ k low high.
          let in_word : k < 64 = omega (arith, high, c.requires.block.few) in
          netlist_line c.args.of.now.lib.now n words before nets k c.requires.block.one_each size front
          (λ i below. c.fill_gates.ensures.inputs i (omega (arith, below, count)))
          (λ j gate at. subst (λ m. get_or (bits_at k nets) (m + j) false ≡ gate_value c.args.of.now.lib.now (bits_at k nets) gate) count (c.fill_gates.ensures.values k in_word j gate (subst (λ (xs : List Gate). slice_get xs j ≡ Some gate) (sym c.gates-gates.ensures.gates) at))));
      writes = subst (λ (os : List Port). Writes g.S.Sink.taken g.S.Sink.faults c.args.out.now c.put_port_lines.new.out (flat_map (λ k. value_line (bits_at k nets) (map port_net os)) (range_with_len 0 block.count))) c.outputs.ensures.outputs c.put_port_lines.ensures;
    }
