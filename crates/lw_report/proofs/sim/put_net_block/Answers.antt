use Rattle.std.proofs.Common.{◌≡◌, ◌+◌, ◌<◌, ℕ, false, List, Some, length, take, get_or, slice_get, sym, ap, subst, ◌∙◌, arith}
use Rattle.std.specs.List.{flat_map, range_with_len}
use Rattle.lw_net.specs.declared.node.Node.{Node}
use Rattle.lw_pool.specs.declared.id.NetId.{NetId}
use Rattle.lw_laws.specs.Networks.{node_value}
use Rattle.lw_net.specs.Plain.{plain_node}
use Rattle.lw_io.specs.Writers.{Writes}
use Rattle.lw_report.specs.Blocks.{bits_at}
use Rattle.lw_report.specs.Simulated.{value_line, IsNetworkLine}
use Rattle.lw_report.proofs.SimLemmas.{lines_of, network_line}
use Rattle.lw_report.proofs.sim.put_net_block.Goals as goal

pub copy_front-requires : goal.copy_front-requires
copy_front-requires g c = omega (arith, ap (λ (l : List ℕ). length l) c.deref.ensures.value, c.requires.block.one_each, c.requires.made, c.nodes-nodes.ensures.kept.named)

pub returns : goal.returns
returns g c =
    let n = c.args.net.now in
    let block = c.args.block.now in
    let words = block.words.items in
    let before = c.copy_front.new.nets in
    let nets = c.fill_nodes.new.nets in
    let count : c.len.result ≡ length words = c.len.ensures ∙ (sym c.deref.ensures.len ∙ ap (λ (l : List ℕ). length l) c.deref.ensures.value) in
    let front = subst (λ (l : List ℕ). take (length l) before ≡ l) c.deref.ensures.value c.copy_front.ensures in
    let size : length nets ≡ n.inputs + length n.nodes = c.fill_nodes.auto.nets ∙ (c.copy_front.auto.nets ∙ (c.requires.made ∙ c.nodes-nodes.ensures.kept.named)) in
    let line = λ (k : ℕ). value_line (bits_at k nets) n.outputs in
    record {
      text = flat_map line (range_with_len 0 block.count);
      is = lines_of (IsNetworkLine n) (λ k. bits_at k words) line 0 block.count (λ k low high.
          let in_word : k < 64 = omega (arith, high, c.requires.block.few) in
          network_line n words before nets k c.requires.block.one_each size front
          (λ i below. c.fill_nodes.ensures.inputs i (omega (arith, below, count)))
          (λ j node at. subst (λ m. get_or (bits_at k nets) (m + j) false ≡ node_value (bits_at k nets) (plain_node node)) count (c.fill_nodes.ensures.values k in_word j node (subst (λ (xs : List Node). slice_get xs j ≡ Some node) (sym c.nodes-nodes.ensures.nodes) at))));
      writes = subst (λ (os : List NetId). Writes g.S.Sink.taken g.S.Sink.faults c.args.out.now c.put_net_lines.new.out (flat_map (λ k. value_line (bits_at k nets) os) (range_with_len 0 block.count))) c.outputs.ensures.outputs c.put_net_lines.ensures;
    }
