use Rattle.std.proofs.Common.{length, slice_get, ap, sym, ◌∙◌, subst₂, arith}
use Rattle.lw_backtrace.specs.SecondLook.{IsUsedEarlier}
use Rattle.lw_choices.proofs.Lists.{read_at}
use Rattle.lw_backtrace.proofs.second_look.is_gate.Goals as goal

pub returns : goal.returns
returns c f =
    let n = c.args.number in
    let trail = c.args.trail.now in
    let used : IsUsedEarlier c.args.plan.now.count c.as_slice-pins.result.now c.deref.result.now n = c.is_used.ensures c.if-not-is_used.false in
    let own = c.is_own.ensures c.if-not-is_own.false in
    record {
      node = c.index.result.now;
      cell = c.index-2.result.now;
      row = c.as_slice-nets.result.now;
      node_at = read_at trail.nodes.items n c.index.result.now c.requires.node c.index.ensures;
      cell_at = read_at trail.walk.cells.items n c.index-2.result.now c.requires.cell c.index-2.ensures;
      row_at = ap (λ ns. slice_get ns n) (sym c.as_slice-pins.ensures.value) ∙ read_at c.as_slice-pins.result.now n c.as_slice-nets.result.now (omega (arith, c.requires.row, ap length c.as_slice-pins.ensures.value)) (cc);
      right = c.is_node.ensures c.if-not-is_node.false;
      used = subst₂ (λ ps ns. IsUsedEarlier c.args.plan.now.count ps ns n) c.as_slice-pins.ensures.value c.deref.ensures.value used;
      owned = own.exact;
      spare = own.shared;
    }
