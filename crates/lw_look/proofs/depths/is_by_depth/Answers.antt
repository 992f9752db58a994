use Rattle.std.proofs.Common.{ℕ, ◌≡◌, ◌+◌, ◌∙◌, List, drop, length, slice_get, slice_index_or, ap, ap₂, sym, subst, arith}
use Rattle.std.proofs.lemmas.List.{take_rest, with_items_is}
use Rattle.lw_netlist.specs.declared.gate.Gate.{Gate}
use Rattle.lw_look.specs.Depths.{IsRisingFrom, gate_depth}
use Rattle.lw_look.proofs.NetDepths.{filled_depths, rising_by_depth}
use Rattle.lw_look.proofs.depths.is_by_depth.Goals as goal

pub returns : goal.returns
returns c =
    let n = c.args.netlist.now in
    let v = c.in_ok-depths.depths in
    let depths = c.fill_depths.new.depths in
    let kept = c.gates.ensures.kept in
    let first = c.inputs-first.ensures.inputs in
    let whole : c.deref.result.now ≡ depths = c.deref.ensures.value ∙ with_items_is v depths (omega (arith, c.fill_depths.auto.depths, c.deref_mut.ensures.len)) in
    let size : length depths ≡ n.inputs + length n.gates = (let a = ap length c.names.ensures.names in let b = ap length c.deref_mut.ensures.value in omega (arith, a, b, v.ok.0, c.fill_depths.ensures.length, c.in_ok-depths.ensures.len, kept.named)) in
    let are = filled_depths n depths size (λ i lt. c.fill_depths.ensures.inputs i (omega (arith, lt, first))) (λ j gate at. subst (λ k. slice_index_or depths (k + j) 0 ≡ gate_depth depths gate) first (c.fill_depths.ensures.depths j gate (ap (λ (gs : List Gate). slice_get gs j) c.gates.ensures.gates ∙ at))) in
    let is = rising_by_depth n kept depths are in
    let read = take_rest c.deref.result.now c.inputs-first.result ∙ ap₂ (λ (k : ℕ) (ds : List ℕ). drop k ds) first whole in (
      λ t. is.0 (subst (λ (ds : List ℕ). IsRisingFrom 0 ds) read (c.is_rising.ensures.0 t)),
      λ by. c.is_rising.ensures.1 (subst (λ (ds : List ℕ). IsRisingFrom 0 ds) (sym read) (is.1 by)),
    )
