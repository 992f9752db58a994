use Rattle.std.proofs.Common.{◌≡◌, ◌<◌, ◌≤◌, ◌+◌, ℕ, ◌⊎◌, inl, inr, Some, slice_get, slice_index_or, ap, sym, ◌∙◌, subst₂, arith}
use Rattle.std.proofs.lemmas.Bool.{cases_lt}
use Rattle.std.proofs.lemmas.Option.{get_or_from_slice_get, slice_get_within}
use Rattle.lw_pool.specs.declared.id.ClassId.{ClassId}
use Rattle.lw_fixed.specs.declared.micro.Micro.{Micro}
use Rattle.lw_backtrace.specs.SecondLook.{IsNetBy, want_of_pin}
use Rattle.lw_backtrace.proofs.second_look.are_pins.Goals as goal

pub loop-k-preserved : goal.loop-k-preserved
loop-k-preserved c = λ i pin delay net lt pt dt nt. by_order i pin delay net lt pt dt nt (cases_lt i c.loop-k.k)
  where
    by_order : (i : ℕ) (pin : ClassId) (delay : Micro) (net : ℕ) → i < c.loop-k.k + 1 → slice_get c.args.demand.now.pins.now i ≡ Some pin → slice_get c.args.demand.now.delays.now i ≡ Some delay → slice_get c.args.nets.now i ≡ Some net → (i < c.loop-k.k) ⊎ (c.loop-k.k ≤ i) → IsNetBy c.args.plan.now c.args.trail.now (want_of_pin c.args.demand.now pin delay) net
    by_order i pin delay net lt pt dt nt (inl less) = c.loop-k.invariant i pin delay net less pt dt nt
    by_order i pin delay net lt pt dt nt (inr ge) =
        let k = c.loop-k.k in
        let nets = c.args.nets.now in
        let same : i ≡ k = omega (arith, lt, ge) in
        let want = c.pin_want.ensures pin delay (ap (slice_get c.args.demand.now.pins.now) (sym same) ∙ pt) (ap (slice_get c.args.demand.now.delays.now) (sym same) ∙ dt) in
        let n = get_or_from_slice_get nets k net 0 (ap (slice_get nets) (sym same) ∙ nt) in
        let raw : IsNetBy c.args.plan.now c.args.trail.now c.pin_want.result (slice_index_or nets k 0) = c.is_net.ensures c.if-not-is_net.false in
        subst₂ (IsNetBy c.args.plan.now c.args.trail.now) want n raw

pub returns : goal.returns
returns c = λ yes. record {
  one_net = omega (arith, c.if-nets-demand.false);
  one_delay = omega (arith, c.if-demand.false);
  each = λ k pin delay net pt dt nt.
      let lt = slice_get_within c.args.demand.now.pins.now k pin pt in
      c.loop-k.invariant k pin delay net (omega (arith, lt, c.loop-k-test.false)) pt dt nt;
}
