use Rattle.std.proofs.Common.{◌≡◌, ◌<◌, ◌≤◌, ◌+◌, ℕ, ◌⊎◌, inl, inr, Some, slice_get, slice_index_or, ap, sym, ◌∙◌, subst, subst₂, arith}
use Rattle.std.proofs.lemmas.Bool.{cases_lt}
use Rattle.std.proofs.lemmas.Option.{get_or_from_slice_get, slice_get_within}
use Rattle.lw_pool.specs.declared.id.ClassId.{ClassId}
use Rattle.lw_fixed.specs.declared.micro.Micro.{Micro}
use Rattle.lw_backtrace.specs.SecondLook.{IsRootBy}
use Rattle.lw_backtrace.proofs.second_look.are_roots.Goals as goal

pub loop-k-preserved : goal.loop-k-preserved
loop-k-preserved c = λ i root time net lt rt tt nt. by_order i root time net lt rt tt nt (cases_lt i c.loop-k.k)
  where
    by_order : (i : ℕ) (root : ClassId) (time : Micro) (net : ℕ) → i < c.loop-k.k + 1 → slice_get c.args.plan.now.roots.now i ≡ Some root → slice_get c.args.plan.now.times.now i ≡ Some time → slice_get c.args.nets.now i ≡ Some net → (i < c.loop-k.k) ⊎ (c.loop-k.k ≤ i) → IsRootBy c.args.plan.now c.args.trail.now root time net
    by_order i root time net lt rt tt nt (inl less) = c.loop-k.invariant i root time net less rt tt nt
    by_order i root time net lt rt tt nt (inr ge) =
        let k = c.loop-k.k in
        let roots = c.args.plan.now.roots.now in
        let times = c.args.plan.now.times.now in
        let nets = c.args.nets.now in
        let same : i ≡ k = omega (arith, lt, ge) in
        let none : ClassId = record { 0 = 0 } in
        let never : Micro = record { 0 = 0 } in
        let r = get_or_from_slice_get roots k root none (ap (slice_get roots) (sym same) ∙ rt) in
        let t = get_or_from_slice_get times k time never (ap (slice_get times) (sym same) ∙ tt) in
        let n = get_or_from_slice_get nets k net 0 (ap (slice_get nets) (sym same) ∙ nt) in
        let raw : IsRootBy c.args.plan.now c.args.trail.now (slice_index_or roots k none) (slice_index_or times k never) (slice_index_or nets k 0) = c.is_root.ensures c.if-not-is_root.false in
        subst (IsRootBy c.args.plan.now c.args.trail.now root time) n
        (subst₂ (λ (x : ClassId) (y : Micro). IsRootBy c.args.plan.now c.args.trail.now x y (slice_index_or nets k 0)) r t raw)

pub returns : goal.returns
returns c = λ yes. record {
  one_net = omega (arith, c.if-nets-plan.false);
  one_time = omega (arith, c.if-plan.false);
  each = λ k root time net rt tt nt.
      let lt = slice_get_within c.args.plan.now.roots.now k root rt in
      c.loop-k.invariant k root time net (omega (arith, lt, c.loop-k-test.false)) rt tt nt;
}
