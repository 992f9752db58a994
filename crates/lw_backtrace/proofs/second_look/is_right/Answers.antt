use Rattle.std.proofs.Common.{◌≡◌, ◌<◌, ◌≤◌, ◌+◌, ℕ, ◌⊎◌, inl, inr, subst, arith}
use Rattle.std.proofs.lemmas.Bool.{cases_lt}
use Rattle.lw_backtrace.specs.SecondLook.{IsGateRight}
use Rattle.lw_backtrace.proofs.second_look.is_right.Goals as goal

pub loop-j-preserved : goal.loop-j-preserved
loop-j-preserved c = λ i lt. by_order i lt (cases_lt i c.loop-j.j)
  where
    by_order : (i : ℕ) → i < c.loop-j.j + 1 → (i < c.loop-j.j) ⊎ (c.loop-j.j ≤ i) → IsGateRight c.args.plan.now c.args.trail.now i
    by_order i lt (inl less) = c.loop-j.invariant i less
    by_order i lt (inr ge) =
        let same : c.loop-j.j ≡ i = omega (arith, lt, ge) in
        subst (IsGateRight c.args.plan.now c.args.trail.now) same (c.is_gate.ensures c.if-not-is_gate.false)
