use Rattle.std.proofs.Common.{◌≡◌, ◌/◌, ◌∙◌, true, false, slice_index_or, true≢false, sym, subst}
use Rattle.lw_bounds.specs.Bounds.{IsTableBut}
use Rattle.lw_bounds.proofs.Tables.{but_both, but_same}
use Rattle.lw_label.specs.Orders.{IsStillAt}
use Rattle.lw_label.proofs.once.forget_moving.Goals.{then-not-is_still, else-not-is_still}
use Rattle.lw_label.proofs.once.forget_moving.Goals as goal

pub loop-number-preserved : goal.loop-number-preserved
loop-number-preserved c =
    let still = c.args.visits.now.still in
    let l = c.loop-number in
    elim c.if-not-is_still.branch [
      | then-not-is_still w ↦
          subst (IsTableBut (λ n. IsStillAt still n → ⊥) c.args.bounds.now) (sym w.bounds-is) (but_both (λ n. IsStillAt still n → ⊥) (λ n. n ≡ l.number) (λ n. IsStillAt still n → ⊥) c.args.bounds.now l.bounds w.forget.new.self (λ n out. out)
          (λ n e is. true≢false (sym (subst (λ k. slice_index_or still (k / 2) false ≡ true) e is) ∙ (sym c.is_still.ensures ∙ w.if-not-is_still.true))) l.invariant w.forget.ensures.others)
      | else-not-is_still w ↦
          subst (IsTableBut (λ n. IsStillAt still n → ⊥) c.args.bounds.now) (sym w.bounds-is) l.invariant
    ]

pub loop-number-init : goal.loop-number-init
loop-number-init c = but_same (λ n. IsStillAt c.args.visits.now.still n → ⊥) c.args.bounds.now
