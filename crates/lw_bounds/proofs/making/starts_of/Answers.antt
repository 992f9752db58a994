use Rattle.std.proofs.Common.{ℕ, ◌+◌, ◌<◌, ◌≡◌, ◌++◌, ◌∷◌, [], List, length, inl, inr, ◌≤◌, ◌*◌, ap, refl, sym, subst, subst₂, ◌∙◌, eqb-true, arith}
use Rattle.std.proofs.lemmas.Bool.{eqb-false}
use Rattle.std.proofs.Math.Nat.{mul-le-mul_left}
use Rattle.lw_bounds.specs.Numbers.{no_row}
use Rattle.lw_bounds.specs.Making.{rows_below, rows_in}
use Rattle.lw_bounds.proofs.Rowing.{AreStartsBelow, bare_row, filled_row, one_more_row, rows_rise, starts_more}
use Rattle.lw_bounds.proofs.making.starts_of.Goals.{then-is_empty+in_ok-push, else-is_empty+in_ok-push-2}
use Rattle.lw_bounds.proofs.making.starts_of.Goals as goal

pub loop-number-preserved : goal.loop-number-preserved
loop-number-preserved c =
    let l = c.loop-number in
    let width = c.args.width in
    let graph = c.args.graph.now in
    let inside : l.number < length graph.pairs = omega (arith, c.loop-number-test.true, c.classes-number-end.ensures.classes, l.auto.number-end) in
    let scaled = mul-le-mul_left {m = rows_below graph.pairs l.number} {n = rows_in graph} width (rows_rise graph.pairs l.number (length graph.pairs) (omega (arith, inside))) in
    let few : l.size < no_row = omega (arith, l.invariant.few, scaled, c.requires) in
    let next = mul-le-mul_left {m = rows_below graph.pairs l.number} {n = rows_below graph.pairs (l.number + 1)} width (rows_rise graph.pairs l.number (l.number + 1) (omega arith)) in
    elim c.if-is_empty.branch [
      | then-is_empty+in_ok-push w ↦
          let none = bare_row c.nands.result.now _ c.nands.ensures.pairs (eqb-true (length c.nands.result.now) 0 (sym c.is_empty.ensures ∙ w.if-is_empty.true)) in
          let items : c.if-is_empty.starts.items ≡ l.starts.items ++ no_row ∷ [] = cc (w.starts-is, w.in_ok-push.ensures.items) in
          subst₂ (λ (xs : List ℕ) (n : ℕ). AreStartsBelow width xs n graph (l.number + 1)) (sym items) (sym w.size-is)
          (starts_more width l.starts.items l.size l.size no_row graph l.number (omega arith) (omega (arith, l.invariant.few, next)) (inl refl) (λ e. none) (inl refl) l.invariant)
      | else-is_empty+in_ok-push-2 w ↦
          let items : c.if-is_empty.starts.items ≡ l.starts.items ++ l.size ∷ [] = cc (w.starts-is, w.in_ok-push-2.ensures.items) in
          let one = filled_row c.nands.result.now _ c.nands.ensures.pairs (eqb-false (length c.nands.result.now) 0 (sym c.is_empty.ensures ∙ w.if-is_empty.false)) in
          let room = one_more_row width l.size graph.pairs l.number l.invariant.few one in
          subst₂ (λ (xs : List ℕ) (n : ℕ). AreStartsBelow width xs n graph (l.number + 1)) (sym items) (sym w.size-is)
          (starts_more width l.starts.items l.size (l.size + width) l.size graph l.number (omega arith) room (inr (omega arith)) (λ e. absurd (omega (arith, e, few))) (inr (omega arith)) l.invariant)
    ]

pub overflow_add-size : goal.overflow_add-size
overflow_add-size c =
    let l = c.loop-number in
    let graph = c.args.graph.now in
    let one = filled_row c.nands.result.now _ c.nands.ensures.pairs (eqb-false (length c.nands.result.now) 0 (sym c.is_empty.ensures ∙ c.if-is_empty.false)) in
    let room = one_more_row c.args.width l.size graph.pairs l.number l.invariant.few one in
    let inside : l.number + 1 ≤ length graph.pairs = omega (arith, c.loop-number-test.true, c.classes-number-end.ensures.classes, l.auto.number-end) in
    let scaled = mul-le-mul_left {m = rows_below graph.pairs (l.number + 1)} {n = rows_in graph} c.args.width (rows_rise graph.pairs (l.number + 1) (length graph.pairs) inside) in
    omega (arith, room, scaled, c.requires)
