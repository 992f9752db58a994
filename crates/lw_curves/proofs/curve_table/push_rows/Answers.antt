use Rattle.std.proofs.Common.{◌≡◌, ◌+◌, ◌-◌, ◌∷◌, ◌∙◌, ℕ, length, reverse, ap, sym, subst, subst₂, arith}
use Rattle.std.proofs.lemmas.List.{length-reverse, reverse-append}
use Rattle.lw_curves.specs.CurveTables.{IsTable}
use Rattle.lw_curves.proofs.Grouped.{table_next}
use Rattle.lw_curves.proofs.curve_table.push_rows.Goals as goal

pub loop-class-preserved : goal.loop-class-preserved
loop-class-preserved c =
    let held = c.args.fronts.now.held in
    let class = c.loop-class.class in
    let points = reverse c.loop-class.points.items in
    let ways = reverse c.loop-class.ways.items in
    let lefts = reverse c.loop-class.lefts.items in
    let one : ◌≡◌ {A = ℕ} class (class - 1 + 1) = omega (arith, c.loop-class-test.true) in
    let here = subst (λ k. IsTable held c.args.classes k points ways lefts) one c.loop-class.invariant.table in
    let row = c.in_ok-push_row.ensures in
    let next = table_next held c.args.classes (class - 1) row.row points ways lefts here row.is in
    let new = c.push_row.new.to.items in
    let new_ways = c.push_row.new.ways.items in
    let next' = subst₂ (λ xs ys. IsTable held c.args.classes (class - 1) xs ys (length xs ∷ lefts)) (sym row.points_are) (sym row.ways_are) next in
    let len : ◌≡◌ {A = ℕ} (length (reverse new)) c.len.result = omega (arith, length-reverse new, c.len.ensures) in
    let same = ap reverse c.in_ok-push-2.ensures.items ∙ reverse-append c.loop-class.lefts.items _ in
    record {
      low = omega (arith, c.loop-class.invariant.low);
      table = subst (λ ls. IsTable held c.args.classes (class - 1) (reverse new) (reverse new_ways) ls) (sym same) (subst (λ n. IsTable held c.args.classes (class - 1) (reverse new) (reverse new_ways) (n ∷ lefts)) len next');
    }
