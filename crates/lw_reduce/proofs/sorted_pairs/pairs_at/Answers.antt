use Rattle.std.proofs.Common.{◌≡◌, ◌∙◌, ◌-◌, rules, length, drop, slice_index, ap, sym, arith, length-drop}
use Rattle.std.proofs.lemmas.List.{length-take-le}
use Rattle.std.proofs.lemmas.Grind.{common_steps}
use Rattle.lw_graph.proofs.Rows.{end_after, end_within, start_after}
use Rattle.lw_graph.specs.Rows.{start_at}
use Rattle.lw_reduce.proofs.sorted_pairs.pairs_at.Goals.{then-class-eq0, else-class-eq0}
use Rattle.lw_reduce.proofs.sorted_pairs.pairs_at.Goals as goal

pub slice_bounds-result-count : goal.slice_bounds-result-count
slice_bounds-result-count c =
    let at : c.if-class-eq0.start ≡ start_at 0 c.args.ends.now c.args.class = elim c.if-class-eq0.branch [
      | then-class-eq0 w ↦ w.start-is ∙ ap (start_at 0 c.args.ends.now) (sym w.if-class-eq0.true)
      | else-class-eq0 w ↦ w.start-is ∙ start_after c.args.ends.now c.args.class w.if-class-eq0.false
    ] in
    let le = end_after (length c.args.pairs.now) 0 c.args.ends.now c.args.class c.requires.ends c.requires.within in
    grind (arith, common_steps, le, at)

pub slice_bounds-result-start : goal.slice_bounds-result-start
slice_bounds-result-start c =
    let at : c.if-class-eq0.start ≡ start_at 0 c.args.ends.now c.args.class = elim c.if-class-eq0.branch [
      | then-class-eq0 w ↦ w.start-is ∙ ap (start_at 0 c.args.ends.now) (sym w.if-class-eq0.true)
      | else-class-eq0 w ↦ w.start-is ∙ start_after c.args.ends.now c.args.class w.if-class-eq0.false
    ] in
    let le = end_after (length c.args.pairs.now) 0 c.args.ends.now c.args.class c.requires.ends c.requires.within in
    omega (arith, le, at)

pub slice_bounds-result-end : goal.slice_bounds-result-end
slice_bounds-result-end c =
    let in' = end_within (length c.args.pairs.now) 0 c.args.ends.now c.args.class c.requires.ends c.requires.within in
    search (rules, in')

pub returns-clause-size : goal.returns-clause-size
returns-clause-size c =
    let at : c.if-class-eq0.start ≡ start_at 0 c.args.ends.now c.args.class = elim c.if-class-eq0.branch [
      | then-class-eq0 w ↦ w.start-is ∙ ap (start_at 0 c.args.ends.now) (sym w.if-class-eq0.true)
      | else-class-eq0 w ↦ w.start-is ∙ start_after c.args.ends.now c.args.class w.if-class-eq0.false
    ] in
    let pairs = c.args.pairs.now in
    let ends = c.args.ends.now in
    let start = c.if-class-eq0.start in
    let end = slice_index ends c.args.class in
    let le = end_after (length pairs) 0 ends c.args.class c.requires.ends c.requires.within in
    let in' = end_within (length pairs) 0 ends c.args.class c.requires.ends c.requires.within in
    let d = length-drop start pairs in
    let t = length-take-le (end - start) (drop start pairs) (omega arith) in
    omega arith
