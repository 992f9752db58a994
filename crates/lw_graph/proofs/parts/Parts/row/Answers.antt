use Rattle.std.proofs.Common.{◌≡◌, ◌∙◌, length, ap, sym, arith}
use Rattle.std.proofs.lemmas.Grind.{common_steps}
use Rattle.lw_graph.specs.Rows.{start_at}
use Rattle.lw_graph.proofs.Rows.{end_after, end_within, start_after}
use Rattle.lw_graph.proofs.parts.Parts.row.Goals.{then-class-eq0, else-class-eq0}
use Rattle.lw_graph.proofs.parts.Parts.row.Goals as goal

pub overflow_sub-self : goal.overflow_sub-self
overflow_sub-self c =
    let p = c.args.self.now in
    let at : c.if-class-eq0.start ≡ start_at 0 p.ends.now c.args.class = elim c.if-class-eq0.branch [
      | then-class-eq0 w ↦ w.start-is ∙ ap (start_at 0 p.ends.now) (sym w.if-class-eq0.true)
      | else-class-eq0 w ↦ w.start-is ∙ start_after p.ends.now c.args.class w.if-class-eq0.false
    ] in
    let le = end_after (length p.pairs.now.items) 0 p.ends.now c.args.class p.cut c.requires in
    omega (arith, at, le)

pub part-requires : goal.part-requires
part-requires c =
    let p = c.args.self.now in
    let at : c.if-class-eq0.start ≡ start_at 0 p.ends.now c.args.class = elim c.if-class-eq0.branch [
      | then-class-eq0 w ↦ w.start-is ∙ ap (start_at 0 p.ends.now) (sym w.if-class-eq0.true)
      | else-class-eq0 w ↦ w.start-is ∙ start_after p.ends.now c.args.class w.if-class-eq0.false
    ] in
    let le = end_after (length p.pairs.now.items) 0 p.ends.now c.args.class p.cut c.requires in
    let in' = end_within (length p.pairs.now.items) 0 p.ends.now c.args.class p.cut c.requires in
    grind (arith, common_steps, at, le, in')
