use Rattle.std.proofs.Common.{Some, ◌+◌, option_map, ap, ◌∙◌, arith}
use Rattle.std.proofs.lemmas.Bool.{iff_false}
use Rattle.lw_laws.specs.Rounds.{labels_in}
use Rattle.lw_check.specs.Claims.{class_number}
use Rattle.lw_check.specs.Least.{lesser_of}
use Rattle.lw_check.proofs.Inputs.{IsLateBefore, above_on, late_all, late_more, late_same, least_on, not_above_on}
use Rattle.lw_check.proofs.labelling.Labelling.first_late_input.Goals as goal
use Rattle.lw_check.proofs.labelling.Labelling.first_late_input.Goals.{then-is_above, else-is_above}

pub loop-input-preserved : goal.loop-input-preserved
loop-input-preserved g c =
    let graph = c.args.self.now.graph.now in
    let cost = g.C.Cost.costs c.args.self.now.by.cost.now in
    let labels = labels_in c.args.self.now.labels.now in
    let input = c.loop-input.input in
    let class = c.leaf-class.result.0 in
    let old = option_map class_number c.loop-input.first in
    let new = option_map class_number c.if-is_above.first in
    elim c.if-is_above.branch [
      | then-is_above w ↦
          least_on (IsLateBefore graph cost labels (input + 1)) new (lesser_of old (Some class)) (ap (option_map class_number) w.first-is ∙ w.earlier-first.ensures)
          (late_more graph cost labels input class old c.leaf-class.ensures.class
          (above_on c.label_at.result (labels class) c.leaf.result (cost.leaf input) c.label_at.ensures c.leaf.ensures (c.is_above.ensures.0 w.if-is_above.true)) c.loop-input.invariant)
      | else-is_above w ↦
          least_on (IsLateBefore graph cost labels (input + 1)) new old (ap (option_map class_number) w.first-is)
          (late_same graph cost labels input class old c.leaf-class.ensures.class
          (not_above_on c.label_at.result (labels class) c.leaf.result (cost.leaf input) c.label_at.ensures c.leaf.ensures (iff_false c.is_above.ensures w.if-is_above.false)) c.loop-input.invariant)
    ]

pub returns : goal.returns
returns g c =
    let all = c.loop-input-test.false in
    let inputs = c.inputs-input-end.ensures.inputs in
    late_all c.args.self.now.graph.now (g.C.Cost.costs c.args.self.now.by.cost.now) (labels_in c.args.self.now.labels.now) c.loop-input.input (option_map class_number c.loop-input.first) (omega (arith, all, inputs)) c.loop-input.invariant
