use Rattle.std.proofs.Common.{◌∙◌, refl, ap, sym}
use Rattle.lw_label.proofs.CellLaws.{patterns_of_cells}
use Rattle.lw_joined.proofs.Covers.{ports_fit}
use Rattle.lw_area.specs.Deadlines.{deadlines_of}
use Rattle.lw_area.proofs.Cases.{case_early, case_space, case_wide, first_low, settings, space}
use Rattle.lw_area.proofs.Looking.{decided_over, look_gives, of_space}
use Rattle.lw_area.proofs.Smaller.{one_leaf}
use Rattle.lw_area.proofs.recovering.Case.smaller.Goals as goal

pub choose-requires-clause-ready : goal.choose-requires-clause-ready
choose-requires-clause-ready c =
    let k = c.args.self.now in
    let case = c.requires.case in
    record {
      fit = ports_fit k.model.now.network k.joined.now c.in_ok-ports.ports case.network c.in_ok-ports.ensures case.joined case.model.outputs;
      of_cells = patterns_of_cells k.library.now case.library c.in_ok-pats.pats c.in_ok-pats.ensures.list c.in_ok-pats.ensures.pins;
      one_start = case.model.starts.one_each ∙ sym case.joined.graph.written.leaf_count;
      early = case.model.starts.early;
    }

pub choose-requires-clause-first : goal.choose-requires-clause-first
choose-requires-clause-first c = record {
  over = c.requires.first.over;
  inputs = one_leaf c.args.self.now c.requires.case c.args.first c.requires.first;
  few = c.requires.first.few;
}

pub returns : goal.returns
returns c =
    let k = c.args.self.now in
    let case = c.requires.case in
    let f = c.requires.first in
    record {
      each = λ joined.
          look_gives (settings k case) k.model.now.network (space k case joined) _ (case_wide k case) case.network (case_early k case) case.library (case_space k case joined) c.args.first f.kept f.model_name (f.fastest joined).0 (first_low k case joined c.args.first f) (f.fastest joined).1 (f.fastest joined).3 c.in_ok-least.field-0.items c.in_ok-least.ensures
          (of_space (settings k case) k.model.now.network k.joined.now joined _ case.network c.in_ok-ports.ensures case.options refl)
          c.in_ok-pats.ensures.list c.in_ok-ports.ensures.model (c.deref-3.ensures.value ∙ (c.in_ok-times.ensures ∙ ap (deadlines_of k.settings.deadline) c.deref.ensures.value)) c.requires.tried
          _ c.in_ok-cover.field-0.refused c.in_ok-cover.field-0.cover c.gates.ensures.kept c.in_ok-cover.ensures;
      over = decided_over _ c.args.first f.over _ c.in_ok-cover.field-0.refused c.in_ok-cover.field-0.cover c.in_ok-cover.ensures;
    }
