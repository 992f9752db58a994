use Rattle.std.proofs.Common.{◌/◌, ◌∙◌, ap, refl, sym, subst, true≢false, arith}
use Rattle.std.proofs.lemmas.Bool.{not-false, not-true}
use Rattle.lw_bounds.specs.Bounds.{AreBounds}
use Rattle.lw_label.proofs.OneVisit.{was_lowered}
use Rattle.lw_label.proofs.labelling.Labelling.lower_whole.Goals as goal

pub lower_mark-first-requires-clause-class : goal.lower_mark-first-requires-clause-class
lower_mark-first-requires-clause-class g c = omega (arith, c.requires.place)

pub lower_mark-requires-clause-class : goal.lower_mark-requires-clause-class
lower_mark-requires-clause-class g c = omega (arith, c.requires.place)

pub lower_mark-first-requires-clause-may : goal.lower_mark-first-requires-clause-may
lower_mark-first-requires-clause-may g c = c.requires.may.search

pub lower_mark-requires-clause-may : goal.lower_mark-requires-clause-may
lower_mark-requires-clause-may g c = c.loop-class.invariant.search

pub loop-class-init : goal.loop-class-init
loop-class-init g c =
    let first = c.lower_mark-first.ensures.marks in
    record { search = first.search; table = first.table; others = first.others }

pub loop-class-preserved : goal.loop-class-preserved
loop-class-preserved g c =
    let marks = c.lower_mark.ensures.marks in
    let before = c.loop-class.invariant in
    record {
      search = marks.search;
      table = marks.table ∙ before.table;
      others = λ n out. marks.others n out ∙ before.others n out;
    }

pub loop-class-smaller : goal.loop-class-smaller
loop-class-smaller g c =
    let visit = c.lower_mark in
    visit.ensures.marks.takes.falls (was_lowered visit.result.lowered visit.result.is_still visit.ensures.none (not-true visit.result.is_still c.loop-class-test.true))

pub returns : goal.returns
returns g c =
    let visit = c.lower_mark in
    let marks = visit.ensures.marks in
    let before = c.loop-class.invariant in
    let graph = c.args.task.now.graph.now in
    let ms = c.loop-class.self.marks.items in
    let bounds = c.requires.may.around ms (λ n out. before.others n (λ e. out (ap (λ k. k / 2) e))) in
    record {
      found = record {
        search = marks.search;
        table = marks.table ∙ before.table;
        others = λ n out. marks.others n out ∙ before.others n out;
      };
      same = λ e. absurd (true≢false e);
      bounded = visit.ensures.bounded (not-false visit.result.is_still c.loop-class-test.false) (subst (λ b. AreBounds b graph ms) (sym before.table) bounds);
    }

pub returns-then-first : goal.returns-then-first
returns-then-first g c =
    let first = c.lower_mark-first.ensures in
    record {
      found = record { search = first.marks.search; table = first.marks.table; others = first.marks.others };
      same = first.marks.takes.same;
      bounded = first.bounded c.if-first.true (c.requires.may.around c.args.self.now.marks.items (λ n out. refl));
    }
