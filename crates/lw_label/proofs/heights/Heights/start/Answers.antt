use Rattle.std.proofs.Common.{◌<◌, ◌≤◌, ◌∙◌, IfSome, length, slice_index_or, slice_set, None, refl, sym, subst, arith}
use Rattle.lw_label.specs.HeightTables.{HasHeightsOf}
use Rattle.lw_label.proofs.HeightPasses.{heights_give, heights_start, heights_started}
use Rattle.lw_label.proofs.HeightTables.{has_class, with_has, with_next, with_put, with_same}
use Rattle.lw_label.proofs.heights.Heights.start.Goals as goal

pub loop-input-init : goal.loop-input-init
loop-input-init g c =
    let given = c.args.given.now in
    let own = c.args.self.now in
    record {
      started = heights_start given.task.now.graph.now given.labels.now own.marks.items c.requires.none;
      table = with_same own.marks.items own.table c.requires.table;
      tops = refl;
    }

pub put_in-requires : goal.put_in-requires
put_in-requires g c =
    let marks = c.loop-input.self.marks.items in
    let class = c.leaf-class.result.0 in
    let below : class < length marks = omega (arith, c.leaf-class.ensures.within, c.loop-input.invariant.started.one_each) in
    let has = subst (λ t. IfSome t (HasHeightsOf marks)) (sym c.loop-input.invariant.table) (with_has marks c.args.self.now.table) in
    has_class marks class c.loop-input.self.table below has

pub loop-input-preserved : goal.loop-input-preserved
loop-input-preserved g c =
    let given = c.args.given.now in
    let marks = c.loop-input.self.marks.items in
    let table = c.loop-input.self.table in
    let first = c.args.self.now.table in
    let class = c.leaf-class.result.0 in
    let mark = slice_index_or given.labels.now class None in
    let below : class < length marks = omega (arith, c.leaf-class.ensures.within, c.loop-input.invariant.started.one_each) in
    let has = subst (λ t. IfSome t (HasHeightsOf marks)) (sym c.loop-input.invariant.table) (with_has marks first) in
    record {
      started = heights_give given.task.now.graph.now given.labels.now c.loop-input.input class marks _ c.leaf-class.ensures.class below c.loop-input.invariant.started refl;
      table = with_next marks (slice_set marks class mark) first table c.put_in.new.table c.loop-input.invariant.table (c.put_in.ensures ∙ with_put marks class mark table has);
      tops = c.loop-input.invariant.tops;
    }

pub returns : goal.returns
returns g c =
    let given = c.args.given.now in
    let own = c.loop-input.self in
    record {
      heights = λ cost pats low.
          let all : length given.task.now.graph.now.leaves ≤ c.loop-input.input = omega (arith, c.inputs-input-end.ensures.inputs, c.loop-input-test.false) in
          heights_started given.task.now.graph.now given.labels.now cost pats c.loop-input.input own.marks.items all c.loop-input.invariant.started low;
      table = c.loop-input.invariant.table;
      tops = c.loop-input.invariant.tops;
    }
