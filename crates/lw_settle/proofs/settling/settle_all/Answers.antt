use Rattle.std.proofs.Common.{[], sym, ◌∙◌, subst}
use Rattle.lw_settle.specs.Settling.{IsReading, Stage, first_stage}
use Rattle.lw_settle.specs.Stores.{AreOfStoredCells}
use Rattle.lw_settle.proofs.Finishing.{starting, finished, steps_are}
use Rattle.lw_settle.proofs.settling.settle_all.Goals as goal

pub offer_pinless-requires : goal.offer_pinless-requires
offer_pinless-requires g c =
    let costs = g.C.Cost.costs c.args.cost.now in
    let is = g.met.C.Cost.laws c.args.cost.now in
    let graph = c.args.graph.now in
    let lists = c.args.store.now.lists in
    let start = c.args.store.now.done in
    let w = starting costs lists graph start c.args.marks.now c.offer_inputs.new.queue c.count_pins.new.left c.classes.ensures.kept is c.requires.may.one_each c.requires.may.fresh c.requires.none.none_marked c.offer_inputs.ensures c.count_pins.ensures in
    record { of_cells = c.requires.may.of_cells; settling = (graph, start, w) }

pub settle_classes-requires : goal.settle_classes-requires
settle_classes-requires g c =
    let costs = g.C.Cost.costs c.args.cost.now in
    let is = g.met.C.Cost.laws c.args.cost.now in
    let graph = c.args.graph.now in
    let lists = c.args.store.now.lists in
    let start = c.args.store.now.done in
    let w = starting costs lists graph start c.args.marks.now c.offer_inputs.new.queue c.count_pins.new.left c.classes.ensures.kept is c.requires.may.one_each c.requires.may.fresh c.requires.none.none_marked c.offer_inputs.ensures c.count_pins.ensures in
    let pinless = c.offer_pinless.new in
    let reading = subst (λ ls. IsReading costs ls (first_stage graph start) [] pinless.store.done c.args.marks.now pinless.queue c.count_pins.new.left) (sym c.offer_pinless.ensures.lists) (c.offer_pinless.ensures.reading graph start w) in
    record {
      of_cells = subst (AreOfStoredCells costs.pin_counts) (sym c.offer_pinless.ensures.lists) c.requires.may.of_cells;
      reading = (first_stage graph start, reading);
    }

pub returns : goal.returns
returns g c =
    let costs = g.C.Cost.costs c.args.cost.now in
    let is = g.met.C.Cost.laws c.args.cost.now in
    let graph = c.args.graph.now in
    let lists = c.args.store.now.lists in
    let start = c.args.store.now.done in
    let w = starting costs lists graph start c.args.marks.now c.offer_inputs.new.queue c.count_pins.new.left c.classes.ensures.kept is c.requires.may.one_each c.requires.may.fresh c.requires.none.none_marked c.offer_inputs.ensures c.count_pins.ensures in
    let pinless = c.offer_pinless.new in
    let reading = subst (λ ls. IsReading costs ls (first_stage graph start) [] pinless.store.done c.args.marks.now pinless.queue c.count_pins.new.left) (sym c.offer_pinless.ensures.lists) (c.offer_pinless.ensures.reading graph start w) in
    let end = c.settle_classes.ensures.reading (first_stage graph start) reading in
    let new = c.settle_classes.new in
    let st : Stage = record { graph = graph; start = start; top = end.top } in
    let last = subst (λ ls. IsReading costs ls st [] new.store.done new.marks new.queue new.left) c.offer_pinless.ensures.lists end.reading in
    record {
      settled = finished costs lists st new.store.done new.marks new.queue new.left c.classes.ensures.kept is c.requires.may.of_cells c.requires.may.leaves last c.settle_classes.ensures.none;
      lists = c.settle_classes.ensures.lists ∙ c.offer_pinless.ensures.lists;
      done = steps_are costs lists st new.store.done new.marks new.queue new.left c.classes.ensures.kept is c.requires.may.of_cells c.requires.may.leaves last c.settle_classes.ensures.none;
    }
