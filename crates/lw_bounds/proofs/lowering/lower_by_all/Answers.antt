use Rattle.std.proofs.Common.{Bool, slice_index_or, sym, subst, arith}
use Rattle.std.proofs.lemmas.Option.{slice_get-get_or, slice_get_within}
use Rattle.lw_graph.specs.declared.pair.Pair.{Pair}
use Rattle.lw_bounds.specs.Numbers.{reading}
use Rattle.lw_bounds.proofs.Lessening.{HaveFallen, fallen_more}
use Rattle.lw_bounds.proofs.SideRows.{least_by_more}
use Rattle.lw_bounds.proofs.lowering.lower_by_all.Goals as goal

pub loop-pair-preserved : goal.loop-pair-preserved
loop-pair-preserved c =
    let pairs = c.args.pairs.now in
    let l = c.loop-pair in
    let new = c.lower_by-one_fell.new.least in
    let none : Pair = record { x = record { 0 = 0 }; y = record { 0 = 0 } } in
    let pair = slice_index_or pairs l.pair-index none in
    record {
      least = least_by_more (reading c.args.at) c.args.plan.parts.now pairs c.args.least.now l.least new l.pair-index pair (slice_get-get_or pairs l.pair-index none c.loop-pair-test.true) c.lower_by-one_fell.ensures.lessened.no_more c.lower_by-one_fell.ensures.lowered l.invariant.least;
      fallen = subst (λ (b : Bool). HaveFallen c.args.least.now new b) (sym c.either-fell.ensures) (fallen_more c.args.least.now l.least new c.lower_by-one_fell.result l.fell c.lower_by-one_fell.ensures.lessened.falls c.lower_by-one_fell.ensures.lessened.same l.invariant.fallen);
    }

pub lower_by-one_fell-requires-clause-pair : goal.lower_by-one_fell-requires-clause-pair
lower_by-one_fell-requires-clause-pair c =
    let i = c.loop-pair.pair-index in
    let none : Pair = record { x = record { 0 = 0 }; y = record { 0 = 0 } } in
    c.requires.pairs i (slice_index_or c.args.pairs.now i none) (slice_get-get_or c.args.pairs.now i none c.loop-pair-test.true)

pub returns-clause-lowered : goal.returns-clause-lowered
returns-clause-lowered c = λ i q n p at part.
    let lt = slice_get_within c.args.pairs.now i q at in
    c.loop-pair.invariant.least.low i q n p (omega arith) at part
