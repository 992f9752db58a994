use Rattle.std.proofs.Common.{get_or, subst}
use Rattle.std.proofs.lemmas.List.{get_or_default, take_all}
use Rattle.std.specs.List.{list_any}
use Rattle.lw_aig.specs.Aigs.{IsAig}
use Rattle.lw_sweep.proofs.Growing.{extended_both, extended_itself}
use Rattle.lw_equal.specs.Cells.{Makes, itself}
use Rattle.lw_equal.proofs.Steps.{some_of_more, some_of_none}
use Rattle.lw_equal.proofs.cells.some_of.Goals as goal

pub parts-init : goal.parts-init
parts-init c = record {
  grown = extended_itself c.args.sweep.now;
  makes = some_of_none c.args.sweep.now (subst IsAig c.aig.ensures c.gates.ensures.kept);
}

pub parts-preserved : goal.parts-preserved
parts-preserved c =
    let is = rw c.in-Some.is at c.in_ok-literal.ensures.literal in
    let parts = c.args.parts.now in
    let i = c.parts.part-index in
    let part = get_or parts i (record { 0 = 0 }) in
    record {
      grown = extended_both c.args.sweep.now c.parts.sweep c.or.new.sweep c.parts.invariant.grown c.or.ensures.grows;
      makes = some_of_more c.parts.sweep c.or.new.sweep parts i part c.parts.some c.in-Some.literal c.or.ensures.grows c.parts-test.true (get_or_default parts i (record { 0 = 0 }) part c.parts-test.true) c.parts.invariant.makes is;
    }

pub returns-clause-literal : goal.returns-clause-literal
returns-clause-literal c = subst (λ ps. Makes c.parts.sweep ps (list_any itself) c.parts.some) (take_all c.parts.part-index c.args.parts.now c.parts-test.false) c.parts.invariant.makes
