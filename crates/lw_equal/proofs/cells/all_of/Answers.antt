use Rattle.std.proofs.Common.{get_or, subst}
use Rattle.std.proofs.lemmas.List.{get_or_default, take_all}
use Rattle.std.specs.List.{list_all}
use Rattle.lw_aig.specs.Aigs.{IsAig}
use Rattle.lw_sweep.proofs.Growing.{extended_both, extended_itself}
use Rattle.lw_equal.specs.Cells.{Makes, itself}
use Rattle.lw_equal.proofs.Steps.{all_of_more, all_of_none}
use Rattle.lw_equal.proofs.cells.all_of.Goals as goal

pub parts-init : goal.parts-init
parts-init c = record {
  grown = extended_itself c.args.sweep.now;
  makes = all_of_none c.args.sweep.now (subst IsAig c.aig.ensures c.gates.ensures.kept);
}

pub parts-preserved : goal.parts-preserved
parts-preserved c =
    let is = rw c.in-Some.is at c.in_ok-literal.ensures.conjunction in
    let parts = c.args.parts.now in
    let i = c.parts.part-index in
    let part = get_or parts i (record { 0 = 0 }) in
    record {
      grown = extended_both c.args.sweep.now c.parts.sweep c.and.new.self c.parts.invariant.grown c.and.ensures.grows;
      makes = all_of_more c.parts.sweep c.and.new.self parts i part c.parts.all c.in-Some.literal c.and.ensures.grows c.parts-test.true (get_or_default parts i (record { 0 = 0 }) part c.parts-test.true) c.parts.invariant.makes is;
    }

pub returns-clause-literal : goal.returns-clause-literal
returns-clause-literal c = subst (λ ps. Makes c.parts.sweep ps (list_all itself) c.parts.all) (take_all c.parts.part-index c.args.parts.now c.parts-test.false) c.parts.invariant.makes
