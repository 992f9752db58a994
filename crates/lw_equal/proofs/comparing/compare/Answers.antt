use Rattle.std.proofs.Common.{◌≡◌, None, subst, subst₂}
use Rattle.lw_equal.specs.declared.answer.Fault.TheVariants.{Memory}
use Rattle.lw_equal.specs.Answers.{HasFault, Refuses}
use Rattle.lw_equal.specs.Cases.{Settles}
use Rattle.lw_equal.specs.Pairs.{AreAllPairs}
use Rattle.lw_equal.specs.Ports.{both_faults, fault_from, first_port_fault}
use Rattle.lw_equal.proofs.Paired.{settled}
use Rattle.lw_equal.proofs.Refused.{err_is, first_none}
use Rattle.lw_equal.proofs.comparing.compare.Goals as goal

pub returns-in_err-compare_ports-clause-fault : goal.returns-in_err-compare_ports-clause-fault
returns-in_err-compare_ports-clause-fault c =
    let more = c.args.more.now in
    let fault = c.in_err-compare_ports.field-0.0 in
    let has = subst₂ (λ a b. Refuses (first_port_fault a b more) fault) c.in_ok-first.ensures.side c.in_ok-second.ensures.side c.in_err-compare_ports.ensures.fault in
    err_is (HasFault c.args.one.now c.args.other.now more) c.from_residual-in_err-compare_ports.result fault c.from_residual-in_err-compare_ports.ensures.1 has

pub returns-in_err-pairs-clause-fault : goal.returns-in_err-pairs-clause-fault
returns-in_err-pairs-clause-fault c = err_is (HasFault c.args.one.now c.args.other.now c.args.more.now) c.from_residual-in_err-pairs.result Memory c.from_residual-in_err-pairs.ensures.1 tt

pub returns-in_err-outcome-clause-fault : goal.returns-in_err-outcome-clause-fault
returns-in_err-outcome-clause-fault c = err_is (HasFault c.args.one.now c.args.other.now c.args.more.now) c.from_residual-in_err-outcome.result Memory c.from_residual-in_err-outcome.ensures.1 tt

pub returns-clause-answer : goal.returns-clause-answer
returns-clause-answer c =
    let one = c.args.one.now in
    let other = c.args.other.now in
    let more = c.args.more.now in
    let first = c.in_ok-first.ensures.side in
    let second = c.in_ok-second.ensures.side in
    let pairs = c.in_ok-pairs.pairs.items in
    let answer = c.in_ok-outcome.outcome.answer in
    let all = subst₂ (λ a b. AreAllPairs a b pairs) first second c.in_ok-pairs.ensures in
    let settles = subst₂ (λ a ps. Settles a other ps answer) first c.deref.ensures.value c.in_ok-outcome.ensures in
    record {
      ports = first_none (both_faults one other) (fault_from one 3 more) (subst₂ (λ a b. first_port_fault a b more ≡ None) first second c.in_ok-compare_ports.ensures.ok);
      claims = settled one other pairs answer all settles;
    }
