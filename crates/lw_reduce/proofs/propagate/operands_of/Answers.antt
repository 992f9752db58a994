use Rattle.std.proofs.Common.{◌/◌, ◌<◌, length, sym, subst}
use Rattle.lw_reduce.proofs.RepSteps.{valid_at, found_twice, found_second}
use Rattle.lw_reduce.proofs.Settling.{operands_in_order}
use Rattle.lw_reduce.proofs.propagate.operands_of.Goals as goal

pub find-left-requires : goal.find-left-requires
find-left-requires c = record {
  valid = c.requires.valid;
  within = c.requires.within.1;
}

pub find-right-requires : goal.find-right-requires
find-right-requires c =
    let mid = c.find-left.new.reps in
    let valid = c.find-left.ensures.valid in
    record {
      valid = valid_at (length mid) c.args.facts.now.nands.now c.args.facts.now.links.now mid (length c.args.reps.now) valid (sym valid.count);
      within = subst (λ m. c.args.fact.right / 2 < m) (sym valid.count) c.requires.within.2;
    }

pub returns : goal.returns
returns c =
    let n = length c.args.reps.now in
    let nands = c.args.facts.now.nands.now in
    let links = c.args.facts.now.links.now in
    let fact = c.args.fact in
    record {
      kept = found_twice n nands links c.args.reps.now c.find-left.new.reps c.find-right.new.reps fact.left fact.right c.find-left.result c.find-right.result c.find-left.ensures c.find-right.ensures;
      operands = rw (c.min.ensures, c.max.ensures) (operands_in_order n nands links fact c.find-left.result c.find-right.result c.find-left.ensures.alike (found_second n nands links c.args.reps.now c.find-left.new.reps c.find-right.new.reps fact.left fact.right c.find-left.result c.find-right.result c.find-left.ensures c.find-right.ensures));
    }
