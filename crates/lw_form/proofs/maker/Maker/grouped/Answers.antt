use Rattle.std.proofs.Common.{sym, subst, arith}
use Rattle.std.proofs.lemmas.List.{length-take-le}
use Rattle.lw_form.proofs.Joining.{GroupsSoFar, groups_more, groups_last, clean_now, clean_taken, below_take, below_kept_more, tail_is, take_few}
use Rattle.lw_form.proofs.maker.Maker.grouped.Goals as goal

pub joined-requires : goal.joined-requires
joined-requires c = record {
  some = let t = length-take-le c.args.self.now.width c.runs.rest.now (let lt = c.runs-test.true in omega arith) in let l = c.args.self.now.wide.low in omega arith;
  few = let t = length-take-le c.args.self.now.width c.runs.rest.now (let lt = c.runs-test.true in omega arith) in let h = c.args.self.now.wide.high in omega arith;
  below = below_take _ _ _ (below_kept_more _ _ _ c.runs.invariant.more c.runs.invariant.below);
  clean = clean_taken _ _ _ (clean_now c.args.table.now c.runs.table c.runs.rest.now c.runs.invariant.more c.runs.invariant.below c.runs.invariant.clean);
}

pub runs-preserved : goal.runs-preserved
runs-preserved c =
    subst (λ l. GroupsSoFar c.args.self.now.width c.args.table.now c.joined.new.table c.args.forms.now l c.push.new.self.items) (sym (tail_is c.args.self.now.width c.runs.rest.now))
    (groups_more c.args.self.now.width c.args.self.now.wide.low c.args.table.now c.runs.table c.joined.new.table c.args.forms.now c.runs.rest.now c.runs.groups.items c.push.new.self.items c.in_ok-joined.field-0 c.runs-test.true c.runs.invariant (c.in_ok-joined.ensures c.args.self.now.width c.args.self.now.wide.low (take_few c.args.self.now.width c.runs.rest.now)) c.in_ok-push.ensures.items)

pub joined-requires-2 : goal.joined-requires-2
joined-requires-2 c = record {
  some = c.runs.invariant.some;
  few = let l = c.runs-test.false in let h = c.args.self.now.wide.high in omega arith;
  below = below_kept_more _ _ _ c.runs.invariant.more c.runs.invariant.below;
  clean = clean_now c.args.table.now c.runs.table c.runs.rest.now c.runs.invariant.more c.runs.invariant.below c.runs.invariant.clean;
}

pub returns : goal.returns
returns c = groups_last c.args.self.now.width c.args.self.now.wide.low c.args.table.now c.runs.table c.joined-2.new.table c.args.forms.now c.runs.rest.now c.runs.groups.items c.push-2.new.self.items c.in_ok-joined-2.field-0 c.runs-test.false c.runs.invariant (c.in_ok-joined-2.ensures c.args.self.now.width c.args.self.now.wide.low c.runs-test.false) c.in_ok-push-2.ensures.items
