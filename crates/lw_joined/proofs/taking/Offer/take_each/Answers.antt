use Rattle.std.proofs.Common.{Bool, List, ap, arith, length, subst, subst₂, sym}
use Rattle.lw_joined.specs.declared.taking.Left.{Left}
use Rattle.lw_joined.specs.Unions.{LeavesOut, ListsTaken}
use Rattle.lw_joined.proofs.LeftOut.{none_left}
use Rattle.lw_joined.proofs.taking.Offer.take_each.Goals as goal

pub loop-place-init : goal.loop-place-init
loop-place-init c =
    let o = c.args.self.now in
    record {
      one_each = ap length c.new-taken.ensures.items;
      listed = subst (λ (ts : List Bool). ListsTaken o ts c.in_ok-listed.listed) (sym c.new-taken.ensures.items) c.in_ok-listed.ensures.listed;
      left_out = subst₂ (λ (ts : List Bool) (ls : List Left). LeavesOut o ts ls) (sym c.new-taken.ensures.items) (sym c.new-left.ensures.items) (none_left o 0);
    }

pub returns-clause-taken : goal.returns-clause-taken
returns-clause-taken c =
    let is = c.loop-place.invariant in
    (c.loop-place.chosen.taken.items, record { one_each = omega (arith, is.one_each, c.loop-place-test.false, c.loop-place.auto.place-end); listed = is.listed; left_out = is.left_out })
