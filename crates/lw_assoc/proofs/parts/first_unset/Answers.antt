use Rattle.std.proofs.Common.{◌≡◌, ◌+◌, suc, subst, arith}
use Rattle.lw_assoc.specs.Parts.{IsFirstUnset}
use Rattle.lw_assoc.proofs.Dropping.{few_places}
use Rattle.lw_assoc.proofs.parts.first_unset.Goals as goal

pub bits-preserved : goal.bits-preserved
bits-preserved c =
    let l = c.bits in
    let t = c.bits-test.true in
    record {
      found = λ q u. subst (IsFirstUnset c.args.mask) (omega arith) (l.invariant.found (suc q) (t, u));
      low = let low = l.invariant.low in omega arith;
    }

pub returns-clause-place : goal.returns-clause-place
returns-clause-place c =
    let l = c.bits in
    let t = c.bits-test.false in
    let e : l.place + 0 ≡ l.place = omega arith in
    subst (IsFirstUnset c.args.mask) e (l.invariant.found 0 (omega arith))

pub returns-clause-few : goal.returns-clause-few
returns-clause-few c =
    let l = c.bits in
    let t = c.bits-test.false in
    let e : l.place + 0 ≡ l.place = omega arith in
    few_places c.args.mask l.place c.requires (subst (IsFirstUnset c.args.mask) e (l.invariant.found 0 (omega arith)))
