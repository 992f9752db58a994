use Rattle.std.proofs.Common.{◌≡◌, ◌+◌, ◌-◌, ◌*◌, ◌^◌, ◌<◌, ◌∙◌, ap, subst, arith, length, Some}
use Rattle.lw_laws.specs.NumberedForms.{IsPart}
use Rattle.lw_form.specs.Bases.{picked, plain_base}
use Rattle.lw_assoc.proofs.Dropping.{drops_before, drops_more, twice, twice_half}
use Rattle.lw_assoc.proofs.drops.put_drops.Goals as goal

pub overflow_sub-all-in-loop-place : goal.overflow_sub-all-in-loop-place
overflow_sub-all-in-loop-place c =
    let ids = c.in-And.ids in
    let place = c.loop-place.place in
    let e = c.base.ensures.base ∙ ap (λ b. Some (plain_base b)) c.in-And.is in
    let two = (c.base.ensures.kept.operands c.args.b ids e).two in
    let t = c.loop-place-test.true in
    let n = c.len.ensures.len in
    let m = c.len-place-end.ensures.len in
    let h = twice (length ids) c.len.result c.half_of.result two n c.half_of.ensures.half place (omega arith) in
    let (low, some) = h in
    let b = c.bit.ensures in
    omega arith

pub part-others-requires : goal.part-others-requires
part-others-requires c =
    let ids = c.in-And.ids in
    let place = c.loop-place.place in
    let e = c.base.ensures.base ∙ ap (λ b. Some (plain_base b)) c.in-And.is in
    let two = (c.base.ensures.kept.operands c.args.b ids e).two in
    let t = c.loop-place-test.true in
    let n = c.len.ensures.len in
    let m = c.len-place-end.ensures.len in
    let (low, some) = twice (length ids) c.len.result c.half_of.result two n c.half_of.ensures.half place (omega arith) in
    let all = twice_half (length ids) c.len.result c.half_of.result (omega arith) n c.half_of.ensures.half in
    let b = c.bit.ensures in
    (ids, e, (omega arith), (omega arith))

pub loop-place-preserved : goal.loop-place-preserved
loop-place-preserved c =
    let forms = c.args.forms.now in
    let are = c.base.ensures.kept in
    let ids = c.in-And.ids in
    let l = c.loop-place in
    let x = c.part-others.result.0 in
    let e = c.base.ensures.base ∙ ap (λ b. Some (plain_base b)) c.in-And.is in
    let ops = are.operands c.args.b ids e in
    let two = ops.two in
    let few = ops.few in
    let t = c.loop-place-test.true in
    let n = c.len.ensures.len in
    let m = c.len-place-end.ensures.len in
    let all = twice_half (length ids) c.len.result c.half_of.result (omega arith) n c.half_of.ensures.half in
    let b = c.bit.ensures in
    let lt : l.place < length ids = omega arith in
    let s = l.invariant.before.size in
    let w = c.requires.within in
    let in' : 8 * c.args.b + l.place < length l.drops = omega arith in
    let mask : 2 * c.half_of.result - 1 - c.bit.result ≡ 2 ^ length ids - 1 - 2 ^ l.place = omega arith in
    record {
      before = drops_before forms are c.args.b ids e l.drops l.place x lt in' l.invariant.before;
      so_far = drops_more forms are c.args.b ids e l.drops l.place x lt in' l.invariant.so_far (subst (λ k. IsPart forms (picked ids k) x) mask (c.part-others.ensures ids e));
    }
