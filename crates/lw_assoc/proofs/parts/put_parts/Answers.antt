use Rattle.std.proofs.Common.{◌*◌, ◌-◌, ◌∙◌, ap, arith, length, Some}
use Rattle.lw_form.specs.Bases.{plain_base}
use Rattle.lw_assoc.proofs.Dropping.{twice_half, whole_parts}
use Rattle.lw_assoc.proofs.parts.put_parts.Goals as goal

pub loop-step-init : goal.loop-step-init
loop-step-init c =
    let forms = c.args.forms.now in
    let ids = c.in-And.ids in
    let all = 2 * c.half_of.result - 1 in
    let e = c.base.ensures.base ∙ ap (λ b. Some (plain_base b)) c.in-And.is in
    let two = (c.base.ensures.kept.operands c.args.b ids e).two in
    let n = twice_half (length ids) c.len.result c.half_of.result (omega arith) c.len.ensures.len c.half_of.ensures.half in
    let f = c.half_of.ensures.few in
    let whole = whole_parts forms c.base.ensures.kept c.args.b all ids c.args.parts.now e n (omega arith) c.requires.size in
    record { within = whole.within; size = whole.size; each = λ fs m d le lt. whole.each fs m d (omega arith) lt }
