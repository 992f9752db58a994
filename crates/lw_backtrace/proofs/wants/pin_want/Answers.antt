use Rattle.std.proofs.Common.{slice_index_or, ap, ◌∙◌}
use Rattle.std.proofs.lemmas.Option.{get_or_from_slice_get}
use Rattle.lw_pool.specs.declared.id.ClassId.{ClassId}
use Rattle.lw_fixed.specs.declared.micro.Micro.{Micro}
use Rattle.lw_backtrace.specs.declared.wants.Want.{Want}
use Rattle.lw_backtrace.proofs.wants.pin_want.Goals as goal

pub returns : goal.returns
returns c = λ pin delay pt dt.
    let d = c.args.demand.now in
    let none : ClassId = record { 0 = 0 } in
    let never : Micro = record { 0 = 0 } in
    let p = get_or_from_slice_get d.pins.now c.args.pin pin none pt in
    let t = get_or_from_slice_get d.delays.now c.args.pin delay never dt in
    let w : ClassId → Micro → Want = λ x y. record { class = x; delay = y.0; time = d.time; exact = d.exact } in
    ap (λ x. w x (slice_index_or d.delays.now c.args.pin never)) p ∙ ap (w pin) t
