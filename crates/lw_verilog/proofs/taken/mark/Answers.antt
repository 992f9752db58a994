use Rattle.std.proofs.Common.{◌+◌, ◌-◌, ◌≡◌, ap, sym, ◌∙◌, arith}
use Rattle.std.specs.Str.{bytes_eq}
use Rattle.lw_facts.proofs.Lists.{bytes_eq_same}
use Rattle.lw_verilog.specs.Texts.{instance_name}
use Rattle.lw_verilog.proofs.Marks.{other-instance, raise-none, raise-one}
use Rattle.lw_verilog.proofs.taken.mark.Goals as goal

pub returns-then-number-base : goal.returns-then-number-base
returns-then-number-base c =
    raise-none (λ i. bytes_eq (instance_name (c.args.base + i)) c.args.name.now) c.args.flags.now (λ i lt.
    other-instance (c.args.base + i) c.in-Some.number c.args.name.now (omega (arith, lt, c.requires)) c.in-Some.ensures.1 c.in-Some.ensures.0 (omega (arith, c.if-number-base.true)))

pub returns-then-place-flags : goal.returns-then-place-flags
returns-then-place-flags c =
    raise-none (λ i. bytes_eq (instance_name (c.args.base + i)) c.args.name.now) c.args.flags.now (λ i lt.
    other-instance (c.args.base + i) c.in-Some.number c.args.name.now (omega (arith, lt, c.requires)) c.in-Some.ensures.1 c.in-Some.ensures.0 (omega (arith, lt, c.if-number-base.false, c.if-place-flags.true)))

pub returns : goal.returns
returns c =
    let place = c.in-Some.number - c.args.base in
    let here : c.args.base + place ≡ c.in-Some.number = omega (arith, c.if-number-base.false) in
    raise-one (λ i. bytes_eq (instance_name (c.args.base + i)) c.args.name.now) c.args.flags.now place c.if-place-flags.false
    (bytes_eq_same (instance_name (c.args.base + place)) c.args.name.now (ap instance_name here ∙ sym c.in-Some.ensures.0))
    (λ i lt apart. other-instance (c.args.base + i) c.in-Some.number c.args.name.now (omega (arith, lt, c.requires)) c.in-Some.ensures.1 c.in-Some.ensures.0 (omega (arith, apart, c.if-number-base.false)))
