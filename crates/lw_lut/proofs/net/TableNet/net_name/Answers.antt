use Rattle.std.proofs.Common.{◌<◌, ◌-◌, Contains, length, get_or, sym, ap, ◌∙◌, subst, arith}
use Rattle.lw_lut.specs.Nets.{PlainTableNet, net_classes}
use Rattle.lw_lut.specs.Texts.{net_name}
use Rattle.lw_lut.proofs.PlacedNames.{place_within, net_within, input_named, table_named}
use Rattle.lw_lut.proofs.net.TableNet.net_name.Goals as goal

pub index-requires : goal.index-requires
index-requires c =
    let has = subst (λ (n : PlainTableNet). Contains (net_classes n) c.args.class.0) (sym c.self.view_is) c.requires in
    let lt = place_within _ c.self.inside.places.items c.self.invariant c.args.class.0 has in
    omega (arith, lt, c.self.inside.places.ok.0)

pub bounds-as_slice-place : goal.bounds-as_slice-place
bounds-as_slice-place c =
    let has = subst (λ (n : PlainTableNet). Contains (net_classes n) c.args.class.0) (sym c.self.view_is) c.requires in
    let within = net_within _ c.self.inside.places.items c.self.invariant c.args.class.0 has c.index.result.now c.index.ensures in
    let inputs = ap length c.as_slice-inputs.ensures in
    let names = ap length c.as_slice.ensures in
    let after = c.if-place-inputs.false in
    omega (arith, within, inputs, names, after)

pub returns-then-place-inputs : goal.returns-then-place-inputs
returns-then-place-inputs c =
    let has = subst (λ (n : PlainTableNet). Contains (net_classes n) c.args.class.0) (sym c.self.view_is) c.requires in
    let name = c.index-inputs-place.result in
    let read = c.index-inputs-place.is ∙ ap (λ ns. get_or ns c.index.result.now name) c.as_slice-inputs.ensures in
    let before = subst (λ ns. c.index.result.now < length ns) c.as_slice-inputs.ensures c.if-place-inputs.true in
    c.as_bytes.ensures.bytes
    ∙ (input_named _ c.self.inside.places.items c.self.invariant c.args.class.0 has c.index.result.now c.index.ensures name before read
    ∙ ap (λ (n : PlainTableNet). net_name n c.args.class.0) c.self.view_is)

pub returns-else-place-inputs : goal.returns-else-place-inputs
returns-else-place-inputs c =
    let has = subst (λ (n : PlainTableNet). Contains (net_classes n) c.args.class.0) (sym c.self.view_is) c.requires in
    let p = c.index.result.now in
    let name = c.index-as_slice-place.result in
    let length_is = ap length c.as_slice-inputs.ensures in
    let after = c.if-place-inputs.false in
    let read = c.index-as_slice-place.is ∙ (ap (λ ns. get_or ns (p - length c.as_slice-inputs.result.now) name) c.as_slice.ensures ∙ ap (λ k. get_or c.self.inside.names (p - k) name) length_is) in
    c.as_bytes-else-place-inputs.ensures.bytes
    ∙ (table_named _ c.self.inside.places.items c.self.invariant c.args.class.0 has p c.index.ensures name (omega (arith, after, length_is)) read
    ∙ ap (λ (n : PlainTableNet). net_name n c.args.class.0) c.self.view_is)
