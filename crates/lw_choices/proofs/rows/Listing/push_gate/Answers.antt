use Rattle.std.proofs.Common.{◌≡◌, ◌∙◌, ◌+◌, ◌++◌, ◌∷◌, ◌≤◌, [], ap, length, refl, subst₂, sym, arith}
use Rattle.std.proofs.lemmas.List.{length-append}
use Rattle.lw_choices.specs.declared.rows.KeptStand.TheVariants.{Gate}
use Rattle.lw_choices.specs.declared.rows.Row.{Row}
use Rattle.lw_choices.specs.Kept.{AreKeptIn, kept_rows}
use Rattle.lw_choices.specs.Stands.{choice_of}
use Rattle.lw_choices.proofs.Keeping.{gate_pushed, kept_in, kept_later}
use Rattle.lw_choices.proofs.rows.Listing.push_gate.Goals as goal

pub invariant_of-self-in_err-push : goal.invariant_of-self-in_err-push
invariant_of-self-in_err-push c =
    let pins = c.self.inside.pins.items in
    let added = c.args.gate.pins.now in
    let rows = c.self.inside.rows.items in
    let size = length-append pins added in
    let later = kept_later (length pins) (length (pins ++ added)) rows (omega (arith, size)) c.self.invariant in
    subst₂ (λ ps rs. AreKeptIn (length ps) rs) (sym c.in_ok-extend_from_slice.ensures.items) (sym c.in_err-push.ensures.items) later

pub invariant_of-self-2 : goal.invariant_of-self-2
invariant_of-self-2 c =
    let pins = c.self.inside.pins.items in
    let added = c.args.gate.pins.now in
    let rows = c.self.inside.rows.items in
    let first = c.len-first.result in
    let count = length added in
    let size = length-append pins added in
    let r : Row = record { class = c.args.class; stand = Gate (record { cell = c.args.gate.cell; first = first; count = count }) } in
    let within : first + count ≤ length (pins ++ added) = omega (arith, size, c.len-first.ensures) in
    let few : count ≤ 16 = omega (arith, c.requires) in
    let all = kept_in (length pins) (length (pins ++ added)) rows r (omega (arith, size)) (record { within = within; few = few }) c.self.invariant in
    subst₂ (λ ps rs. AreKeptIn (length ps) rs) (sym c.in_ok-extend_from_slice.ensures.items) (sym c.in_ok-push.ensures.items) all

pub returns : goal.returns
returns c =
    let pins = c.self.inside.pins.items in
    let added = c.args.gate.pins.now in
    let first : c.len-first.result ≡ length pins = omega (arith, c.len-first.ensures) in
    let all = gate_pushed pins added c.self.inside.rows.items c.args.class c.args.gate.cell c.len-first.result (length added) first refl c.self.invariant in
    (λ j. kept_rows (c.in_ok-extend_from_slice.ensures.items j) (c.in_ok-push.ensures.items j)) ∙ (all ∙ ap (λ xs. xs ++ choice_of c.args.class c.args.gate ∷ []) c.self.view_is)
