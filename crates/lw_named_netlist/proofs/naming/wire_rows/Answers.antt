use Rattle.std.specs.List.{flat_map}
use Rattle.std.proofs.lemmas.List.{take_all, drop_all}
use Rattle.std.proofs.Common.{ℕ, ◌≡◌, ◌<◌, ◌+◌, List, [], ◌∷◌, ◌++◌, length, map, take, get_or, refl, ap, ◌∙◌, append_assoc, sym, arith}
use Rattle.std.proofs.lemmas.Result.{err_from_is_err_and}
use Rattle.lw_dag.specs.Names.{number_in}
use Rattle.lw_named_netlist.specs.declared.draft.Wire.{Wire}
use Rattle.lw_named_netlist.specs.Closing.{wire_link, needs_of, undriven_in}
use Rattle.lw_named_netlist.specs.Numbered.{numbered}
use Rattle.lw_named_netlist.proofs.Names.{numbered_more, undriven_in_link, undriven_behind_link}
use Rattle.lw_named_netlist.proofs.naming.wire_rows.Goals as goal

-- one more row is pushed
pushed : (driven : List (List ℕ)) (wires : List Wire) (i : ℕ) (wire : Wire) (first old new : List (List ℕ)) (row : List ℕ) → i < length wires → wire ≡ get_or wires i wire → old ≡ first ++ numbered driven (map wire_link (take i wires)) → row ≡ map (number_in driven) (wire_link wire).needs → new ≡ old ++ row ∷ [] → new ≡ first ++ numbered driven (map wire_link (take (i + 1) wires))
pushed driven wires i wire first old new row below here was is grown =
    let done : List (List ℕ) = numbered driven (map wire_link (take i wires)) in
    grown
    ∙ (ap (λ o. o ++ row ∷ []) was
    ∙ (append_assoc first done (row ∷ [])
    ∙ ap (λ l. first ++ l) (numbered_more driven wire_link wires done (done ++ row ∷ []) i wire row below here refl is refl)))

pub returns-in_err-row : goal.returns-in_err-row
returns-in_err-row c =
    let p = err_from_is_err_and c.from_residual.result c.from_residual.ensures.1 in
    rw (p.1, p.2) (undriven_in_link c.args.signals.now wire_link c.args.wires.now c.loop-wire.wire-index c.wire-item.result c.in_err-row.field-0.0 c.loop-wire-test.true c.wire-item.is c.loop-wire.invariant.rest c.in_err-row.ensures)

pub loop-wire-preserved : goal.loop-wire-preserved
loop-wire-preserved c = record {
  so_far = pushed c.args.signals.now c.args.wires.now c.loop-wire.wire-index c.wire-item.result _ c.loop-wire.rows.items c.push.new.self.items c.in_ok-row.row c.loop-wire-test.true c.wire-item.is c.loop-wire.invariant.so_far c.in_ok-row.ensures.0 c.in-Ok.ensures.items;
  rest = undriven_behind_link c.args.signals.now wire_link c.args.wires.now c.loop-wire.wire-index c.wire-item.result c.loop-wire-test.true c.wire-item.is c.loop-wire.invariant.rest c.in_ok-row.ensures.1;
}

pub returns : goal.returns
returns c = (
  c.loop-wire.invariant.so_far ∙ ap (λ ws. c.args.rows.now.items ++ numbered c.args.signals.now (map wire_link ws)) (take_all c.loop-wire.wire-index c.args.wires.now (omega (arith, c.loop-wire-test.false))),
  sym c.loop-wire.invariant.rest ∙ ap (λ ws. undriven_in c.args.signals.now (flat_map needs_of (map wire_link ws))) (drop_all c.loop-wire.wire-index c.args.wires.now (omega (arith, c.loop-wire-test.false))),
)
