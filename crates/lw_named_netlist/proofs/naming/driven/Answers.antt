use Rattle.std.proofs.Common.{ℕ, ◌≡◌, ◌<◌, ◌+◌, List, [], ◌∷◌, ◌++◌, length, map, take, get_or, sym, ap, ap₂, subst, ◌∙◌, arith, append_assoc}
use Rattle.std.proofs.lemmas.List.{map_more, take_all}
use Rattle.lw_named_netlist.specs.declared.draft.Wire.{Wire}
use Rattle.lw_named_netlist.specs.Closing.{out_of}
use Rattle.lw_named_netlist.proofs.Names.{drivers_are, to_of}
use Rattle.lw_named_netlist.proofs.naming.driven.Goals as goal

pub returns : goal.returns
returns c =
    let wires = c.args.draft.now.wires in
    c.loop-wire.invariant
    ∙ (ap₂ (λ a b. a ++ map to_of b) (c.in_ok-names.ensures ∙ ap₂ (λ a b. a ++ map out_of b) c.as_slice.ensures c.as_slice-2.ensures) (take_all c.loop-wire.wire-index wires (omega (arith, ap length c.as_slice-wire-items.ensures)))
    ∙ sym (drivers_are c.args.draft.now))

-- one more name is pushed
pushed : (wires items : List Wire) (i : ℕ) (wire : Wire) (old new first : List (List ℕ)) (name : List ℕ) → items ≡ wires → i < length items → wire ≡ get_or items i wire → name ≡ wire.to → old ≡ first ++ map to_of (take i wires) → new ≡ old ++ name ∷ [] → new ≡ first ++ map to_of (take (i + 1) wires)
pushed wires items i wire old new first name same below here named was grown =
    let within : i < length wires = subst (λ (l : List Wire). i < length l) same below in
    let item : wire ≡ get_or wires i wire = here ∙ ap (λ (l : List Wire). get_or l i wire) same in
    grown
    ∙ (ap₂ (λ o n. o ++ n ∷ []) was (named ∙ ap to_of item)
    ∙ (append_assoc first (map to_of (take i wires)) (to_of (get_or wires i wire) ∷ [])
    ∙ ap (λ l. first ++ l) (sym (map_more to_of wires i wire within))))

pub loop-wire-preserved : goal.loop-wire-preserved
loop-wire-preserved c =
    pushed c.args.draft.now.wires c.as_slice-wire-items.result.now c.loop-wire.wire-index c.wire-item.result c.loop-wire.names c.push.new.self c.in_ok-names.names c.as_bytes.result.now
    c.as_slice-wire-items.ensures c.loop-wire-test.true c.wire-item.is c.as_bytes.ensures.bytes c.loop-wire.invariant c.in_ok-push.ensures.ok
