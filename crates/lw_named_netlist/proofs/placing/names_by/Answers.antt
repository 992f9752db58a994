use Rattle.std.proofs.Common.{◌≡◌, ◌<◌, ◌+◌, ◌++◌, ◌∷◌, [], List, ℕ, length, map, take, get_or, sym, ap, ap₂, ◌∙◌, arith, append_assoc}
use Rattle.std.proofs.lemmas.List.{map_more}
use Rattle.std.proofs.lemmas.Option.{get_or_from_slice_get}
use Rattle.lw_named_netlist.specs.Placing.{signal_at}
use Rattle.lw_named_netlist.proofs.placing.names_by.Goals as goal

pub loop-place-preserved : goal.loop-place-preserved
loop-place-preserved c =
    let signals = c.args.signals.now in
    let places = c.args.places.now in
    let i = c.loop-place.place-index in
    let first : List (List ℕ) = c.args.first.items in
    let f : ℕ → List ℕ = signal_at c.args.inputs signals in
    let here : i < length places = omega arith in
    let named : f (get_or places i 0) ≡ c.in_ok-from_slice.field-0 = get_or_from_slice_get signals (c.args.inputs + get_or places i 0) c.get-name.result.now [] c.get-name.ensures.name ∙ sym c.in_ok-from_slice.ensures in
    c.in_ok-push.ensures.items
    ∙ (ap₂ (λ l n. l ++ n ∷ []) c.loop-place.invariant (sym named)
    ∙ (append_assoc first (map f (take i places)) (f (get_or places i 0) ∷ []) ∙ ap (λ l. first ++ l) (sym (map_more f places i 0 here))))
