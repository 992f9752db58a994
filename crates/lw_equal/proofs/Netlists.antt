-- Literals of the nets of a netlist, gate by gate.
use Rattle.std.proofs.Common.{ℕ, ◌+◌, ◌<◌, ◌≤◌, ◌≡◌, Bool, false, List, [], ◌∷◌, ◌++◌, map, length, take, set, get_or, slice_get, Some, All, refl, ap, ap₂, sym, subst, ◌∙◌, arith}
use Rattle.std.specs.Option.{option_map}
use Rattle.std.proofs.lemmas.List.{get_or-map, get_or_append_left, get_or_push, length-map, length_push, same_lists, take_more, take_more_set}
use Rattle.std.proofs.lemmas.List.Elements.{All-push}
use Rattle.std.proofs.lemmas.Option.{get_or_from_slice_get, slice_get-map}
use native.Mathlib.Decide.{dec_lt}
use Rattle.lw_aig.specs.declared.gate.Gate.{Gate as Node}
use Rattle.lw_aig.specs.declared.literal.Literal.{Literal}
use Rattle.lw_aig.specs.Aigs.{AreNodeValues, IsBelow}
use Rattle.lw_aig.specs.Literals.{literal_value}
use Rattle.lw_genlib.specs.Cells.{CellParts, cell_value}
use Rattle.lw_genlib.specs.Tables.{truth_in, truth_of_cells}
use Rattle.lw_joint.specs.Joint.{Carry, Computes}
use Rattle.lw_joint.proofs.Columns.{all_below}
use Rattle.lw_laws.specs.Netlists.{AreNetlistValues, Netlist}
use Rattle.lw_netlist.specs.declared.gate.Gate.{Gate}
use Rattle.lw_netlist.specs.Filling.{gate_value}
use Rattle.lw_netlist.specs.Netlists.{plain_gate}
use Rattle.lw_pool.specs.declared.id.NetId.{NetId}
use Rattle.lw_pool.specs.Numbers.{net_number, values_at}
use Rattle.lw_sweep.specs.Sweeps.{IsExtended}
use Rattle.lw_sweep.proofs.Growing.{values_before}
use Rattle.lw_equal.specs.Cells.{HaveNetlistValues, Makes, literals_at, values_of}

-- Literals of pins.

pub pins_count : (lits : List Literal) (pins : List NetId) → length (literals_at lits pins) ≡ length pins
pins_count lits pins = length-map (map net_number pins) (λ net. get_or lits net (record { 0 = 0 })) ∙ length-map pins net_number

pub pin_read : (lits : List Literal) (pins : List NetId) (i : ℕ) (d : Literal) (n : NetId) → i < length pins → get_or (literals_at lits pins) i d ≡ get_or lits (get_or pins i n).0 (record { 0 = 0 })
pin_read lits pins i d n lt =
    let size = length-map pins net_number in
    get_or-map (λ net. get_or lits net (record { 0 = 0 })) (map net_number pins) i 0 d (omega arith)
    ∙ ap (λ net. get_or lits net (record { 0 = 0 })) (get_or-map net_number pins i n 0 lt)

value_read : (values : List Bool) (pins : List NetId) (i : ℕ) (d : Bool) (n : NetId) → i < length pins → get_or (values_at values pins) i d ≡ get_or values (get_or pins i n).0 false
value_read values pins i d n lt =
    let size = length-map pins net_number in
    get_or-map (λ net. get_or values net false) (map net_number pins) i 0 d (omega arith)
    ∙ ap (λ net. get_or values net false) (get_or-map net_number pins i n 0 lt)

pub pins_more : (lits : List Literal) (pins : List NetId) (found : List Literal) (i : ℕ) (l : Literal) → i < length pins → i < length found → l ≡ get_or lits (get_or pins i (record { 0 = 0 })).0 (record { 0 = 0 })
    → take i found ≡ take i (literals_at lits pins) → take (i + 1) (set found i l) ≡ take (i + 1) (literals_at lits pins)
pins_more lits pins found i l in_pins in_found is front =
    let count = pins_count lits pins in
    let inside : i < length (literals_at lits pins) = omega arith in
    take_more_set found i l in_found
    ∙ (ap₂ (λ (a : List Literal) (x : Literal). a ++ x ∷ []) front (is ∙ sym (pin_read lits pins i (record { 0 = 0 }) (record { 0 = 0 }) in_pins))
    ∙ sym (take_more (literals_at lits pins) i (record { 0 = 0 }) inside))

pub pins_below : (gates : List Node) (lits : List Literal) (pins : List NetId) → All (λ (net : NetId). net.0 < length lits) pins → All (IsBelow (length gates)) lits → All (IsBelow (length gates)) (literals_at lits pins)
pins_below gates lits pins known below i d lt =
    let count = pins_count lits pins in
    let low : i < length pins = omega arith in
    subst (IsBelow (length gates)) (sym (pin_read lits pins i d (record { 0 = 0 }) low)) (below (get_or pins i (record { 0 = 0 })).0 (record { 0 = 0 }) (known i (record { 0 = 0 }) low))

-- the pins have the values of their nets
pins_carry : (v : ℕ → Bool) (lits : List Literal) (values : List Bool) (pins : List NetId) → All (λ (net : NetId). net.0 < length lits) pins → Carry v lits values → values_of v (literals_at lits pins) ≡ values_at values pins
pins_carry v lits values pins known carry =
    let count = pins_count lits pins in
    let first = length-map (literals_at lits pins) (literal_value v) in
    let second = length-map (map net_number pins) (λ net. get_or values net false) in
    let third = length-map pins net_number in
    same_lists (values_of v (literals_at lits pins)) (values_at values pins) (omega arith) (λ k d lt.
    let low : k < length pins = omega arith in
    let net = (get_or pins k (record { 0 = 0 })).0 in
    get_or-map (literal_value v) (literals_at lits pins) k (record { 0 = 0 }) d (omega arith)
    ∙ (ap (literal_value v) (pin_read lits pins k (record { 0 = 0 }) (record { 0 = 0 }) low)
    ∙ (carry net (record { 0 = 0 }) (known k (record { 0 = 0 }) low)
    ∙ sym (value_read values pins k d (record { 0 = 0 }) low))))

-- the literal of a gate
pub gate_computes : (gates : List Node) (cells : List CellParts) (gate : Gate) (cell : CellParts) (lits : List Literal) (l : Literal) → slice_get cells gate.cell.0 ≡ Some cell → All (λ (net : NetId). net.0 < length lits) gate.pins
    → Makes gates (literals_at lits gate.pins) (cell_value cell) l → Computes gates lits (λ values. gate_value cells values gate) l
gate_computes gates cells gate cell lits l at known is = record {
  within = is.within;
  always = λ v values nodes carry.
      is.always v nodes
      ∙ (ap (cell_value cell) (pins_carry v lits values gate.pins known carry)
      ∙ ap (λ o. truth_in o (values_at values gate.pins)) (sym at));
}

-- Nets.

pub inputs_have_values : (gates : List Node) (cells : List CellParts) (n : Netlist) (inputs : List Literal) → length inputs ≡ n.inputs → All (IsBelow (length gates)) inputs → HaveNetlistValues gates (truth_of_cells cells) n inputs inputs
inputs_have_values gates cells n inputs one within = record {
  within = within;
  always = λ v x values nodes ins right k d lt. ins k d lt ∙ sym (get_or_from_slice_get values k (x k) false (right.inputs k (omega arith)));
}

-- one more gate
pub gate_has_value : (old new : List Node) (cells : List CellParts) (n : Netlist) (gates : List Gate) (inputs lits : List Literal) (j : ℕ) (gate : Gate) (l : Literal) → IsExtended old new → n.gates ≡ map plain_gate gates → length lits ≡ n.inputs + j
    → slice_get gates j ≡ Some gate → HaveNetlistValues old (truth_of_cells cells) n inputs lits → Computes new lits (λ values. gate_value cells values gate) l → HaveNetlistValues new (truth_of_cells cells) n inputs (lits ++ l ∷ [])
gate_has_value old new cells n gates inputs lits j gate l extended same size at have is = record {
  within = All-push (IsBelow (length new)) lits l (all_below old new lits extended have.within) is.within;
  always = λ v x values nodes ins right k d lt. by_place v values (have.always v x values (values_before old new v extended nodes) ins right) nodes (value_is x values right) k d lt (dec_lt k (length lits));
}
  where
    plain_at : slice_get n.gates j ≡ Some (plain_gate gate)
    plain_at = ap (λ gs. slice_get gs j) same ∙ (slice_get-map plain_gate gates j ∙ ap (option_map plain_gate) at)

    value_is : (x : ℕ → Bool) (values : List Bool) → AreNetlistValues (truth_of_cells cells) n x values → get_or values (length lits) false ≡ gate_value cells values gate
    value_is x values right = ap (λ k. get_or values k false) size ∙ get_or_from_slice_get values (n.inputs + j) (gate_value cells values gate) false (right.gates j (plain_gate gate) plain_at)

    by_place : (v : ℕ → Bool) (values : List Bool) → Carry v lits values → AreNodeValues new v → get_or values (length lits) false ≡ gate_value cells values gate → (k : ℕ) (d : Literal) → k < length (lits ++ l ∷ []) → Dec (k < length lits) → literal_value v (get_or (lits ++ l ∷ []) k d) ≡ get_or values k false
    by_place v values carry nodes value k d lt (yes low) = ap (literal_value v) (get_or_append_left lits (l ∷ []) d k low) ∙ carry k d low
    by_place v values carry nodes value k d lt (no high) =
        let more = length_push lits l in
        let here : length lits ≡ k = omega arith in
        ap (literal_value v) (get_or_push lits l d k here) ∙ (is.always v values nodes carry ∙ (sym value ∙ ap (λ m. get_or values m false) here))
