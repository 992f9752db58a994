-- The greatest of pins' arrivals and delays, and when gates' nets arrive.
use Rattle.std.proofs.Common.{◌≡◌, ◌≢◌, ℕ, suc, ◌+◌, ◌*◌, ◌<◌, ◌≤◌, ◌^◌, ◌⊎◌, inl, inr, max, List, [], ◌∷◌, length, map, take, get_or, set, slice_get, All, Some, refl, sym, ap, ap₂, subst, ◌∙◌, arith, get_or-set_same, get_or-set_other}
use Rattle.std.proofs.lemmas.List.{get_or-map, get_or-take, length-map, map-set, get_or_default}
use Rattle.std.proofs.lemmas.List.Elements.{All-head, All-tail, All-get_or}
use Rattle.std.proofs.lemmas.Bool.{cases_eq}
use Rattle.lw_facts.proofs.Lists.{image_at}
use Rattle.lw_laws.specs.Covers.{latest, delays_of}
use Rattle.lw_genlib.specs.Cells.{CellParts, IsSmall}
use Rattle.lw_netlist.specs.declared.gate.Gate.{Gate}
use Rattle.std.proofs.lemmas.Option.{slice_get_within, slice_get-get_or}
use Rattle.lw_laws.specs.Netlists as laws
use Rattle.lw_laws.specs.Netlists.{AreArrivals}
use Rattle.lw_netlist.specs.Netlists.{NetlistParts}
use Rattle.lw_netlist.proofs.Filling.{IsLocal}
use Rattle.lw_pool.specs.declared.id.NetId.{NetId}
use Rattle.lw_fixed.specs.declared.micro.Micro.{Micro}
use Rattle.lw_genlib.specs.Tables.{millionths, delays_of_cells, timing_of}
use Rattle.lw_netlist.specs.Plain.{plain, plain_gate}
use Rattle.lw_netlist.specs.Filling.{arrivals_at, arrival_at, gate_arrival, one_step}
use Rattle.lw_pool.specs.Numbers.{net_number}
use Rattle.lw_laws.proofs.Shared.{latest_suc}

pub latest_more : (k : ℕ) (ds ts : List ℕ) → k < length ds → k < length ts → latest (take (k + 1) ds) ts ≡ max (latest (take k ds) ts) (get_or ts k 0 + get_or ds k 0)
latest_more k ds ts in_ds in_ts = let next : k + 1 ≡ suc k = omega arith in ap (λ n. latest (take n ds) ts) next ∙ latest_suc k ds ts in_ds in_ts

-- an arrival among those of some nets
pub arrivals_read : (arrivals : List Micro) (pins : List NetId) (k : ℕ) → k < length pins → (get_or pins k (record { 0 = 0 })).0 < length arrivals → get_or (arrivals_at arrivals pins) k 0 ≡ arrival_at arrivals (get_or pins k (record { 0 = 0 })).0
arrivals_read arrivals pins k in_pins in_nets =
    let numbers = map net_number pins in
    let one : length numbers ≡ length pins = length-map pins net_number in
    let in_numbers : k < length numbers = omega arith in
    get_or-map (λ net. get_or (map millionths arrivals) net 0) numbers k 0 0 in_numbers
    ∙ (ap (λ net. get_or (map millionths arrivals) net 0) (get_or-map net_number pins k (record { 0 = 0 }) 0 in_pins)
    ∙ get_or-map millionths arrivals (get_or pins k (record { 0 = 0 })).0 (record { 0 = 0 }) 0 in_nets)

-- one more pin, of the code's numbers
pub latest_step : (delays arrivals : List Micro) (pins : List NetId) (k latest_so_far next : ℕ) → k < length delays → k < length pins → (get_or pins k (record { 0 = 0 })).0 < length arrivals → latest_so_far ≡ latest (take k (map millionths delays)) (arrivals_at arrivals pins) → next ≡ max latest_so_far (arrival_at arrivals (get_or pins k (record { 0 = 0 })).0 + (get_or delays k (record { 0 = 0 })).0) → next ≡ latest (take (k + 1) (map millionths delays)) (arrivals_at arrivals pins)
latest_step delays arrivals pins k so_far next in_delays in_pins in_nets before is =
    let numbers = map net_number pins in
    let one : length numbers ≡ length pins = length-map pins net_number in
    let all : length (arrivals_at arrivals pins) ≡ length numbers = length-map numbers (λ net. get_or (map millionths arrivals) net 0) in
    let in_ts : k < length (arrivals_at arrivals pins) = omega arith in
    let size : length (map millionths delays) ≡ length delays = length-map delays millionths in
    let in_ds : k < length (map millionths delays) = omega arith in
    is ∙ (ap₂ max before (sym (ap₂ (λ (a b : ℕ). a + b) (arrivals_read arrivals pins k in_pins in_nets) (get_or-map millionths delays k (record { 0 = 0 }) 0 in_delays))) ∙ sym (latest_more k (map millionths delays) (arrivals_at arrivals pins) in_ds in_ts))

-- no pin makes a cell later than its own arrival and the greatest delay
pub latest_within : (ds ts : List ℕ) (most step : ℕ) → ((k : ℕ) → k < length ds → get_or ds k 0 ≤ step) → ((k : ℕ) → k < length ts → get_or ts k 0 ≤ most) → latest ds ts ≤ most + step
latest_within [] ts most step in_ds in_ts = omega arith
latest_within (d ∷ ds) [] most step in_ds in_ts = omega arith
latest_within (d ∷ ds) (t ∷ ts) most step in_ds in_ts =
    let here : d ≤ step = in_ds 0 (omega arith) in
    let there : t ≤ most = in_ts 0 (omega arith) in
    let rest = latest_within ds ts most step (λ k below. in_ds (suc k) (omega arith)) (λ k below. in_ts (suc k) (omega arith)) in
    omega (arith, here, there, rest)

-- a gate's net arrives a million units at most behind the nets before it
pub arrival_within : (delays arrivals : List Micro) (pins : List NetId) (at most : ℕ) → All IsSmall delays → All (λ (net : NetId). net.0 < at) pins → at ≤ length arrivals → ((i : ℕ) → i < at → arrival_at arrivals i ≤ most) → latest (map millionths delays) (arrivals_at arrivals pins) ≤ most + one_step
arrival_within delays arrivals pins at most small before inside early = latest_within (map millionths delays) (arrivals_at arrivals pins) most one_step delay_at pin_at
  where
    delay_at : (k : ℕ) → k < length (map millionths delays) → get_or (map millionths delays) k 0 ≤ one_step
    delay_at k below =
        let size : length (map millionths delays) ≡ length delays = length-map delays millionths in
        let in_delays : k < length delays = omega arith in
        let least : (get_or delays k (record { 0 = 0 })).0 < 1000000 * 1000000 = All-get_or IsSmall delays k (record { 0 = 0 }) in_delays small in
        subst (λ d. d ≤ one_step) (sym (get_or-map millionths delays k (record { 0 = 0 }) 0 in_delays)) (omega (arith, least))

    pin_at : (k : ℕ) → k < length (arrivals_at arrivals pins) → get_or (arrivals_at arrivals pins) k 0 ≤ most
    pin_at k below =
        let one : length (map net_number pins) ≡ length pins = length-map pins net_number in
        let all : length (arrivals_at arrivals pins) ≡ length (map net_number pins) = length-map (map net_number pins) (λ net. get_or (map millionths arrivals) net 0) in
        let in_pins : k < length pins = omega arith in
        let lower : (get_or pins k (record { 0 = 0 })).0 < at = All-get_or (λ (net : NetId). net.0 < at) pins k (record { 0 = 0 }) in_pins before in
        let in_nets : (get_or pins k (record { 0 = 0 })).0 < length arrivals = omega (arith, lower, inside) in
        subst (λ t. t ≤ most) (sym (arrivals_read arrivals pins k in_pins in_nets)) (early (get_or pins k (record { 0 = 0 })).0 lower)

-- arrivals of nets before a place don't see a write there
pub arrivals_at-set : (arrivals : List Micro) (at : ℕ) (v : Micro) (nets : List NetId) → All (λ (net : NetId). net.0 < at) nets → arrivals_at (set arrivals at v) nets ≡ arrivals_at arrivals nets
arrivals_at-set arrivals at v [] all = refl
arrivals_at-set arrivals at v (net ∷ nets) all =
    let before : net.0 < at = All-head (λ (n : NetId). n.0 < at) net nets all in
    let other : net.0 ≢ at = omega arith in
    ap₂ (λ b bs. b ∷ bs) (ap (λ xs. get_or xs net.0 0) (map-set millionths arrivals at v) ∙ get_or-set_other (map millionths arrivals) at net.0 (millionths v) 0 other) (arrivals_at-set arrivals at v nets (All-tail (λ (n : NetId). n.0 < at) net nets all))

-- when a gate's net arrives, as a number of millionths
abbrev pub gate_time : List CellParts → List Micro → Gate → Micro
gate_time cells arrivals gate = record { 0 = gate_arrival cells arrivals gate }

pub times_are_local : (cells : List CellParts) → IsLocal (gate_time cells)
times_are_local cells = record { kept = λ arrivals at v gate all. ap (λ ts. record { 0 = latest (delays_of (delays_of_cells cells) gate.cell.0) ts }) (arrivals_at-set arrivals at v gate.pins all) }

-- one more net arrives a million units at most behind the nets before it
pub early_more : (arrivals : List Micro) (at most : ℕ) (v : Micro) → at < length arrivals → v.0 ≤ most + one_step → ((i : ℕ) → i < at → arrival_at arrivals i ≤ most) → (i : ℕ) → i < at + 1 → arrival_at (set arrivals at v) i ≤ most + one_step
early_more arrivals at most v inside within early i below = at_net (cases_eq i at)
  where
    at_net : (i ≡ at) ⊎ (i ≡ at → ⊥) → arrival_at (set arrivals at v) i ≤ most + one_step
    at_net (inl same) =
        let read = ap (λ n. arrival_at (set arrivals at v) n) same ∙ ap (λ (m : Micro). m.0) (get_or-set_same arrivals at v (record { 0 = 0 }) inside) in
        subst (λ t. t ≤ most + one_step) (sym read) within
    at_net (inr differs) =
        let lower : i < at = omega arith in
        let kept = early i lower in
        let read = ap (λ (m : Micro). m.0) (get_or-set_other arrivals at i v (record { 0 = 0 }) differs) in
        subst (λ t. t ≤ most + one_step) (sym read) (omega (arith, kept))

-- the starts at the front are the inputs' arrivals
pub starts_read : (starts arrivals : List Micro) → take (length starts) arrivals ≡ starts → (i : ℕ) → i < length starts → arrival_at arrivals i ≡ arrival_at starts i
starts_read starts arrivals front i below =
    sym (ap (λ (m : Micro). m.0) (get_or-take (length starts) arrivals i (record { 0 = 0 }) below)) ∙ ap (λ ms. arrival_at ms i) front

-- a start is at most a million units
pub start_low : (starts : List Micro) → All IsSmall starts → (i : ℕ) → i < length starts → arrival_at starts i ≤ one_step
start_low starts small i below =
    let less : (get_or starts i (record { 0 = 0 })).0 < 1000000 * 1000000 = All-get_or IsSmall starts i (record { 0 = 0 }) below small in
    omega (arith, less)

-- inputs at their starts, and gates that are filled in
pub filled_arrivals : (cells : List CellParts) (starts : List Micro) (n : NetlistParts) (arrivals : List Micro) → length starts ≡ n.inputs → length arrivals ≡ n.inputs + length n.gates → ((i : ℕ) → i < n.inputs → arrival_at arrivals i ≡ arrival_at starts i) → ((j : ℕ) (gate : Gate) → slice_get n.gates j ≡ Some gate → arrival_at arrivals (n.inputs + j) ≡ gate_arrival cells arrivals gate) → AreArrivals (timing_of cells starts) (plain n) (map millionths arrivals)
filled_arrivals cells starts n arrivals one_start one_each inputs gates = record {
  one_each = length-map arrivals millionths ∙ (one_each ∙ ap (λ k. n.inputs + k) (sym (length-map n.gates plain_gate)));
  inputs = λ i below.
      let inside : i < length arrivals = omega (arith, below, one_each) in
      let started : i < length starts = omega (arith, below, one_start) in
      read i inside ∙ ap (λ t. Some t) (inputs i below ∙ sym (get_or-map millionths starts i (record { 0 = 0 }) 0 started));
  gates = λ j gate at.
      let i = image_at plain_gate n.gates j gate at in
      let below = slice_get_within n.gates j i.from i.at in
      let inside : n.inputs + j < length arrivals = omega (arith, below, one_each) in
      read (n.inputs + j) inside ∙ ap (λ t. Some t) (gates j i.from i.at ∙ ap (λ (g : laws.Gate). latest (delays_of (delays_of_cells cells) g.cell) (map (λ p. get_or (map millionths arrivals) p 0) g.pins)) i.is);
}
  where
    read : (i : ℕ) → i < length arrivals → slice_get (map millionths arrivals) i ≡ Some (arrival_at arrivals i)
    read i inside =
        let size : length (map millionths arrivals) ≡ length arrivals = length-map arrivals millionths in
        let within : i < length (map millionths arrivals) = omega arith in
        slice_get-get_or (map millionths arrivals) i 0 within ∙ ap (λ t. Some t) (get_or-map millionths arrivals i (record { 0 = 0 }) 0 inside)

-- arrivals behind so many gates are low
pub all_low : (arrivals : List Micro) (gates : ℕ) → gates ≤ 8000000 → ((i : ℕ) → i < length arrivals → arrival_at arrivals i ≤ (gates + 1) * one_step) → All (λ (m : Micro). m.0 < 2 ^ 63) arrivals
all_low arrivals gates few low = λ i d below. by_default i d below (low i below)
  where
    by_default : (i : ℕ) (d : Micro) → i < length arrivals → arrival_at arrivals i ≤ (gates + 1) * one_step → (get_or arrivals i d).0 < 2 ^ 63
    by_default i d below le = let same = get_or_default arrivals i d (record { 0 = 0 }) below in subst (λ (m : Micro). m.0 < 2 ^ 63) (sym same) (omega (arith, le))
