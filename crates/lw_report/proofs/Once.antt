-- A netlist has one timing report, and a network or a netlist one simulation of the same vectors.
use Rattle.std.proofs.Common.{ℕ, ◌+◌, ◌<◌, ◌≡◌, Bool, List, [], ◌∷◌, ◌++◌, map, Some, None, slice_get, refl, ap, ap₂, sym, ◌∙◌, subst, arith}
use Rattle.std.specs.List.{AllByRecursion}
use Rattle.std.proofs.lemmas.List.Elements.{All-map, recursion_from_All}
use Rattle.std.proofs.lemmas.Option.{none-some}
use native.Mathlib.Decide.{dec_lt}
use Rattle.lw_facts.proofs.Lists.{IsImage, image_at}
use Rattle.lw_fixed.specs.declared.micro.Micro.{Micro}
use Rattle.lw_pool.specs.declared.id.NetId.{NetId}
use Rattle.lw_laws.specs.Netlists as laws
use Rattle.lw_laws.specs.Netlists.{AreOrdered}
use Rattle.lw_laws.specs.Networks.{given}
use Rattle.lw_laws.proofs.NetValues.{values_once}
use Rattle.lw_laws.proofs.NetlistValues.{netlist_values_once, arrivals_once}
use Rattle.lw_net.specs.Networks.{NetworkParts, IsNetwork}
use Rattle.lw_net.specs.Plain as network
use Rattle.lw_net.proofs.Rise.{in_order}
use Rattle.lw_genlib.specs.Cells.{CellParts}
use Rattle.lw_genlib.specs.Tables.{timing_of, truth_of_cells}
use Rattle.lw_netlist.specs.declared.gate.Gate.{Gate}
use Rattle.lw_netlist.specs.declared.gate.Port.{Port}
use Rattle.lw_dag.specs.Ordering.{greatest}
use Rattle.lw_netlist.specs.Netlists.{NetlistParts, IsNetlist}
use Rattle.lw_netlist.specs.Plain.{plain, plain_gate}
use Rattle.lw_report.specs.declared.step.Step.{Step}
use Rattle.lw_report.specs.Simulated.{port_net, value_line, IsNetworkLine, IsNetlistLine, AreLines, IsNetworkSimulation, IsNetlistSimulation}
use Rattle.lw_report.specs.Simulated.AreLines.{no_lines, next_line}
use Rattle.lw_report.specs.Timings.{arrival_at, output_arrivals, arrival_by, pin_arrivals, gate_delays, IsCriticalPin, IsPathTo, IsFirstAt, IsCriticalPath, TimingParts, IsTimingOf, timing_text, IsTimingText}
use Rattle.lw_report.specs.Timings.IsPathTo.{to_input, to_constant, by_pin}
use Rattle.lw_report.specs.Timings.IsCriticalPath.{without_outputs, to_output}
use Rattle.lw_pool.specs.Numbers.{net_number}

-- a netlist's pins are nets before their gate's own
pub ordered : (n : NetlistParts) → IsNetlist n → AreOrdered (plain n)
ordered n kept j g at = at_image (image_at plain_gate n.gates j g at)
  where
    at_image : IsImage plain_gate n.gates j g → AllByRecursion (λ p. p < n.inputs + j) g.pins
    at_image i =
        let before = All-map (λ p. p < n.inputs + j) net_number i.from.pins (kept.gates j i.from i.at).before in
        subst (λ (h : laws.Gate). AllByRecursion (λ p. p < n.inputs + j) h.pins) i.is (recursion_from_All (λ p. p < n.inputs + j) (map net_number i.from.pins) before)

-- what is first of its kind is one place
first_once : (P : ℕ → Type 0) (k m : ℕ) → P k → P m → ((j : ℕ) → j < k → P j → ⊥) → ((j : ℕ) → j < m → P j → ⊥) → k ≡ m
first_once P k m p q no_earlier none_before = by_place (dec_lt k m) (dec_lt m k)
  where
    by_place : Dec (k < m) → Dec (m < k) → k ≡ m
    by_place (yes less) d = absurd (none_before k less p)
    by_place (no more) (yes less) = absurd (no_earlier m less q)
    by_place (no more) (no not) = omega arith

-- what stands at a place of a list is one thing
entry_once : {A : Type 0} (xs ys : List A) (j i : ℕ) (x y : A) → xs ≡ ys → j ≡ i → slice_get xs j ≡ Some x → slice_get ys i ≡ Some y → x ≡ y
entry_once xs ys j i x y lists places at also = cc

no_entry : {A : Type 0} (xs : List A) (j : ℕ) (x : A) → xs ≡ [] → slice_get xs j ≡ Some x → ⊥
no_entry {A = A} xs j x empty at = none-some x (sym (ap (λ (ys : List A). slice_get ys j) empty) ∙ at)

-- The critical path.

abbrev constant_step : ℕ → Step
constant_step j = record { gate = j; pin = None }

abbrev pin_step : ℕ → ℕ → Step
pin_step j k = record { gate = j; pin = Some k }

first_at_once : (times : List ℕ) (time p q : ℕ) → IsFirstAt times time p → IsFirstAt times time q → p ≡ q
first_at_once times time p q a b = first_once (λ j. slice_get times j ≡ Some time) p q a.is b.is a.first b.first

critical_pin_once : (delays times : List ℕ) (arrival k m : ℕ) → IsCriticalPin delays times arrival k → IsCriticalPin delays times arrival m → k ≡ m
critical_pin_once delays times arrival k m a b = first_once (λ j. arrival_by delays times j ≡ arrival) k m a.makes b.makes a.first b.first

module _ (cells : List CellParts) (n : NetlistParts) (arrivals : List ℕ) where
  -- the pin is the critical one of gate j
  abbrev IsPinOf : ℕ → Gate → ℕ → Type 0
  IsPinOf j gate k = IsCriticalPin (gate_delays cells gate) (pin_arrivals arrivals gate.pins) (arrival_at arrivals (n.inputs + j)) k

  pin_once : (j i : ℕ) (gate other : Gate) (k m : ℕ) → j ≡ i → gate ≡ other → IsPinOf j gate k → IsPinOf i other m → k ≡ m
  pin_once j i gate other k m place same a b =
      critical_pin_once (gate_delays cells other) (pin_arrivals arrivals other.pins) (arrival_at arrivals (n.inputs + i)) k m
      (subst (λ (h : ℕ). IsPinOf h other k) place (subst (λ (g : Gate). IsPinOf j g k) same a)) b

  -- the path to a net is one
  pub path_once : {net : ℕ} {steps : List Step} → IsPathTo cells n arrivals net steps → {last : ℕ} {others : List Step} → IsPathTo cells n arrivals last others → net ≡ last → steps ≡ others
  path_once (to_input below) (to_input also) e = refl
  path_once (to_input below) (to_constant i bt none) e = absurd (omega arith)
  path_once (to_input below) (by_pin i m bt there least way) e = absurd (omega arith)
  path_once (to_constant j at empty) (to_input below) e = absurd (omega arith)
  path_once (to_constant j at empty) (to_constant i bt none) e = let place : j ≡ i = omega arith in ap (λ (k : ℕ). constant_step k ∷ []) place
  path_once (to_constant j {gate = gate} at empty) (by_pin i m {gate = other} {net = to} bt there least way) e =
      let place : j ≡ i = omega arith in
      let same = entry_once n.gates n.gates j i gate other refl place at bt in
      absurd (no_entry other.pins m to (subst (λ (g : Gate). g.pins ≡ []) same empty) there)
  path_once (by_pin j k at pin critical path) (to_input below) e = absurd (omega arith)
  path_once (by_pin j k {gate = gate} {net = from} at pin critical path) (to_constant i {gate = other} bt none) e =
      let place : j ≡ i = omega arith in
      let same = entry_once n.gates n.gates j i gate other refl place at bt in
      absurd (no_entry gate.pins k from (subst (λ (g : Gate). g.pins ≡ []) (sym same) none) pin)
  path_once (by_pin j k {gate = gate} {net = from} at pin critical path) (by_pin i m {gate = other} {net = to} bt there least way) e =
      let place : j ≡ i = omega arith in
      let same = entry_once n.gates n.gates j i gate other refl place at bt in
      let pins = pin_once j i gate other k m place same critical least in
      let nets = entry_once gate.pins other.pins k m from to (ap (λ (g : Gate). g.pins) same) pins pin there in
      let fronts = path_once path way (ap (λ (x : NetId). x.0) nets) in
      ap₂ (λ (front : List Step) (step : Step). front ++ step ∷ []) fronts (ap₂ pin_step place pins)

  -- the critical path is one
  pub critical_path_once : {steps others : List Step} → IsCriticalPath cells n arrivals steps → IsCriticalPath cells n arrivals others → steps ≡ others
  critical_path_once (without_outputs none) (without_outputs empty) = refl
  critical_path_once (without_outputs none) (to_output {place = q} {port = port} first at path) = absurd (no_entry n.outputs q port none at)
  critical_path_once (to_output {place = p} {port = port} first at path) (without_outputs none) = absurd (no_entry n.outputs p port none at)
  critical_path_once (to_output {place = p} {port = port} first at path) (to_output {place = q} {port = other} earliest bt way) =
      let place = first_at_once (output_arrivals n arrivals) (greatest (output_arrivals n arrivals)) p q first earliest in
      let same = entry_once n.outputs n.outputs p q port other refl place at bt in
      path_once path way (ap (λ (x : Port). x.net.0) same)

-- The report.

abbrev parts : List ℕ → ℕ → ℕ → List Step → TimingParts
parts arrivals latest area path = record { arrivals = arrivals; latest = latest; area = area; path = path }

-- the timing is one
pub timing_once : (cells : List CellParts) (n : NetlistParts) (starts : List Micro) (t u : TimingParts) → IsNetlist n → IsTimingOf cells n starts t → IsTimingOf cells n starts u → t ≡ u
timing_once cells n starts t u kept a b =
    let times = arrivals_once (plain n) (ordered n kept) (timing_of cells starts) t.arrivals u.arrivals a.arrivals b.arrivals in
    let latest : t.latest ≡ u.latest = a.latest ∙ (ap (λ (ds : List ℕ). greatest (output_arrivals n ds)) times ∙ sym b.latest) in
    let area : t.area ≡ u.area = a.area ∙ sym b.area in
    let path = critical_path_once cells n u.arrivals (subst (λ (ds : List ℕ). IsCriticalPath cells n ds t.path) times a.path) b.path in
    ap₂ (λ (ds : List ℕ) (l : ℕ). parts ds l t.area t.path) times latest ∙ ap₂ (λ (s : ℕ) (p : List Step). parts u.arrivals u.latest s p) area path

-- the report is one
pub report_once : (cells : List CellParts) (n : NetlistParts) (starts : List Micro) (text other : List ℕ) → IsNetlist n → IsTimingText cells n starts text → IsTimingText cells n starts other → text ≡ other
report_once cells n starts text other kept a b =
    a.says ∙ (ap (timing_text cells n) (timing_once cells n starts a.timing b.timing kept a.is b.is) ∙ sym b.says)

-- Simulations.

-- where each vector has one line
lines_once : (IsLine : List Bool → List ℕ → Type 0) → ((vector : List Bool) (line other : List ℕ) → IsLine vector line → IsLine vector other → line ≡ other) → {vectors : List (List Bool)} {text other : List ℕ} → AreLines IsLine vectors text → AreLines IsLine vectors other → text ≡ other
lines_once IsLine one no_lines no_lines = refl
lines_once IsLine one (next_line {vector = vector} {line = line} is rest) (next_line {line = other} also others) =
    ap₂ (λ (a b : List ℕ). a ++ b) (one vector line other is also) (lines_once IsLine one rest others)

network_line_once : (n : NetworkParts) → IsNetwork n → (vector : List Bool) (line other : List ℕ) → IsNetworkLine n vector line → IsNetworkLine n vector other → line ≡ other
network_line_once n kept vector line other a b =
    let same = values_once (network.plain n) (in_order n kept) (given vector) a.values b.values a.are b.are in
    a.says ∙ (ap (λ (vs : List Bool). value_line vs n.outputs) same ∙ sym b.says)

netlist_line_once : (cells : List CellParts) (n : NetlistParts) → IsNetlist n → (vector : List Bool) (line other : List ℕ) → IsNetlistLine cells n vector line → IsNetlistLine cells n vector other → line ≡ other
netlist_line_once cells n kept vector line other a b =
    let same = netlist_values_once (plain n) (ordered n kept) (truth_of_cells cells) (given vector) a.values b.values a.are b.are in
    a.says ∙ (ap (λ (vs : List Bool). value_line vs (map port_net n.outputs)) same ∙ sym b.says)

-- the simulation of a network is one
pub network_simulation_once : (n : NetworkParts) (vectors : List (List Bool)) (text other : List ℕ) → IsNetwork n → IsNetworkSimulation n vectors text → IsNetworkSimulation n vectors other → text ≡ other
network_simulation_once n vectors text other kept a b = lines_once (IsNetworkLine n) (network_line_once n kept) a b

-- the simulation of a netlist is one
pub netlist_simulation_once : (cells : List CellParts) (n : NetlistParts) (vectors : List (List Bool)) (text other : List ℕ) → IsNetlist n → IsNetlistSimulation cells n vectors text → IsNetlistSimulation cells n vectors other → text ≡ other
netlist_simulation_once cells n vectors text other kept a b = lines_once (IsNetlistLine cells n) (netlist_line_once cells n kept) a b
