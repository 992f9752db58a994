-- The timing report of a netlist, and the values of its outputs, cannot fail to be there.
use Rattle.std.proofs.Common.{ℕ, zero, suc, ◌+◌, ◌-◌, ◌<◌, ◌≡◌, Bool, List, [], ◌∷◌, ◌++◌, length, map, Some, slice_get, refl, ap, ◌∙◌, subst, arith}
use Rattle.std.proofs.lemmas.List.{length-map}
use Rattle.std.proofs.lemmas.Option.{get_or_from_slice_get}
use native.Mathlib.Decide.{dec_lt}
use Rattle.lw_facts.proofs.Lists.{all_at, image_at}
use Rattle.lw_fixed.specs.declared.micro.Micro.{Micro}
use Rattle.lw_pool.specs.declared.id.NetId.{NetId}
use Rattle.lw_dag.specs.Ordering.{greatest}
use Rattle.lw_laws.specs.Covers.{latest}
use Rattle.lw_laws.specs.Networks.{given}
use Rattle.lw_laws.specs.Netlists.{AreArrivals}
use Rattle.lw_laws.proofs.Lists.{slice_get_some}
use Rattle.lw_laws.proofs.NetlistValues.{some_arrivals, some_netlist_values}
use Rattle.lw_genlib.specs.Cells.{CellParts, IsLibrary, IsListed}
use Rattle.lw_genlib.specs.Tables.{millionths, timing_of, truth_of_cells}
use Rattle.lw_genlib.proofs.Shared.{delays_at}
use Rattle.lw_netlist.specs.declared.gate.Gate.{Gate}
use Rattle.lw_netlist.specs.declared.gate.Port.{Port}
use Rattle.lw_netlist.specs.Netlists.{NetlistParts, IsNetlist}
use Rattle.lw_netlist.specs.Plain.{plain, HasCell, IsOver}
use Rattle.lw_report.specs.declared.step.Step.{Step}
use Rattle.lw_report.specs.Simulated.{AreLines, IsNetlistLine, port_net, value_line}
use Rattle.lw_report.specs.Simulated.AreLines.{no_lines, next_line}
use Rattle.lw_report.specs.Timings.{TimingParts, arrival_at, port_arrival, output_arrivals, area_of, pin_arrivals, gate_delays, arrival_by, IsCriticalPin, IsPathTo, IsFirstAt, IsCriticalPath, timing_text, IsTimingText}
use Rattle.lw_report.specs.Timings.IsPathTo.{to_input, to_constant, by_pin}
use Rattle.lw_report.specs.Timings.IsCriticalPath.{without_outputs, to_output}
use Rattle.lw_report.proofs.Once.{ordered}
use Rattle.lw_report.proofs.PathLemmas.{none_critical, gate_arrives, greatest_there, pin_count}
use Rattle.lw_exists.specs.Weakly.{Weakly}
use Rattle.lw_exists.proofs.Weak.{sure, and_then, weaker, weak_least}

module _ (cells : List CellParts) (n : NetlistParts) (starts : List Micro) (lib : IsLibrary cells) (netlist : IsNetlist n) (over : IsOver cells n) (arrivals : List ℕ) (are : AreArrivals (timing_of cells starts) (plain n) arrivals) where
  abbrev HasPath : ℕ → Type 0
  HasPath net = (steps : List Step) × IsPathTo cells n arrivals net steps

  module _ (j : ℕ) (gate : Gate) (at : slice_get n.gates j ≡ Some gate) where
    abbrev delays : List ℕ
    delays = gate_delays cells gate

    abbrev times : List ℕ
    times = pin_arrivals arrivals gate.pins

    abbrev arrival : ℕ
    arrival = arrival_at arrivals (n.inputs + j)

    one_delay : length times ≡ length delays
    one_delay =
        let has = all_at (HasCell cells) n.gates j gate over at in
        let listed = all_at IsListed cells gate.cell.0 has.cell lib.each has.at in
        let a = pin_count arrivals gate.pins in
        let b = has.pins in
        let c = listed.kept.delays in
        let d : length delays ≡ length has.cell.delays = ap length (delays_at cells gate.cell.0 has.cell has.at) ∙ length-map has.cell.delays millionths in
        omega arith

    arrives : arrival ≡ latest delays times
    arrives = get_or_from_slice_get arrivals (n.inputs + j) (latest delays times) 0 (gate_arrives cells n arrivals j gate (starts, are) at)

    abbrev Makes : ℕ → Type 0
    Makes k = (k < length times) × (arrival_by delays times k ≡ arrival)

    some_critical : 0 < length gate.pins → Weakly ((k : ℕ) × IsCriticalPin delays times arrival k)
    some_critical some = and_then there first
      where
        there : Weakly ((k : ℕ) × Makes k)
        there none =
            let empty = none_critical delays times arrival one_delay arrives (λ m lt e. none (m, (lt, e))) in
            let count = ap length empty in
            let pins = pin_count arrivals gate.pins in
            omega arith

        first : (k : ℕ) × Makes k → Weakly ((k : ℕ) × IsCriticalPin delays times arrival k)
        first (k, makes) =
            weaker (λ (m, (within, is), least). (m, record { within = within; makes = is; first = λ i lt same. let le = least i (omega arith, same) in omega arith })) (weak_least Makes k makes)

    gate_path : ((net : ℕ) → net < n.inputs + j → Weakly (HasPath net)) → Weakly (HasPath (n.inputs + j))
    gate_path below = by_pins gate.pins refl
      where
        through : (k : ℕ) × IsCriticalPin delays times arrival k → Weakly (HasPath (n.inputs + j))
        through (k, critical) =
            let (net, here) = slice_get_some gate.pins k (let a = critical.within in let b = pin_count arrivals gate.pins in omega arith) in
            let low = all_at (λ (x : NetId). x.0 < n.inputs + j) gate.pins k net (netlist.gates j gate at).before here in
            weaker (λ (steps, is). (steps ++ record { gate = j; pin = Some k } ∷ [], by_pin j k at here critical is)) (below net.0 low)

        by_pins : (pins : List NetId) → gate.pins ≡ pins → Weakly (HasPath (n.inputs + j))
        by_pins [] e = sure (_, to_constant j at e)
        by_pins (pin ∷ pins) e = and_then (some_critical (let count = ap length e in omega arith)) through

  path_below : (bound net : ℕ) → net < bound → net < n.inputs + length n.gates → Weakly (HasPath net)
  path_below zero net lt inside = absurd (omega arith)
  path_below (suc bound) net lt inside = by_side (path_below bound) (dec_lt net n.inputs)
    where
      by_side : ((other : ℕ) → other < bound → other < n.inputs + length n.gates → Weakly (HasPath other)) → Dec (net < n.inputs) → Weakly (HasPath net)
      by_side rest (yes low) = sure ([], to_input low)
      by_side rest (no high) =
          let (gate, at) = slice_get_some n.gates (net - n.inputs) (omega arith) in
          let same : n.inputs + (net - n.inputs) ≡ net = omega arith in
          subst (λ (k : ℕ). Weakly (HasPath k)) same (gate_path (net - n.inputs) gate at (λ other less. rest other (omega arith) (omega arith)))

  abbrev ends : List ℕ
  ends = output_arrivals n arrivals

  abbrev IsLast : ℕ → Type 0
  IsLast place = slice_get ends place ≡ Some (greatest ends)

  some_last : 0 < length n.outputs → Weakly ((place : ℕ) × IsFirstAt ends (greatest ends) place)
  some_last some = and_then there first
    where
      there : Weakly ((place : ℕ) × IsLast place)
      there none =
          let empty = greatest_there ends (λ j e. none (j, e)) in
          let count = ap length empty in
          let outputs = length-map n.outputs (port_arrival arrivals) in
          omega arith

      first : (place : ℕ) × IsLast place → Weakly ((place : ℕ) × IsFirstAt ends (greatest ends) place)
      first (place, last) =
          weaker (λ (m, is, least). (m, record { is = is; first = λ i lt same. let le = least i same in omega arith })) (weak_least IsLast place last)

  abbrev HasCriticalPath : Type 0
  HasCriticalPath = (steps : List Step) × IsCriticalPath cells n arrivals steps

  to_place : (place : ℕ) × IsFirstAt ends (greatest ends) place → Weakly HasCriticalPath
  to_place (place, is) =
      let i = image_at (port_arrival arrivals) n.outputs place (greatest ends) is.is in
      let inside = all_at (λ (port : Port). port.net.0 < length n.names) n.outputs place i.from netlist.outputs i.at in
      let named = netlist.named in
      weaker (λ (steps, path). (steps, to_output is i.at path)) (path_below (suc i.from.net.0) i.from.net.0 (omega arith) (omega arith))

  some_path : Weakly HasCriticalPath
  some_path = by_outputs n.outputs refl
    where
      by_outputs : (outputs : List Port) → n.outputs ≡ outputs → Weakly HasCriticalPath
      by_outputs [] e = sure ([], without_outputs e)
      by_outputs (port ∷ ports) e = and_then (some_last (let count = ap length e in omega arith)) to_place

  reported : HasCriticalPath → (text : List ℕ) × IsTimingText cells n starts text
  reported (path, is) =
      let t : TimingParts = record { arrivals = arrivals; latest = greatest ends; area = area_of cells n.gates; path = path } in
      (timing_text cells n t, record { timing = t; is = record { arrivals = are; latest = refl; area = refl; path = is }; says = refl })

pub some_timing_text : (cells : List CellParts) (n : NetlistParts) (starts : List Micro) → IsLibrary cells → IsNetlist n → IsOver cells n → Weakly ((text : List ℕ) × IsTimingText cells n starts text)
some_timing_text cells n starts lib netlist over =
    let (arrivals, are) = some_arrivals (plain n) (ordered n netlist) (timing_of cells starts) in
    weaker (reported cells n starts lib netlist over arrivals are) (some_path cells n starts lib netlist over arrivals are)

pub some_netlist_lines : (cells : List CellParts) (n : NetlistParts) → IsNetlist n → (vectors : List (List Bool)) → (text : List ℕ) × AreLines (IsNetlistLine cells n) vectors text
some_netlist_lines cells n netlist [] = ([], no_lines)
some_netlist_lines cells n netlist (vector ∷ vectors) =
    let (text, are) = some_netlist_lines cells n netlist vectors in
    let (values, is) = some_netlist_values (plain n) (ordered n netlist) (truth_of_cells cells) (given vector) in
    (value_line values (map port_net n.outputs) ++ text, next_line {line = value_line values (map port_net n.outputs)} (record { values = values; are = is; says = refl }) are)
