-- Covers over the graph of a network's forms, and mappings in time.
use Rattle.std.proofs.Common.{ℕ, ◌≤◌, ◌≡◌, List, [], ◌∷◌, ◌++◌, length, map, take, slice_index_or, refl, ap, ap₂, sym, ◌∙◌, arith}
use Rattle.std.specs.List.{AllZip}
use Rattle.std.proofs.lemmas.List.{take_at}
use Rattle.lw_pool.specs.Numbers.{numbers}
use Rattle.lw_laws.specs.Modes.{Mode}
use Rattle.lw_laws.specs.Networks.{Network}
use Rattle.lw_laws.specs.Covers.{Pattern, Timing}
use Rattle.lw_laws.specs.Headline.{HasLeastArrival, IsMapping, Port as PlainPort, Ports}
use Rattle.lw_laws.specs.InTime.{AreLeastTimes, ArriveBy}
use Rattle.lw_laws.specs.MappedNetlists.{IsMatchNetlistOf, root_classes}
use Rattle.lw_laws.specs.Names.{free_names, gate_names, net_names}
use Rattle.lw_laws.specs.Netlists.{CellTruth, Netlist}
use Rattle.lw_laws.specs.Signals.{signals_of, sop_at}
use Rattle.lw_laws.proofs.NetlistOnce.{least_time_once}
use Rattle.lw_netlist.specs.Plain.{plain, mapped_ports}
use Rattle.lw_extract.specs.declared.ports.Cover.{Cover}
use Rattle.lw_extract.proofs.PortLists.{port_name, zip_outputs}
use Rattle.lw_look.specs.declared.look.Look.{Look}
use Rattle.lw_look.specs.Lists.{pin_counts}
use Rattle.lw_look.specs.Looks.{IsMatchCover, IsOfNetwork}

-- with the graph of the look and the classes of the cover
pub cover_with_classes : (mode : Mode) (width : ℕ) (net : Network) (ports : Ports) (l : Look) (cover : Cover) → IsOfNetwork mode width net ports l → IsMatchCover l cover → (is : IsMatchNetlistOf mode width net ports l.pats.now (pin_counts l) (plain cover.netlist) cover.netlist.names (mapped_ports cover.netlist)) × (is.graph ≡ l.graph.now) × (is.gates ≡ numbers cover.classes)
cover_with_classes mode width net ports l cover of is =
    let g = l.graph.now in
    let gates = numbers cover.classes in
    let names : cover.netlist.names ≡ net_names ports.inputs (map port_name ports.outputs) (root_classes width net g ports.outputs) gates =
    is.names ∙ (ap₂ (λ (xs ys : List (List ℕ)). net_names xs ys (numbers l.ports.now.roots) gates) of.inputs of.outputs ∙ ap (λ (cs : List ℕ). net_names ports.inputs (map port_name ports.outputs) cs gates) of.roots) in
    let count : cover.netlist.inputs ≡ length ports.inputs = is.matches.inputs ∙ (of.graph.written.leaf_count ∙ sym of.one_name) in (
      record {
        graph = g;
        is_graph = of.graph;
        gates = gates;
        matches = is.matches;
        input_names = ap (λ (xs : List (List ℕ)). take cover.netlist.inputs xs) names ∙ take_at ports.inputs (gate_names (map port_name ports.outputs) (root_classes width net g ports.outputs) (free_names (ports.inputs ++ map port_name ports.outputs) (length gates)) gates) cover.netlist.inputs (sym count);
        outputs = zip_outputs width net g gates ports.outputs l.ports.now.roots cover.netlist.outputs of.roots (is.output_names ∙ of.outputs) is.outputs;
        names_are = names;
      },
      refl,
      refl,
    )

pub cover_is_matches : (mode : Mode) (width : ℕ) (net : Network) (ports : Ports) (l : Look) (cover : Cover) → IsOfNetwork mode width net ports l → IsMatchCover l cover → IsMatchNetlistOf mode width net ports l.pats.now (pin_counts l) (plain cover.netlist) cover.netlist.names (mapped_ports cover.netlist)
cover_is_matches mode width net ports l cover of is = (cover_with_classes mode width net ports l cover of is).0

pub mapping_by : (mode : Mode) (width : ℕ) (net : Network) (ports : Ports) (pats : List Pattern) (timing : Timing) (truth : CellTruth) (n : Netlist) (mapped : Ports) (least times : List ℕ) → IsMapping mode width net ports pats timing truth n mapped → AreLeastTimes mode width net pats timing ports least → AllZip (λ (l t : ℕ). l ≤ t) least times → ArriveBy timing n mapped times
mapping_by mode width net ports pats timing truth n mapped least times is are late ds arrive = beside ports.outputs mapped.outputs least times (is.arrivals ds arrive) are late
  where
    beside : (ps qs : List PlainPort) (ls ts : List ℕ) → AllZip (λ p q. HasLeastArrival mode width net pats timing p.net (slice_index_or ds q.net 0)) ps qs → AllZip (λ p d. HasLeastArrival mode width net pats timing p.net d) ps ls → AllZip (λ (l t : ℕ). l ≤ t) ls ts → AllZip (λ q t. slice_index_or ds q.net 0 ≤ t) qs ts
    beside [] [] [] [] a b c = tt
    beside [] [] [] (t ∷ ts) a b c = absurd c
    beside [] [] (l ∷ ls) ts a b c = absurd b
    beside [] (q ∷ qs) ls ts a b c = absurd a
    beside (p ∷ ps) [] ls ts a b c = absurd a
    beside (p ∷ ps) (q ∷ qs) [] ts a b c = absurd b
    beside (p ∷ ps) (q ∷ qs) (l ∷ ls) [] a b c = absurd c
    beside (p ∷ ps) (q ∷ qs) (l ∷ ls) (t ∷ ts) (x, a) (y, b) (le, c) =
        let same = least_time_once mode width (signals_of width net) pats timing (sop_at (signals_of width net) p.net) (slice_index_or ds q.net 0) l x y in
        (omega (arith, same, le), beside ps qs ls ts a b c)
