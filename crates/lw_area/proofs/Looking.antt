-- What the look gives for the settings of a case.
use Rattle.std.proofs.Common.{◌≡◌, ◌≢◌, ◌<◌, ◌∙◌, ℕ, Bool, true, false, All, List, map, None, Some, slice_index_or, ap, sym, subst, arith}
use Rattle.std.proofs.lemmas.List.{length-take-le}
use Rattle.lw_fixed.specs.declared.micro.Micro.{Micro}
use Rattle.lw_pool.specs.Numbers.{numbers}
use Rattle.lw_laws.specs.Classes.{IsGraphOf}
use Rattle.lw_laws.specs.Headline.{Port as PlainPort}
use Rattle.lw_laws.specs.MappedNetlists.{form_classes}
use Rattle.lw_laws.specs.Netlists.{AreArrivals}
use Rattle.lw_laws.specs.Rounds.{labels_in}
use Rattle.lw_laws.proofs.NetlistValues.{some_arrivals}
use Rattle.lw_net.specs.Networks.{NetworkParts, IsNetwork}
use Rattle.lw_net.specs.Plain as network
use Rattle.lw_net.specs.Ports.{ports_of}
use Rattle.lw_genlib.specs.Cells.{IsLibrary, IsSmall}
use Rattle.lw_genlib.specs.Tables.{millionths, timing_of}
use Rattle.lw_pattern.specs.Libraries.{library_patterns}
use Rattle.lw_label.specs.Delays.{most_time}
use Rattle.lw_netlist.specs.Netlists.{IsNetlist}
use Rattle.lw_netlist.specs.Plain as netlist
use Rattle.lw_netlist.specs.Plain.{IsOver, mapped_ports}
use Rattle.lw_extract.specs.declared.choosing.Chosen.{Chosen}
use Rattle.lw_extract.specs.declared.ports.Cover.{Cover}
use Rattle.lw_look.specs.declared.look.Look.{Look}
use Rattle.lw_look.specs.Looks.{IsDecidedBy}
use Rattle.lw_map.specs.Options.{IsWide, Options, plain_options}
use Rattle.lw_map.specs.Ports.{ArePortsOf}
use Rattle.lw_map.proofs.PortNames.{port_list}
use Rattle.lw_joined.specs.declared.choices.Joined.{Joined}
use Rattle.lw_joined.specs.Choices.{IsJoined}
use Rattle.lw_joined.specs.Joins.{joined_listing, own_form}
use Rattle.lw_area.specs.Deadlines.{deadlines_of}
use Rattle.lw_area.specs.Recovered.{IsFastestIn, IsRecovered, IsSpace, Space}
use Rattle.lw_area.specs.Spaces.{space_of}
use Rattle.lw_area.specs.Words.{Settings}
use Rattle.lw_area.proofs.First.{first_recovered, maps, same_area, times_least}
use Rattle.lw_area.proofs.Passed.{IsOfSpace, passed_recovered}

-- the look is at the joined graph, with the ports of the network
pub of_space : (settings : Settings) (net : NetworkParts) (j : Joined) (is : IsJoined net j) (l : Look) → IsNetwork net → ArePortsOf net j.choices l.ports.now → plain_options j.choices.options ≡ settings.options → l.graph.now ≡ j.choices.graph → IsOfSpace settings net (space_of net j is) l
of_space settings net j is l kept named same graph =
    let names = kept.named in
    record {
      graph =
          subst (λ (o : Options). IsGraphOf o.mode net.inputs (joined_listing o.width (network.plain j.union) is.links) l.graph.now) same
          (subst (λ g. IsGraphOf (plain_options j.choices.options).mode net.inputs (joined_listing j.choices.options.width (network.plain j.union) is.links) g) (sym graph) is.graph);
      one_name = length-take-le net.inputs net.names (omega arith);
      inputs = named.inputs;
      outputs = named.outputs ∙ sym (port_list net kept net.outputs);
      roots =
          ap numbers named.roots
          ∙ subst (λ (o : Options). numbers j.choices.roots ≡ form_classes (joined_listing o.width (network.plain j.union) is.links) (own_form o.width (network.plain net)) l.graph.now (ports_of net).outputs) same
          (subst (λ g. numbers j.choices.roots ≡ form_classes (joined_listing j.choices.options.width (network.plain j.union) is.links) (own_form j.choices.options.width (network.plain net)) g (ports_of net).outputs) (sym graph) is.roots);
    }

module _ (settings : Settings) (net : NetworkParts) (space : Space) (l : Look) (wide : IsWide settings.options) (kept : IsNetwork net) (early : All IsSmall l.starts.now) (lib : IsLibrary l.lib.now) (is_space : IsSpace settings net space) (first : Cover) (first_own : IsNetlist first.netlist) (first_model : first.netlist.model ≡ net.model) (first_is : IsFastestIn settings l.lib.now net space l.starts.now first.netlist) (low : (c t : ℕ) → labels_in first_is.labels c ≡ Some t → t < most_time) (graph : first_is.graph ≡ l.graph.now) (gates : first_is.gates ≡ numbers first.classes) (times : List Micro) (are : (ds : List ℕ) → AreArrivals (timing_of l.lib.now l.starts.now) (netlist.plain first.netlist) ds → map millionths times ≡ map (λ (q : PlainPort). slice_index_or ds q.net 0) (mapped_ports first.netlist).outputs) where
  -- a cover whose netlist has little area, over the graph of the look
  abbrev pub IsGiven : Cover → Type 0
  IsGiven cover = (r : IsRecovered settings l.lib.now net space l.starts.now cover.netlist) × (r.matches.graph ≡ l.graph.now) × (r.matches.gates ≡ numbers cover.classes)

  some_times : (ds : List ℕ) × AreArrivals (timing_of l.lib.now l.starts.now) (netlist.plain first.netlist) ds
  some_times = some_arrivals (netlist.plain first.netlist) (maps settings l.lib.now net space l.starts.now wide kept early lib is_space first.netlist first_own first_model first_is low).covering.ordered (timing_of l.lib.now l.starts.now)

  pub first_given : IsGiven first
  first_given =
      let (ds, arrive) = some_times in
      let own = first_recovered settings l.lib.now net space l.starts.now wide kept early lib is_space first.netlist first_own first_model first_is low ds arrive times (are ds arrive) in
      (own.0, own.1 ∙ graph, own.2 ∙ gates)

  pub look_gives : IsOfSpace settings net space l → l.pats.now ≡ library_patterns l.lib.now → l.ports.now.model ≡ net.model → l.times.now ≡ deadlines_of settings.deadline times → settings.effort ≢ None → (list : List Chosen) (refused : Bool) (cover : Cover) → IsNetlist cover.netlist → IsDecidedBy l list first cover refused → IsGiven cover
  look_gives of pats_are model due tried list true cover own (same, refused) = subst IsGiven (sym same) first_given
  look_gives of pats_are model due tried list false cover own passes =
      let (ds, arrive) = some_times in
      let least = times_least settings l.lib.now net space l.starts.now wide kept early lib is_space first.netlist first_own first_model first_is low ds arrive times (are ds arrive) in
      passed_recovered settings net space l of cover wide kept early lib is_space pats_are model first.netlist (same_area settings l.lib.now net space l.starts.now wide kept early lib is_space first.netlist first_own first_model first_is low) times least due tried list own passes

-- what is decided is over the library's cells
pub decided_over : (l : Look) (first : Cover) → IsOver l.lib.now first.netlist → (list : List Chosen) (refused : Bool) (cover : Cover) → IsDecidedBy l list first cover refused → IsOver l.lib.now cover.netlist
decided_over l first over list true cover (same, refused) = subst (λ (c : Cover). IsOver l.lib.now c.netlist) (sym same) over
decided_over l first over list false cover passes = passes.covers.over
