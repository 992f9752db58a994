-- A cover that the look gives.
use Rattle.std.proofs.Common.{ℕ, ◌≡◌, ◌≢◌, ◌∙◌, ◌++◌, All, List, None, length, map, take, refl, ap, ap₂, sym, subst, arith}
use Rattle.std.proofs.lemmas.List.{take_at}
use Rattle.lw_fixed.specs.declared.micro.Micro.{Micro}
use Rattle.lw_pool.specs.Numbers.{numbers}
use Rattle.lw_laws.specs.Classes.{IsGraphOf}
use Rattle.lw_laws.specs.Classes.{class_in}
use Rattle.lw_laws.specs.Covers.{Pattern}
use Rattle.lw_laws.specs.Headline.{Port as PlainPort}
use Rattle.lw_laws.specs.MappedNetlists.{IsMatchNetlistOfForms, form_classes}
use Rattle.lw_laws.specs.Names.{free_names, gate_names, net_names}
use Rattle.lw_laws.proofs.MatchNetlists.{matches_cover_forms}
use Rattle.lw_net.specs.Networks.{NetworkParts, IsNetwork, input_names}
use Rattle.lw_net.specs.Plain as network
use Rattle.lw_net.specs.Ports.{ports_of}
use Rattle.lw_genlib.specs.Cells.{IsLibrary, IsSmall}
use Rattle.lw_genlib.specs.Tables.{timing_of, truth_of_cells}
use Rattle.lw_pattern.specs.Libraries.{library_patterns}
use Rattle.lw_netlist.specs.Netlists.{NetlistParts, IsNetlist}
use Rattle.lw_netlist.specs.Plain as netlist
use Rattle.lw_netlist.specs.Plain.{mapped_ports}
use Rattle.lw_extract.specs.declared.choosing.Chosen.{Chosen}
use Rattle.lw_extract.specs.declared.ports.Cover.{Cover}
use Rattle.lw_extract.proofs.PortLists.{port_name}
use Rattle.lw_look.specs.declared.look.Look.{Look}
use Rattle.lw_look.specs.Areas.{area_of}
use Rattle.lw_look.specs.Lists.{pin_counts}
use Rattle.lw_look.specs.Looks.{IsInTime, IsMatchCover, Passes}
use Rattle.lw_map.specs.Options.{IsWide}
use Rattle.lw_map.proofs.CellLaws.{delay_patterns, delay_truths}
use Rattle.lw_map.proofs.PortNames.{has_ports}
use Rattle.lw_joined.proofs.FormCovers.{zip_outputs}
use Rattle.lw_area.specs.Deadlines.{deadlines_of}
use Rattle.lw_area.specs.Recovered.{AreLeastTimesIn, IsFastestIn, IsRecovered, IsSpace, Space, form_in, listing_in}
use Rattle.lw_area.specs.Words.{Settings}
use Rattle.lw_area.proofs.First.{forms_are, sound}

-- the look is at the graph of what a network is mapped over, with the network's ports
pub record IsOfSpace (settings : Settings) (net : NetworkParts) (space : Space) (l : Look) : Type 0 where
  pub graph : IsGraphOf settings.options.mode net.inputs (listing_in settings space) l.graph.now
  pub one_name : length (input_names net) ≡ net.inputs
  pub inputs : l.ports.now.inputs ≡ input_names net
  pub outputs : l.ports.now.outputs ≡ map port_name (ports_of net).outputs
  pub roots : numbers l.ports.now.roots ≡ form_classes (listing_in settings space) (form_in settings net) l.graph.now (ports_of net).outputs

module _ (settings : Settings) (net : NetworkParts) (space : Space) (l : Look) (of : IsOfSpace settings net space l) (cover : Cover) where
  -- it has the matches of the network, over the graph of the look
  abbrev HasMatches : List Pattern → Type 0
  HasMatches pats = (is : IsMatchNetlistOfForms settings.options.mode net.inputs (listing_in settings space) (form_in settings net) (ports_of net) pats (pin_counts l) (netlist.plain cover.netlist) cover.netlist.names (mapped_ports cover.netlist)) × (is.graph ≡ l.graph.now) × (is.gates ≡ numbers cover.classes)

  with_classes : IsMatchCover l cover → HasMatches l.pats.now
  with_classes is =
      let g = l.graph.now in
      let gates = numbers cover.classes in
      let classes = form_classes (listing_in settings space) (form_in settings net) g (ports_of net).outputs in
      let names : cover.netlist.names ≡ net_names (input_names net) (map port_name (ports_of net).outputs) classes gates =
      is.names ∙ (ap₂ (λ (xs ys : List (List ℕ)). net_names xs ys (numbers l.ports.now.roots) gates) of.inputs of.outputs ∙ ap (λ (cs : List ℕ). net_names (input_names net) (map port_name (ports_of net).outputs) cs gates) of.roots) in
      let count : cover.netlist.inputs ≡ length (input_names net) = is.matches.inputs ∙ (of.graph.written.leaf_count ∙ sym of.one_name) in (
        record {
          graph = g;
          is_graph = of.graph;
          gates = gates;
          matches = is.matches;
          input_names = ap (λ (xs : List (List ℕ)). take cover.netlist.inputs xs) names ∙ take_at (input_names net) (gate_names (map port_name (ports_of net).outputs) classes (free_names (input_names net ++ map port_name (ports_of net).outputs) (length gates)) gates) cover.netlist.inputs (sym count);
          outputs = zip_outputs (λ (p : PlainPort). class_in (listing_in settings space) g (form_in settings net p.net)) g gates (ports_of net).outputs l.ports.now.roots cover.netlist.outputs of.roots (is.output_names ∙ of.outputs) is.outputs;
          names_are = names;
        },
        refl,
        refl,
      )

  module _ (wide : IsWide settings.options) (kept : IsNetwork net) (early : All IsSmall l.starts.now) (lib : IsLibrary l.lib.now) (is_space : IsSpace settings net space) (pats_are : l.pats.now ≡ library_patterns l.lib.now) (model : l.ports.now.model ≡ net.model) (first : NetlistParts) (once : (other : NetlistParts) → IsFastestIn settings l.lib.now net space l.starts.now other → area_of l.lib.now first.gates ≡ area_of l.lib.now other.gates) (times : List Micro) (least : AreLeastTimesIn settings l.lib.now net space l.starts.now times) (due : l.times.now ≡ deadlines_of settings.deadline times) (tried : settings.effort ≢ None) (list : List Chosen) (own : IsNetlist cover.netlist) (passes : Passes l (area_of l.lib.now first.gates) list cover) where
    matches : HasMatches (library_patterns l.lib.now)
    matches = subst HasMatches pats_are (with_classes passes.covers)

    pub passed_recovered : (r : IsRecovered settings l.lib.now net space l.starts.now cover.netlist) × (r.matches.graph ≡ l.graph.now) × (r.matches.gates ≡ numbers cover.classes)
    passed_recovered = (
      record {
        kept = own;
        model_name = passes.covers.model ∙ model;
        covers = matches_cover_forms settings.options.mode net.inputs (listing_in settings space) (form_in settings net) (ports_of net) (library_patterns l.lib.now) (timing_of l.lib.now l.starts.now) (truth_of_cells l.lib.now) (netlist.plain cover.netlist) cover.netlist.names (mapped_ports cover.netlist) (network.plain net) refl (sound settings l.lib.now net space l.starts.now wide kept early lib is_space) (forms_are settings l.lib.now net space l.starts.now wide kept early lib is_space) (has_ports net kept) (delay_patterns l.lib.now lib) (delay_truths l.lib.now lib) matches.0;
        least = times;
        least_are = least;
        timely = subst (λ (ts : List Micro). IsInTime l.lib.now l.starts.now ts cover.netlist) due passes.fits.in_time;
        smaller = λ other other_is. let same = once other other_is in let fit = passes.fits.area in omega arith;
        untried = λ e. absurd (tried e);
        matches = matches.0;
        by_depth = passes.covers.by_depth;
      },
      matches.1,
      matches.2,
    )
