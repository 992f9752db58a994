-- The sizes of a drawn network, or why it is not mapped, cannot fail to be there.
use Rattle.std.proofs.Common.{ℕ, ◌<◌, ◌≤◌, inl, inr, false, List, length, map, Option, Some, None, Result, Ok, Err, refl, arith}
use native.Mathlib.Decide.{dec_lt}
use Rattle.lw_dag.specs.Ordering.{greatest}
use Rattle.lw_laws.specs.Covers.{Pattern}
use Rattle.lw_laws.specs.Graphs.{Graph}
use Rattle.lw_laws.specs.Choices.{Labels}
use Rattle.lw_laws.specs.Rounds.{labels_in}
use Rattle.lw_laws.proofs.NetlistValues.{some_arrivals}
use Rattle.lw_net.specs.Closing.{by_depth, network_in}
use Rattle.lw_net.specs.Networks.{NetworkParts, IsNetwork}
use Rattle.lw_graph.specs.Graphs.{IsGraph}
use Rattle.lw_cost.specs.Coming.{matches_from}
use Rattle.lw_cursor.proofs.AllMatches.{all_matches}
use Rattle.lw_genlib.specs.Cells.{CellParts, IsLibrary}
use Rattle.lw_genlib.specs.Tables.{timing_of}
use Rattle.lw_pattern.specs.Libraries.{library_patterns}
use Rattle.lw_settle.specs.Settled.{settle_steps}
use Rattle.lw_settle.specs.Stores.{Stored, placed, with_cell, AreStoredAt, IsStoreOf, most_matches}
use Rattle.lw_settle.specs.Steps.{AreSteps}
use Rattle.lw_netlist.specs.Netlists.{NetlistParts}
use Rattle.lw_netlist.specs.Plain as netlist
use Rattle.lw_report.specs.Timings.{output_arrivals}
use Rattle.lw_report.proofs.Once.{ordered}
use Rattle.lw_big.specs.Generated.{most_nodes, drawn_draft, IsGenerated}
use Rattle.lw_big.proofs.Drafts.{drawn_is_draft, drawn_defined, drawn_no_cycle}
use Rattle.lw_big.proofs.Kept.{generated_kept}
use Rattle.lw_map.specs.declared.counting.Sizes.{Sizes}
use Rattle.lw_map.specs.Counts.{drawing_options, at_once}
use Rattle.lw_map.specs.Mapped.{IsMappedNetlist, IsWithinLimits}
use Rattle.lw_map.specs.Options.{IsWide}
use Rattle.lw_files.specs.Steps.{Files}
use Rattle.lw_top.specs.declared.refusal.Refusal.{Refusal}
use Rattle.lw_top.specs.Counts.{sizes_text, IsSizeText, Draws}
use Rattle.lw_exists.specs.Weakly.{Weakly}
use Rattle.lw_exists.proofs.Weak.{and_then, weaker, some_list}
use Rattle.lw_exists.proofs.SomeDepths.{some_depths}
use Rattle.lw_exists.proofs.SomeMaps.{HasMapping, some_mapping}
use Rattle.lw_exists.proofs.OutputClasses.{graph_kept}

-- how often the matches of a graph are read, or that they are too many
module _ (g : Graph) (graph : IsGraph g) (pats : List Pattern) (labels : Labels) where
  by_count : (lists : List (List Stored)) → IsStoreOf g pats lists → Dec (most_matches < length (placed lists)) → (o : Option ℕ) × AreSteps g pats labels o
  by_count lists store (yes many) = (None, (lists, store, many))
  by_count lists store (no few) =
      (Some (settle_steps labels lists), record { lists = lists; store = store; few = omega arith; steps_are = refl })

  some_steps : (o : Option ℕ) × AreSteps g pats labels o
  some_steps =
      let (lists, count, are) = some_list (AreStoredAt g pats) (length g.pairs) (λ c lt. (map (with_cell pats) (matches_from g c 0 pats), (matches_from g c 0 pats, all_matches g graph c pats, refl))) in
      by_count lists (record { one_each = count; matches = are }) (dec_lt most_matches (length (placed lists)))

module _ (seed count : ℕ) (few : count ≤ most_nodes) (cells : List CellParts) (lib : IsLibrary cells) (files : Files) where
  abbrev HasSome : Type 0
  HasSome = (r : Result (List ℕ) Refusal) × Draws seed count cells files r

  drawn : Weakly ((net : NetworkParts) × IsGenerated seed count net)
  drawn =
      weaker (λ (depth, depths). (
        network_in (drawn_draft seed count) (by_depth depth (drawn_draft seed count).nodes),
        record { defined = drawn_defined seed count; no_cycle = drawn_no_cycle seed count few; depth = depth; depths = depths; network = refl },
      )) (some_depths (drawn_draft seed count) (drawn_is_draft seed count few).signals (drawn_no_cycle seed count few))

  wide : IsWide drawing_options
  wide = record { least = omega arith; most = omega arith }

  module _ (net : NetworkParts) (is : IsGenerated seed count net) where
    kept : IsNetwork net
    kept = generated_kept seed count net few is

    sized : (within : IsWithinLimits drawing_options net) (n : NetlistParts) → IsMappedNetlist drawing_options cells net (at_once net.inputs) n → HasSome
    sized within n mapped =
        let g = mapped.is.graph in
        let graph = graph_kept drawing_options net wide kept within g mapped.is.is_graph in
        let (steps, steps_are) = some_steps g graph (library_patterns cells) (labels_in mapped.is.labels) in
        let (arrivals, arrive) = some_arrivals (netlist.plain n) (ordered n mapped.kept) (timing_of cells (at_once net.inputs)) in
        let sizes : Sizes = record { nodes = count; classes = length g.pairs; gates = length n.gates; latest = record { 0 = greatest (output_arrivals n arrivals) }; steps = steps } in
        let says : IsSizeText seed count cells net (sizes_text sizes) = record {
          generated = is;
          sizes = sizes;
          are = record { within = within; netlist = n; is_mapped = mapped; arrivals = arrivals; arrive = arrive; nodes = refl; classes = refl; gates = refl; latest = refl; steps = steps_are };
          says = refl;
        } in
        (Ok (sizes_text sizes), (net, says))

    by_mapping : HasMapping drawing_options false cells net (at_once net.inputs) wide kept lib → HasSome
    by_mapping (inl (within, (n, mapped, certificate, asked))) = sized within n mapped
    by_mapping (inr (r, lacks)) = (Err r, (net, is, lacks))

    by_network : Weakly HasSome
    by_network = weaker by_mapping (some_mapping drawing_options false cells net (at_once net.inputs) wide kept lib)

  pub some_drawing : Weakly ((r : Result (List ℕ) Refusal) × Draws seed count cells files r)
  some_drawing = and_then drawn (λ (net, is). by_network net is)
