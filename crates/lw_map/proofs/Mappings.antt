-- The netlist that a network is mapped to computes the network's outputs, each at the least time.
use Rattle.std.proofs.Common.{ℕ, ◌+◌, ◌*◌, ◌^◌, ◌<◌, ◌≤◌, ◌≡◌, List, length, All, Option, Some, arith, mul-le-mul_right}
use Rattle.lw_laws.specs.Listings.{listing_of}
use Rattle.lw_laws.specs.Graphs.{Graph}
use Rattle.lw_laws.specs.Classes.{IsGraphOf}
use Rattle.lw_laws.specs.Matches.{IsLeastCover}
use Rattle.lw_laws.specs.Rounds.{labels_in}
use Rattle.lw_laws.specs.Delays.{delay_cost}
use Rattle.lw_laws.specs.Headline.{IsMapping}
use Rattle.lw_laws.proofs.NetlistOf.{netlist_maps}
use Rattle.lw_net.specs.Networks.{NetworkParts, IsNetwork}
use Rattle.lw_net.specs.Plain as network
use Rattle.lw_net.proofs.Rise.{in_order}
use Rattle.lw_fixed.specs.declared.micro.Micro.{Micro}
use Rattle.lw_genlib.specs.Cells.{CellParts, IsLibrary, IsSmall}
use Rattle.lw_genlib.specs.Tables.{timing_of, truth_of_cells}
use Rattle.lw_form.specs.Limits.{most_bases}
use Rattle.lw_pattern.specs.Libraries.{library_patterns}
use Rattle.lw_label.specs.Delays.{most_time}
use Rattle.lw_netlist.specs.Netlists.{NetlistParts}
use Rattle.lw_netlist.specs.Plain as netlist
use Rattle.lw_map.specs.Options.{Options, IsWide}
use Rattle.lw_map.specs.Mapped.{base_count, IsMappedNetlist}
use Rattle.lw_label.proofs.CellLaws.{timing_up}
use Rattle.lw_map.proofs.Ranges.{label_below}
use Rattle.lw_map.proofs.CellLaws.{delay_patterns, delay_truths}
use Rattle.lw_map.proofs.PortNames.{has_ports}
use Rattle.lw_net.specs.Ports.{ports_of}
use Rattle.lw_netlist.specs.Plain.{mapped_ports}
use Rattle.lw_assoc.proofs.Built.{pairs_bound}

module _ (options : Options) (cells : List CellParts) (net : NetworkParts) (starts : List Micro) (wide : IsWide options) (kept : IsNetwork net) (early : All IsSmall starts) (lib : IsLibrary cells) where
  few_inputs : net.inputs < 2 ^ 32
  few_inputs = let n = kept.named in let m = kept.few in omega arith

  -- a time by few classes and small delays is one that is told
  pub labels_low : base_count options net ≤ most_bases → (g : Graph) → IsGraphOf options.mode net.inputs (listing_of options.width (network.plain net)) g → (labels : List (Option ℕ)) → ((c : ℕ) → IsLeastCover g (library_patterns cells) (delay_cost (timing_of cells starts) most_time) c (labels_in labels c)) → (c l : ℕ) → labels_in labels c ≡ Some l → l < most_time
  labels_low few g is labels least c l e =
      let low = label_below options.mode options.width (network.plain net) g wide.least is (library_patterns cells) (timing_of cells starts) most_time 1000000000000 few_inputs (delay_patterns cells lib) (timing_up cells lib starts early) (omega arith) labels least c l e in
      let p = pairs_bound 0 g.forms in
      let w = is.written.class_count in
      let f = is.written.form_count in
      let room : length g.pairs + 1 ≤ 4194305 = omega arith in
      let more : (length g.pairs + 1) * 1000000000000 ≤ 4194305 * 1000000000000 = mul-le-mul_right {m = length g.pairs + 1} {n = 4194305} 1000000000000 room in
      omega arith

  pub mapped_is_mapping : base_count options net ≤ most_bases → (n : NetlistParts) → IsMappedNetlist options cells net starts n → IsMapping options.mode options.width (network.plain net) (ports_of net) (library_patterns cells) (timing_of cells starts) (truth_of_cells cells) (netlist.plain n) (mapped_ports n)
  mapped_is_mapping few n is =
      netlist_maps options.mode options.width (network.plain net) (ports_of net) (library_patterns cells) (timing_of cells starts) most_time (truth_of_cells cells) (netlist.plain n) n.names (mapped_ports n)
      wide.least (in_order net kept) few_inputs (has_ports net kept) (delay_patterns cells lib) (delay_truths cells lib) is.is (labels_low few is.is.graph is.is.is_graph is.is.labels is.is.least)
