-- What is counted of a network's graph, and of a network that is drawn from a number.
use Rattle.std.specs.Prelude.{ℕ, ◌≡◌, List, length, sum_by, replicate, ⊤}
use Rattle.lw_fixed.specs.declared.micro.Micro.{Micro}
use Rattle.lw_laws.specs.Modes.Mode.{plain as plain_mode}
use Rattle.lw_laws.specs.Graphs.{Graph, Pair}
use Rattle.lw_laws.specs.Classes.{IsGraphOf}
use Rattle.lw_laws.specs.Listings.{listing_of}
use Rattle.lw_laws.specs.Netlists.{AreArrivals}
use Rattle.lw_laws.specs.Rounds.{labels_in}
use Rattle.lw_net.specs.Networks.{NetworkParts}
use Rattle.lw_net.specs.Plain as network
use Rattle.lw_genlib.specs.Cells.{CellParts}
use Rattle.lw_genlib.specs.Tables.{timing_of}
use Rattle.lw_pattern.specs.Libraries.{library_patterns}
use Rattle.lw_settle.specs.Steps.{AreSteps}
use Rattle.lw_dag.specs.Ordering.{greatest}
use Rattle.lw_netlist.specs.Netlists.{NetlistParts}
use Rattle.lw_netlist.specs.Plain.{plain as plain_netlist}
use Rattle.lw_report.specs.Timings.{output_arrivals}
pub use Rattle.lw_big.specs.Generated.{IsGenerated, most_nodes}
use Rattle.lw_map.specs.declared.counting.Counts.{Counts}
use Rattle.lw_map.specs.declared.counting.Sizes.{Sizes}
use Rattle.lw_map.specs.declared.fault.MapFault.{MapFault}
use Rattle.lw_map.specs.declared.fault.MapFault.TheVariants.{Memory}
use Rattle.lw_map.specs.Options.{Options}
use Rattle.lw_map.specs.Mapped.{IsMappedNetlist, IsWithinLimits, base_count}
use Rattle.lw_map.specs.Faults.{IsMapFault}

-- The graph of a network's forms.

-- how many NAND pairs the classes hold together
abbrev pub pair_total : Graph → ℕ
pair_total g = sum_by (λ (row : List Pair). length row) g.pairs

-- the base forms that occur, the classes of their graph, and the pairs that these hold
pub record AreCounts (options : Options) (net : NetworkParts) (c : Counts) : Type 0 where
  pub within : IsWithinLimits options net
  pub graph : Graph
  pub is_graph : IsGraphOf options.mode net.inputs (listing_of options.width (network.plain net)) graph
  pub forms : c.forms ≡ base_count options net
  pub classes : c.classes ≡ length graph.pairs
  pub pairs : c.pairs ≡ pair_total graph

-- A drawn network.

-- it is mapped at width 6 by the plain laws
abbrev pub drawing_options : Options
drawing_options = record { width = 6; mode = plain_mode }

-- all inputs start at 0
abbrev pub at_once : ℕ → List Micro
at_once inputs = replicate inputs (record { 0 = 0 })

-- The nodes, the classes of the graph, the gates of the netlist that the network is mapped to, the greatest arrival of
-- an output, and how often settling reads the matches of the graph.
pub record AreSizes (count : ℕ) (cells : List CellParts) (net : NetworkParts) (s : Sizes) : Type 0 where
  pub within : IsWithinLimits drawing_options net
  pub netlist : NetlistParts
  pub is_mapped : IsMappedNetlist drawing_options cells net (at_once net.inputs) netlist
  pub arrivals : List ℕ
  pub arrive : AreArrivals (timing_of cells (at_once net.inputs)) (plain_netlist netlist) arrivals
  pub nodes : s.nodes ≡ count
  pub classes : s.classes ≡ length is_mapped.is.graph.pairs
  pub gates : s.gates ≡ length netlist.gates
  pub latest : s.latest.0 ≡ greatest (output_arrivals netlist arrivals)
  pub steps : AreSteps is_mapped.is.graph (library_patterns cells) (labels_in is_mapped.is.labels) s.steps

-- the sizes of the network that is drawn
abbrev pub HasSizes : ℕ → ℕ → List CellParts → Sizes → Type 0
HasSizes seed count cells s = (net : NetworkParts) × IsGenerated seed count net × AreSizes count cells net s

-- Why the network that is drawn is not mapped. Running out of memory needs no reason.
abbrev pub IsDrawingFault : ℕ → ℕ → List CellParts → MapFault → Type 0
IsDrawingFault seed count cells Memory = ⊤
IsDrawingFault seed count cells other =
    (net : NetworkParts) × IsGenerated seed count net × IsMapFault drawing_options cells net (at_once net.inputs) other
