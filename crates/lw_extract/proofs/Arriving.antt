-- The nets of a cover cost the labels of their classes, and arrive at them.
use Rattle.std.proofs.Common.{ℕ, ◌≤◌, List, Option, All}
use Rattle.lw_laws.specs.Modes.{Mode}
use Rattle.lw_laws.specs.Networks.{Network}
use Rattle.lw_laws.specs.Listings.{listing_of}
use Rattle.lw_laws.specs.Classes.{IsGraphOf}
use Rattle.lw_laws.specs.Graphs.{Graph}
use Rattle.lw_laws.specs.Costs.{Cost}
use Rattle.lw_laws.specs.Covers.{Pattern}
use Rattle.lw_laws.specs.Extracts.{HaveLeafLabels}
use Rattle.lw_laws.proofs.InputLabels.{input_label}
use Rattle.lw_laws.proofs.ExtractLaws.{extracted_arrivals, extracted_costs}
use Rattle.lw_fixed.specs.declared.micro.Micro.{Micro}
use Rattle.lw_genlib.specs.Cells.{CellParts, IsLibrary, IsSmall}
use Rattle.lw_genlib.specs.Tables.{timing_of}
use Rattle.lw_graph.specs.Graphs.{IsGraph}
use Rattle.lw_cost.specs.declared.mark.Mark.{Mark}
use Rattle.lw_cost.specs.Least.{AreOfCells}
use Rattle.lw_label.specs.Delays.{most_time, time_cost}
use Rattle.lw_cost.specs.Labels.{AreLeastMarks}
use Rattle.lw_label.proofs.Low.{labels_below_cap}
use Rattle.lw_cost.proofs.MarksAsLabels.{patterns_of_cells}
use Rattle.lw_netlist.specs.Plain.{plain}
use Rattle.lw_extract.specs.declared.ports.Ports.{Ports}
use Rattle.lw_extract.specs.declared.ports.Cover.{Cover as Extracted}
use Rattle.lw_extract.specs.Choosing.{labels, heights}
use Rattle.lw_extract.specs.Covers.{AreFit, IsExtractedCover, CostTheirLabels, ArriveAtLabels}
use Rattle.lw_pool.specs.Numbers.{numbers}

-- each net of a cover costs the label of its class
pub cost_their_labels : (g : Graph) (cost : Cost) (pats : List Pattern) (marks : List (Option Mark)) → HaveLeafLabels g cost (labels marks) → (ports : Ports) (cover : Extracted) → IsExtractedCover g cost pats marks ports cover → CostTheirLabels g cost marks cover
cost_their_labels g cost pats marks leaves ports cover is costs are =
    extracted_costs g cost pats (labels marks) (heights marks) (numbers ports.roots) (numbers cover.classes) (plain cover.netlist) costs is.gate_classes is.extracted are leaves

-- each net of a cover arrives at the label of its class, where the cost is the time
pub arrive_at_labels : (g : Graph) (cells : List CellParts) (starts : List Micro) (pats : List Pattern) (marks : List (Option Mark)) (ports : Ports) (cover : Extracted) → IsGraph g → IsLibrary cells → All IsSmall starts → AreOfCells (time_cost cells starts).pin_counts pats → AreLeastMarks g (time_cost cells starts) pats marks → HaveLeafLabels g (time_cost cells starts) (labels marks) → AreFit g ports → IsExtractedCover g (time_cost cells starts) pats marks ports cover → ArriveAtLabels g cells starts marks cover
arrive_at_labels g cells starts pats marks ports cover graph lib small of_cells least leaves fit is arrivals are =
    extracted_arrivals g pats (timing_of cells starts) most_time (labels marks) (heights marks) (numbers ports.roots) (numbers cover.classes) (plain cover.netlist) arrivals is.gate_classes is.extracted are leaves (labels_below_cap g cells starts pats marks graph lib small of_cells fit.few least)

-- in the graph of a network's forms each input's class has the input's start as its label
pub forms_have_leaf_labels : (mode : Mode) (width : ℕ) (net : Network) (g : Graph) → 2 ≤ width → IsGraphOf mode net.inputs (listing_of width net) g → (cells : List CellParts) (starts : List Micro) (pats : List Pattern) (marks : List (Option Mark)) → AreOfCells (time_cost cells starts).pin_counts pats → AreLeastMarks g (time_cost cells starts) pats marks → HaveLeafLabels g (time_cost cells starts) (labels marks)
forms_have_leaf_labels mode width net g wide graph_is cells starts pats marks of_cells least c i at =
    input_label mode width net g wide graph_is pats (timing_of cells starts) most_time (patterns_of_cells (time_cost cells starts).pin_counts pats of_cells) i c (labels marks c) at (least.least c)
