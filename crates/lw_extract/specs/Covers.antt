-- The netlist of the chosen matches, and the output that has none.
use Rattle.std.specs.Prelude.{ℕ, ◌<◌, ◌≤◌, ◌^◌, ◌≡◌, List, length, map, All, Option, Some, None, slice_get}
use Rattle.std.specs.Prelude.{slice_index_or}
use Rattle.std.specs.List.{AllZip}
use Rattle.lw_pool.specs.declared.id.ClassId.{ClassId}
use Rattle.lw_fixed.specs.declared.micro.Micro.{Micro}
use Rattle.lw_laws.specs.Graphs.{Graph, most_classes}
use Rattle.lw_laws.specs.Costs.{Cost}
use Rattle.lw_laws.specs.Covers.{Pattern}
use Rattle.lw_laws.specs.Names.{net_names}
use Rattle.lw_laws.specs.Netlists.{AreArrivals, AreNetCosts}
use Rattle.lw_laws.specs.Extracts.{AreGateClasses, HaveLeafLabels, IsExtracted, IsNetOf}
use Rattle.lw_genlib.specs.Cells.{CellParts}
use Rattle.lw_genlib.specs.Tables.{delays_of_cells, timing_of}
use Rattle.lw_cost.specs.declared.mark.Mark.{Mark}
use Rattle.lw_cost.specs.Least.{AreOfCells}
use Rattle.lw_cost.specs.Labels.{AreLeastMarks}
use Rattle.lw_netlist.specs.declared.gate.Port.{Port}
use Rattle.lw_netlist.specs.Plain.{IsOver, plain}
use Rattle.lw_extract.specs.declared.ports.Ports.{Ports}
use Rattle.lw_extract.specs.declared.ports.Cover.{Cover}
use Rattle.lw_extract.specs.Choosing.{labels, heights}
use Rattle.lw_pool.specs.Numbers.{numbers}

-- one name for each input of the graph, and for each output one of its classes
pub record AreFit (g : Graph) (ports : Ports) : Type 0 where
  pub few : length g.pairs ≤ most_classes
  pub few_inputs : length g.leaves ≤ most_classes
  pub few_outputs : length ports.outputs < 2 ^ 32
  pub one_name : length ports.inputs ≡ length g.leaves
  pub one_root : length ports.roots ≡ length ports.outputs
  pub in_range : All (λ (root : ClassId). root.0 < length g.pairs) ports.roots

-- The root at this place has no mark, and those before it have one.
pub record IsFirstUncovered (marks : List (Option Mark)) (roots : List ClassId) (k : ℕ) : Type 0 where
  pub root : ClassId
  pub at : slice_get roots k ≡ Some root
  pub uncovered : slice_index_or marks root.0 None ≡ None
  pub first : (i : ℕ) (c : ClassId) → i < k → slice_get roots i ≡ Some c
      → (m : Mark) × (slice_index_or marks c.0 None ≡ Some m)

-- A gate for each needed class that is no input's, by height and then class: the chosen match of the class. Nets have
-- the names of the inputs, of the first output of their class, or n1, n2 and so on; the outputs are at their roots'
-- nets.
pub record IsExtractedCover (g : Graph) (cost : Cost) (pats : List Pattern) (marks : List (Option Mark)) (ports : Ports)
    (cover : Cover) : Type 0 where
  pub gate_classes : AreGateClasses g cost pats (labels marks) (heights marks) (numbers ports.roots)
      (numbers cover.classes)
  pub extracted : IsExtracted g cost pats (labels marks) (heights marks) (numbers cover.classes) (plain cover.netlist)
  pub model : cover.netlist.model ≡ ports.model
  pub names : cover.netlist.names ≡ net_names ports.inputs ports.outputs (numbers ports.roots) (numbers cover.classes)
  pub output_names : map (λ (port : Port). port.name) cover.netlist.outputs ≡ ports.outputs
  pub outputs : AllZip
      (λ (root : ClassId) (port : Port). IsNetOf g (numbers cover.classes) root.0 port.net.0) ports.roots
      cover.netlist.outputs

-- Each net costs the label of its class.
abbrev pub CostTheirLabels : Graph → Cost → List (Option Mark) → Cover → Type 0
CostTheirLabels g cost marks cover =
    (costs : List ℕ) → AreNetCosts cost (plain cover.netlist) costs → (c net : ℕ)
    → IsNetOf g (numbers cover.classes) c net → labels marks c ≡ Some (slice_index_or costs net 0)

-- the labels are least for patterns of the library's cells, and those of inputs are their starts
pub record AreLibraryLabels (g : Graph) (cost : Cost) (pats : List Pattern) (lib : List CellParts)
    (marks : List (Option Mark)) : Type 0 where
  pub cells : cost.pin_counts ≡ map length (delays_of_cells lib)
  pub of_cells : AreOfCells cost.pin_counts pats
  pub least : AreLeastMarks g cost pats marks
  pub leaves : HaveLeafLabels g cost (labels marks)

-- the cover that labels give, over the library's cells
pub record IsCoverBy (g : Graph) (cost : Cost) (pats : List Pattern) (lib : List CellParts) (marks : List (Option Mark))
    (ports : Ports) (made : Cover) : Type 0 where
  pub cover : IsExtractedCover g cost pats marks ports made
  pub over : IsOver lib made.netlist
  pub costs : CostTheirLabels g cost marks made

-- Each net arrives at the label of its class, by the starts of the inputs and the delays of the cells.
abbrev pub ArriveAtLabels : Graph → List CellParts → List Micro → List (Option Mark) → Cover → Type 0
ArriveAtLabels g cells starts marks cover =
    (arrivals : List ℕ) → AreArrivals (timing_of cells starts) (plain cover.netlist) arrivals → (c net : ℕ)
    → IsNetOf g (numbers cover.classes) c net → labels marks c ≡ Some (slice_index_or arrivals net 0)
