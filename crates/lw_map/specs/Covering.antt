-- What is covered, and what a cover of it is.
use Rattle.std.specs.Prelude.{ℕ, ◌≤◌, ◌≡◌, List, Option, Some, length, map, slice_get}
use Rattle.std.specs.List.{IsDistinct}
use Rattle.std.specs.Str.{bytes_eq}
use Rattle.lw_laws.specs.Costs.{Cost}
use Rattle.lw_laws.specs.Graphs.{most_classes}
use Rattle.lw_laws.specs.Matches.{IsLeastCover}
use Rattle.lw_laws.specs.Rounds.{labels_in}
use Rattle.lw_genlib.specs.Tables.{delays_of_cells}
use Rattle.lw_net.specs.Networks.{output_names}
use Rattle.lw_cost.specs.declared.mark.Mark.{Mark}
use Rattle.lw_cost.specs.Least.{AreOfCells}
use Rattle.lw_cost.specs.Labels.{AreLeastMarks, costs_of}
use Rattle.lw_netlist.specs.Plain.{IsOver}
use Rattle.lw_extract.specs.declared.fault.ExtractFault.{ExtractFault}
use Rattle.lw_extract.specs.declared.fault.ExtractFault.TheVariants.{NoCover, Memory}
use Rattle.lw_extract.specs.declared.ports.Cover.{Cover}
use Rattle.lw_extract.specs.declared.ports.Ports.{Ports}
use Rattle.lw_extract.specs.Covers.{IsExtractedCover, IsFirstUncovered}
use Rattle.lw_map.specs.declared.covering.Mapping.{Mapping}
use Rattle.lw_map.specs.declared.fault.MapFault.{MapFault}
use Rattle.lw_map.specs.declared.labelling.Labeller.{Labeller}
use Rattle.lw_map.specs.declared.problem.Problem.{Problem}
use Rattle.lw_map.specs.Choices.{AreChoicesOf}
use Rattle.lw_map.specs.Faults.{IsCoverFault}
use Rattle.lw_map.specs.Labelled.{AreStepsBy}
use Rattle.lw_map.specs.Mappings.{IsMappingOf}
use Rattle.lw_map.specs.Ports.{ArePortsOf}

-- The choices are those of a network whose outputs' names differ, the patterns are of the cells that the cost is for,
-- and the least cover of an input's class costs what the input does.
pub record CanBeMapped (cost : Cost) (p : Problem) : Type 0 where
  pub chosen : AreChoicesOf p.net.now p.choices.now
  pub outputs : IsDistinct bytes_eq (output_names p.net.now)
  pub counts : cost.pin_counts ≡ map length (delays_of_cells p.lib.now)
  pub of_cells : AreOfCells cost.pin_counts p.pats
  pub leaves : (i c : ℕ) → slice_get p.choices.now.graph.leaves i ≡ Some c
      → IsLeastCover p.choices.now.graph p.pats cost c (Some (cost.leaf i))

-- the matches that marks choose for the outputs, over the library's cells
pub record IsCoverAtPorts (cost : Cost) (p : Problem) (marks : List (Option Mark)) (cover : Cover) : Type 0 where
  pub extracted : (ports : Ports) × ArePortsOf p.net.now p.choices.now ports
      × IsExtractedCover p.choices.now.graph cost p.pats marks ports cover
  pub over : IsOver p.lib.now cover.netlist

-- the cover in a mapping
abbrev pub cover_in : Mapping → Cover
cover_in m = record { netlist = m.netlist; classes = m.classes }

-- least labels, found in this way, and the cover that they choose
pub record IsMappedBy (labeller : Labeller) (cost : Cost) (p : Problem) (m : Mapping) : Type 0 where
  pub least : AreLeastMarks p.choices.now.graph cost p.pats m.labels
  pub steps_are : AreStepsBy labeller p.choices.now.graph p.pats (labels_in (costs_of m.labels)) m.steps
  pub cover : IsCoverAtPorts cost p m.labels (cover_in m)

-- The output is the first that has no label, by least labels. Running out of memory needs no reason.
abbrev pub LacksLeastLabel : Cost → Problem → ExtractFault → Type 0
LacksLeastLabel cost p (NoCover k) =
    (marks : List (Option Mark)) × AreLeastMarks p.choices.now.graph cost p.pats marks
    × IsFirstUncovered marks p.choices.now.roots k
LacksLeastLabel cost p Memory = Unit {0}

-- the netlist that the network is mapped to, over the library's cells, of no more gates than there are classes
pub record IsFastest (labeller : Labeller) (p : Problem) (m : Mapping) : Type 0 where
  pub mapping : IsMappingOf labeller p.lib.now p.net.now p.starts.now p.choices.now m
  pub over : IsOver p.lib.now m.netlist
  pub few : length m.netlist.gates ≤ most_classes

-- the first output without a cover, or memory ran out
abbrev pub IsLack : Problem → MapFault → Type 0
IsLack p fault = IsCoverFault p.lib.now p.net.now p.starts.now p.choices.now fault
