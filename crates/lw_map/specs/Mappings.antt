-- A mapping in hand: the netlist, the class of each gate and the labels of all classes.
use Rattle.std.specs.Prelude.{◌≡◌, List, length, map, Option, Some, option_map}
use Rattle.lw_pool.specs.declared.id.ClassId.{ClassId}
use Rattle.lw_fixed.specs.declared.micro.Micro.{Micro}
use Rattle.lw_genlib.specs.Cells.{CellParts}
use Rattle.lw_net.specs.Networks.{NetworkParts}
use Rattle.lw_cost.specs.declared.mark.Mark.{Mark}
use Rattle.lw_laws.specs.Rounds.{labels_in}
use Rattle.lw_pattern.specs.Libraries.{library_patterns}
use Rattle.lw_cost.specs.Labels.{AreLeastMarks, costs_of}
use Rattle.lw_label.specs.Delays.{time_cost}
use Rattle.lw_mapped.specs.declared.certificate.Certificate.{Certificate}
use Rattle.lw_map.specs.declared.choices.Choices.{Choices}
use Rattle.lw_map.specs.declared.labelling.Labeller.{Labeller}
use Rattle.lw_map.specs.declared.covering.Mapping.{Mapping}
use Rattle.lw_map.specs.Options.{plain_options}
use Rattle.lw_map.specs.Labelled.{AreStepsBy}
use Rattle.lw_map.specs.Mapped.{IsMappedNetlist}
use Rattle.lw_pool.specs.Numbers.{numbers}

-- the netlist that the network is mapped to, over the graph of the choices, with the classes of its gates, the least
-- labels of the classes, and how often stored matches are read to find them
pub record IsMappingOf (labeller : Labeller) (cells : List CellParts) (net : NetworkParts) (starts : List Micro)
    (c : Choices) (m : Mapping) : Type 0 where
  pub mapped : IsMappedNetlist (plain_options c.options) cells net starts m.netlist
  pub graph : mapped.is.graph ≡ c.graph
  pub labels : mapped.is.labels ≡ costs_of m.labels
  pub gates : mapped.is.gates ≡ numbers m.classes
  pub one_each : length m.labels ≡ length c.graph.pairs
  pub least : AreLeastMarks c.graph (time_cost cells starts) (library_patterns cells) m.labels
  pub steps : AreStepsBy labeller c.graph (library_patterns cells) (labels_in (costs_of m.labels)) m.steps

abbrev pub label_of : Mark → Micro
label_of mark = record { 0 = mark.cost }

-- the labels of marks, and these classes
pub record AreCertified (labels : List (Option Mark)) (classes : List ClassId)
    (certificate : Certificate) : Type 0 where
  pub labels_are : certificate.labels ≡ map (option_map label_of) labels
  pub nets_are : certificate.nets ≡ map Some classes
