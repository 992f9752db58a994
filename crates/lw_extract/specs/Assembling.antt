-- What a list of matches needs to make a netlist, and the netlist that it makes.
use Rattle.std.specs.Prelude.{ℕ, ◌<◌, ◌≡◌, All, List, length, map}
use Rattle.std.specs.List.{AllZip}
use Rattle.lw_pool.specs.Numbers.{numbers}
use Rattle.lw_pool.specs.declared.id.ClassId.{ClassId}
use Rattle.lw_laws.specs.Graphs.{Graph}
use Rattle.lw_laws.specs.Covers.{Pattern}
use Rattle.lw_laws.specs.Names.{net_names}
use Rattle.lw_laws.specs.Extracts.{IsNetOf}
use Rattle.lw_laws.specs.MatchLists.{AreMatchesInOrder, IsMadeOf}
use Rattle.lw_netlist.specs.declared.gate.Port.{Port}
use Rattle.lw_netlist.specs.Plain.{plain}
use Rattle.lw_extract.specs.declared.choosing.Chosen.{Chosen}
use Rattle.lw_extract.specs.declared.ports.Cover.{Cover}
use Rattle.lw_extract.specs.declared.ports.Ports.{Ports}
use Rattle.lw_extract.specs.Choosing.{chosen_classes, plain_matches}
use Rattle.lw_extract.specs.Covers.{AreFit}

-- each of the classes is an input's or a gate's
abbrev pub HaveNetsAt : Graph → List ℕ → List ClassId → Type 0
HaveNetsAt g gates classes = All (λ (class : ClassId). (net : ℕ) × IsNetOf g gates class.0 net) classes

-- The ports fit the graph. The list has matches in order at classes of the graph, and each output's class is an input's
-- or a match's.
pub record CanAssemble (g : Graph) (pats : List Pattern) (ports : Ports) (chosen : List Chosen) : Type 0 where
  pub fit : AreFit g ports
  pub pin_counts : List ℕ
  pub matches : AreMatchesInOrder g pin_counts pats (plain_matches chosen)
  pub within : All (λ (x : Chosen). x.class.0 < length g.pairs) chosen
  pub roots : HaveNetsAt g (chosen_classes chosen) ports.roots

-- The netlist that matches make, in their order. Nets have the names of the inputs, of the first output of their class,
-- or n1, n2 and so on; the outputs are at their roots' nets.
pub record IsAssembled (g : Graph) (pats : List Pattern) (ports : Ports) (chosen : List Chosen)
    (cover : Cover) : Type 0 where
  pub classes : numbers cover.classes ≡ chosen_classes chosen
  pub made : IsMadeOf g pats (plain_matches chosen) (plain cover.netlist)
  pub model : cover.netlist.model ≡ ports.model
  pub names : cover.netlist.names ≡ net_names ports.inputs ports.outputs (numbers ports.roots) (numbers cover.classes)
  pub output_names : map (λ (port : Port). port.name) cover.netlist.outputs ≡ ports.outputs
  pub outputs : AllZip
      (λ (root : ClassId) (port : Port). IsNetOf g (numbers cover.classes) root.0 port.net.0) ports.roots
      cover.netlist.outputs
