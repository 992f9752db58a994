-- What the network that the text of a network of tables says computes, and how deep it is.
use Rattle.std.specs.Prelude.{◌+◌, ◌<◌, ℕ, ◌≤◌, ◌≡◌, Bool, List, ◌++◌, length, map, Option, Some, All, Contains}
use Rattle.std.specs.Prelude.{slice_get}
use Rattle.std.specs.List.{AllZip, IsDistinct}
use Rattle.std.specs.Str.{bytes_eq}
use Rattle.lw_pool.specs.declared.id.ClassId.{ClassId}
use Rattle.lw_pool.specs.declared.id.NetId.{NetId}
use Rattle.lw_laws.specs.Trees.{tree_value}
use Rattle.lw_laws.specs.Graphs.{Graph, Unfolds}
use Rattle.lw_laws.specs.Names.{AreDifferent}
use Rattle.lw_laws.specs.Headline.{Port, Ports}
use Rattle.lw_laws.specs.MappedNetlists.{root_classes}
use Rattle.lw_laws.specs.Modes.{Mode}
use Rattle.lw_laws.specs.Networks as laws
use Rattle.lw_laws.specs.Networks.{AreValues, IsInOrder}
use Rattle.lw_laws.specs.Signals.{sop_at, signals_of}
use Rattle.lw_net.specs.declared.draft.Draft.{Draft}
use Rattle.lw_net.specs.declared.draft.DraftNode.{DraftNode}
use Rattle.lw_net.specs.declared.node.Node.{Node}
use Rattle.lw_net.specs.Closing as closing
use Rattle.lw_net.specs.Networks.{NetworkParts, IsNodeAt, input_names, output_names}
use Rattle.lw_net.specs.Plain.{plain}
use Rattle.lw_lut.specs.declared.ports.TablePorts.{TablePorts}
use Rattle.lw_lut.specs.Covers.{TableCover, IsTableCover, tree_of, depth_of, HasLeastDepth}
use Rattle.lw_lut.specs.Nets.{PlainTableNet, net_classes}
use Rattle.lw_lut_text.specs.Said.{AreTableDepths}
use Rattle.lw_lut.specs.Searches.{depth_in}
use Rattle.lw_pool.specs.Numbers.{numbers}

-- the names of the nets: the inputs' and then the tables'
abbrev pub net_names : PlainTableNet → List (List ℕ)
net_names n = n.ports.inputs ++ n.names

-- There is a name for each net and a root for each output, the names of the nets differ and those of the outputs do,
-- and an output with the name of a net has the net's class.
pub record AreNamedApart (n : PlainTableNet) : Type 0 where
  pub one_input : length n.ports.inputs ≡ length n.inputs
  pub one_name : length n.names ≡ length n.tables
  pub one_root : length n.ports.roots ≡ length n.ports.outputs
  pub nets : AreDifferent (net_names n)
  pub outputs : AreDifferent n.ports.outputs
  pub owned : (j k : ℕ) (name : List ℕ) → slice_get (net_names n) j ≡ Some name
      → slice_get n.ports.outputs k ≡ Some name → slice_get (net_classes n) j ≡ slice_get (numbers n.ports.roots) k

-- The names of the inputs differ and those of the outputs do, and an output with the name of an input has the input's
-- class.
pub record ArePortsApart (g : Graph) (ports : TablePorts) : Type 0 where
  pub inputs : AreDifferent ports.inputs
  pub outputs : AreDifferent ports.outputs
  pub tied : (i k : ℕ) (name : List ℕ) → slice_get ports.inputs i ≡ Some name → slice_get ports.outputs k ≡ Some name
      → slice_get (numbers ports.roots) k ≡ slice_get g.leaves i

-- The ports are those of the network, and the roots are the classes of the sums of products of its outputs.
pub record ArePortsOf (width : ℕ) (from : laws.Network) (outer : Ports) (g : Graph) (ports : TablePorts) : Type 0 where
  pub inputs : ports.inputs ≡ outer.inputs
  pub outputs : ports.outputs ≡ map (λ (p : Port). p.name) outer.outputs
  pub roots : numbers ports.roots ≡ root_classes width from g outer.outputs

-- What is asked of a draft that is closed, but for the limit on the number of signals.
pub record IsDraftOfAnySize (draft : Draft) : Type 0 where
  pub signals : IsDistinct bytes_eq (closing.signals_of draft)
  pub outputs : IsDistinct bytes_eq draft.outputs
  pub columns : All
      (λ (node : DraftNode). All (λ (row : List ℕ). length row ≡ length node.fanins) node.rows) draft.nodes

-- The net stands for a cover at the class by tables of at most so many pins: under every assignment it has the value of
-- the cover's tree, and it is as deep as the cover, which is the depth of the class.
pub record IsRootAt (g : Graph) (most : ℕ) (depths : List (Option ℕ)) (net : NetworkParts) (c : ℕ)
    (s : NetId) : Type 0 where
  pub by : TableCover
  pub is_cover : IsTableCover most by
  pub unfolds : Unfolds g (tree_of by) c
  pub least : depth_in depths c ≡ Some (depth_of by)
  pub value : (x : ℕ → Bool) (values : List Bool) → AreValues (plain net) x values
      → slice_get values s.0 ≡ Some (tree_value x (tree_of by))
  pub depth : (ds : List ℕ) → AreTableDepths net ds → slice_get ds s.0 ≡ Some (depth_of by)

-- What each network keeps, but for the limit on the number of nets, and that the names of nets differ.
pub record IsNetworkOfAnySize (net : NetworkParts) : Type 0 where
  pub named : length net.names ≡ net.inputs + length net.nodes
  pub distinct : IsDistinct bytes_eq net.names
  pub nodes : (j : ℕ) (node : Node) → slice_get net.nodes j ≡ Some node → IsNodeAt net.inputs j node
  pub outputs : All (λ (s : NetId). s.0 < length net.names) net.outputs

-- It is a network in order with the ports' names, no node has more fan-ins than a table may have, the nets have depths,
-- and each output stands for a cover at the class of its root.
pub record IsTableNetwork (g : Graph) (most : ℕ) (depths : List (Option ℕ)) (ports : TablePorts)
    (net : NetworkParts) : Type 0 where
  pub kept : IsNetworkOfAnySize net
  pub ordered : IsInOrder (plain net)
  pub model : net.model ≡ ports.model
  pub inputs : input_names net ≡ ports.inputs
  pub outputs : output_names net ≡ ports.outputs
  pub few : (node : Node) → Contains net.nodes node → length node.fanins ≤ most
  pub some_depths : (ds : List ℕ) × AreTableDepths net ds
  pub one_root : length net.outputs ≡ length ports.roots
  pub each : (k : ℕ) (root : ClassId) (s : NetId) → slice_get ports.roots k ≡ Some root
      → slice_get net.outputs k ≡ Some s → IsRootAt g most depths net root.0 s

-- Net s of the network of tables has the value of net r of the network under every assignment, and its depth is the
-- least depth of any cover by tables of any tree that the rules derive for net r.
pub record HasRoot (mode : Mode) (width : ℕ) (from : laws.Network) (most : ℕ) (net : NetworkParts) (r : ℕ)
    (s : NetId) : Type 0 where
  pub value : (x : ℕ → Bool) (values mapped : List Bool) → AreValues from x values → AreValues (plain net) x mapped
      → slice_get values r ≡ slice_get mapped s.0
  pub depth : (ds : List ℕ) → AreTableDepths net ds → (d : ℕ) × (slice_get ds s.0 ≡ Some d)
      × HasLeastDepth mode width (signals_of width from) most (sop_at (signals_of width from) r) d

-- The outputs of the network of tables are those of the network, in order.
abbrev pub HaveRoots : Mode → ℕ → laws.Network → ℕ → Ports → NetworkParts → Type 0
HaveRoots mode width from most ports net =
    AllZip (λ (p : Port) (s : NetId). HasRoot mode width from most net p.net s) ports.outputs net.outputs

-- What the text of a network of tables owes to the network that it comes from: it is a network with the model, the
-- names of the inputs and outputs, no more fan-ins than tables may have, and the outputs' values and least depths.
pub record IsTableMapping (mode : Mode) (width : ℕ) (from : laws.Network) (outer : Ports) (model : List ℕ) (most : ℕ)
    (net : NetworkParts) : Type 0 where
  pub kept : IsNetworkOfAnySize net
  pub named : net.model ≡ model
  pub inputs : input_names net ≡ outer.inputs
  pub outputs : output_names net ≡ map (λ (p : Port). p.name) outer.outputs
  pub few : (node : Node) → Contains net.nodes node → length node.fanins ≤ most
  pub some_depths : (ds : List ℕ) × AreTableDepths net ds
  pub roots : HaveRoots mode width from most outer net
