-- What a look is asked, what it lets pass, and what it gives.
use Rattle.std.specs.Prelude.{ℕ, ◌≤◌, ◌≡◌, ◌⊎◌, All, Bool, true, false, Option, Some, None, List, length, map}
use Rattle.std.specs.Prelude.{slice_index_or}
use Rattle.std.specs.List.{AllZip}
use Rattle.lw_fixed.specs.declared.micro.Micro.{Micro}
use Rattle.lw_pool.specs.Numbers.{numbers}
use Rattle.lw_pool.specs.declared.id.ClassId.{ClassId}
use Rattle.lw_laws.specs.Classes.{IsGraphOf}
use Rattle.lw_laws.specs.Extracts.{IsNetOf}
use Rattle.lw_laws.specs.Headline.{Port as PlainPort, Ports as PlainPorts}
use Rattle.lw_laws.specs.InTime.{ArriveBy}
use Rattle.lw_laws.specs.Listings.{listing_of}
use Rattle.lw_laws.specs.MappedNetlists.{root_classes}
use Rattle.lw_laws.specs.MatchLists.{IsMatchNetlist}
use Rattle.lw_laws.specs.Modes.{Mode}
use Rattle.lw_laws.specs.Names.{net_names}
use Rattle.lw_laws.specs.Netlists.{AreByDepth}
use Rattle.lw_laws.specs.Networks.{Network}
use Rattle.lw_genlib.specs.Cells.{CellParts, IsSmall}
use Rattle.lw_genlib.specs.Tables.{millionths, timing_of}
use Rattle.lw_cost.specs.Least.{AreOfCells}
use Rattle.lw_netlist.specs.declared.gate.Port.{Port}
use Rattle.lw_netlist.specs.Netlists.{NetlistParts, most_gates}
use Rattle.lw_netlist.specs.Plain.{IsOver, mapped_ports, plain}
use Rattle.lw_extract.specs.declared.ports.Cover.{Cover}
use Rattle.lw_extract.specs.declared.choosing.Chosen.{Chosen}
use Rattle.lw_extract.specs.Assembling.{IsAssembled}
use Rattle.lw_extract.specs.Covers.{AreFit}
use Rattle.lw_look.specs.declared.look.Look.{Look}
use Rattle.lw_look.specs.declared.look.Looked.{Looked}
use Rattle.lw_look.specs.Areas.{area_of}
use Rattle.lw_look.specs.Lists.{IsRightList, pin_counts}

-- The ports fit the graph, the patterns are of the library's cells, and each input has a start.
pub record IsLook (l : Look) : Type 0 where
  pub fit : AreFit l.graph.now l.ports.now
  pub of_cells : AreOfCells (pin_counts l) l.pats.now
  pub one_start : length l.starts.now ≡ length l.graph.now.leaves
  pub early : All IsSmall l.starts.now

-- The netlist is one of matches over the graph, of the library's cells. Its gates stand by depth, its nets have the
-- names of the inputs, of the first output of their class, or n1, n2 and so on, and the outputs are at their roots'
-- nets.
pub record IsMatchCover (l : Look) (cover : Cover) : Type 0 where
  pub matches : IsMatchNetlist l.graph.now (pin_counts l) l.pats.now (numbers cover.classes) (plain cover.netlist)
  pub by_depth : AreByDepth (plain cover.netlist)
  pub over : IsOver l.lib.now cover.netlist
  pub few : length cover.netlist.gates ≤ most_gates
  pub model : cover.netlist.model ≡ l.ports.now.model
  pub names : cover.netlist.names ≡ net_names l.ports.now.inputs l.ports.now.outputs (numbers l.ports.now.roots)
      (numbers cover.classes)
  pub output_names : map (λ (port : Port). port.name) cover.netlist.outputs ≡ l.ports.now.outputs
  pub outputs : AllZip (λ (root : ClassId) (port : Port). IsNetOf l.graph.now (numbers cover.classes) root.0 port.net.0)
      l.ports.now.roots cover.netlist.outputs

-- the netlist is of the library's cells, as many as are dealt with, over the inputs
pub record IsFit (l : Look) (n : NetlistParts) : Type 0 where
  pub over : IsOver l.lib.now n
  pub inputs : n.inputs ≡ length l.graph.now.leaves
  pub few : length n.gates ≤ most_gates

-- each output arrives by its time
abbrev pub IsInTime : List CellParts → List Micro → List Micro → NetlistParts → Type 0
IsInTime cells starts times n = ArriveBy (timing_of cells starts) (plain n) (mapped_ports n) (map millionths times)

-- the same by arrivals at hand
abbrev pub AreEarly : List Micro → List Port → List Micro → Type 0
AreEarly arrivals outputs times =
    AllZip (λ (port : Port) (time : Micro). (slice_index_or arrivals port.net.0 (record { 0 = 0 })).0 ≤ time.0) outputs
    times

-- the gates stand by depth, take no more than this area, and bring each output by its time
pub record Fits (l : Look) (most : ℕ) (n : NetlistParts) : Type 0 where
  pub by_depth : AreByDepth (plain n)
  pub area : area_of l.lib.now n.gates ≤ most
  pub in_time : IsInTime l.lib.now l.starts.now l.times.now n

-- The list is a cover of the outputs. The netlist that it makes is a cover that is right, and fits.
pub record Passes (l : Look) (most : ℕ) (list : List Chosen) (cover : Cover) : Type 0 where
  pub right : IsRightList l list
  pub assembled : IsAssembled l.graph.now l.pats.now l.ports.now list cover
  pub covers : IsMatchCover l cover
  pub fits : Fits l most cover.netlist

-- the list is not a cover of the outputs, or the netlist that it makes does not fit
abbrev pub IsRefused : Look → ℕ → List Chosen → Type 0
IsRefused l most list =
    (IsRightList l list → ⊥) ⊎ ((cover : Cover) × IsAssembled l.graph.now l.pats.now l.ports.now list cover
    × (Fits l most cover.netlist → ⊥))

abbrev pub IsPassed : Look → ℕ → List Chosen → Option Cover → Type 0
IsPassed l most list None = IsRefused l most list
IsPassed l most list (Some cover) = Passes l most list cover

-- The cover is the first one exactly where the list is refused. Else it is that of the list, which passes with no more
-- area.
abbrev pub IsDecidedBy : Look → List Chosen → Cover → Cover → Bool → Type 0
IsDecidedBy l list first cover true = (cover ≡ first) × IsRefused l (area_of l.lib.now first.netlist.gates) list
IsDecidedBy l list first cover false = Passes l (area_of l.lib.now first.netlist.gates) list cover

abbrev pub IsDecided : Look → List Chosen → Cover → Looked → Type 0
IsDecided l list first looked = IsDecidedBy l list first looked.cover looked.refused

-- The look is at the graph of a network's forms, with the network's ports.
pub record IsOfNetwork (mode : Mode) (width : ℕ) (net : Network) (ports : PlainPorts) (l : Look) : Type 0 where
  pub graph : IsGraphOf mode net.inputs (listing_of width net) l.graph.now
  pub one_name : length ports.inputs ≡ net.inputs
  pub inputs : l.ports.now.inputs ≡ ports.inputs
  pub outputs : l.ports.now.outputs ≡ map (λ (p : PlainPort). p.name) ports.outputs
  pub roots : numbers l.ports.now.roots ≡ root_classes width net l.graph.now ports.outputs
