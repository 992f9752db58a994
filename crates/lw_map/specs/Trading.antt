-- The netlist of least area under a deadline that a network comes to.
use Rattle.std.specs.Prelude.{ℕ, ◌+◌, ◌^◌, ◌<◌, ◌≤◌, ◌≡◌, ◌⊎◌, Contains, max, Bool, List, [], ◌∷◌, map, length}
use Rattle.std.specs.Prelude.{Option, Some, None, slice_get, slice_index_or}
use Rattle.std.specs.List.{AllZip, IsDistinct}
use Rattle.std.specs.Str.{bytes_eq}
use Rattle.lw_pool.specs.declared.id.ClassId.{ClassId}
use Rattle.lw_pool.specs.declared.id.NetId.{NetId}
use Rattle.lw_fixed.specs.declared.micro.Micro.{Micro}
use Rattle.lw_laws.specs.Networks.{AreValues}
use Rattle.lw_laws.specs.Listings.{listing_of}
use Rattle.lw_laws.specs.Covers.{Cover, time_of}
use Rattle.lw_laws.specs.Costs.{cost_of}
use Rattle.lw_laws.specs.Graphs.{Graph}
use Rattle.lw_laws.specs.Classes.{IsGraphOf}
use Rattle.lw_laws.specs.Headline.{HasLeastArrival}
use Rattle.lw_laws.specs.MappedNetlists.{AreNetNames}
use Rattle.lw_laws.specs.Names.{numbered_name}
use Rattle.lw_laws.specs.Netlists.{Gate, IsGate, AreByDepth, AreArrivals, AreNetCosts, AreNetlistValues, StandsFor}
use Rattle.lw_net.specs.Networks.{NetworkParts, input_names, output_names}
use Rattle.lw_net.specs.Plain.{plain}
use Rattle.lw_genlib.specs.Cells.{CellParts}
use Rattle.lw_genlib.specs.Tables.{timing_of, truth_of_cells}
use Rattle.lw_pattern.specs.Libraries.{library_patterns}
use Rattle.lw_netlist.specs.Netlists.{NetlistParts, IsNetlist}
use Rattle.lw_netlist.specs.Plain as netlist
use Rattle.lw_choices.specs.Areas.{area_cost}
use Rattle.lw_choices.specs.Tasks.{task}
use Rattle.lw_curves.specs.Points.{AreTooMany}
use Rattle.lw_trade.specs.Traded.{IsNeeded, output_nets}
use Rattle.lw_cost.specs.declared.mark.Mark.{Mark}
use Rattle.lw_extract.specs.declared.fault.ExtractFault.{ExtractFault}
use Rattle.lw_extract.specs.declared.fault.ExtractFault.TheVariants.{NoCover, Memory}
use Rattle.lw_extract.specs.Covers.{IsFirstUncovered}
use Rattle.lw_map.specs.Options.{Options}
use Rattle.lw_map.specs.Mapped.{IsCoverOf, IsWithinLimits}
use Rattle.lw_net.specs.Ports.{ports_of}
use Rattle.lw_netlist.specs.Plain.{mapped_ports}

-- the time is no later than the deadline, or than the least one where that is later; without a deadline each time will
-- do
abbrev pub IsInTime : Option Micro → ℕ → ℕ → Type 0
IsInTime None least time = Unit {0}
IsInTime (Some deadline) least time = time ≤ max deadline.0 least

-- The net of a netlist stands for such a cover of the network's net, whose time is the arrival and whose area, in which
-- each use of a shared part counts, is this one. It is in time, and of all such covers that are in time none has less
-- area.
pub record HasLeastArea (options : Options) (cells : List CellParts) (net : NetworkParts) (starts : List Micro)
    (deadline : Option Micro) (n : NetlistParts) (s k arrival area : ℕ) : Type 0 where
  pub earliest : ℕ
  pub is_earliest : HasLeastArrival options.mode options.width (plain net) (library_patterns cells)
      (timing_of cells starts) s earliest
  pub by : Cover
  pub is_cover : IsCoverOf options cells net s by
  pub stands : StandsFor (netlist.plain n) by k
  pub time_is : time_of (timing_of cells starts) by ≡ arrival
  pub area_is : cost_of (area_cost cells) by ≡ area
  pub in_time : IsInTime deadline earliest arrival
  pub least : (other : Cover) → IsCoverOf options cells net s other
      → IsInTime deadline earliest (time_of (timing_of cells starts) other) → area ≤ cost_of (area_cost cells) other

-- A netlist of the library's cells with the network's model, inputs and outputs by name. It computes each output for
-- all values of the inputs, and each output has the least area of all covers of all trees that the rules derive for it,
-- of those that are in time. Each gate is needed for an output, and the gates stand by depth. The names of its nets
-- differ, and an output's net owns its name, where the names of the network's nets, inputs and outputs differ, as those
-- of each network do that is read.
pub record IsTradedNetlist (options : Options) (cells : List CellParts) (net : NetworkParts) (starts : List Micro)
    (deadline : Option Micro) (n : NetlistParts) : Type 0 where
  pub kept : IsNetlist n
  pub over : netlist.IsOver cells n
  pub model_name : n.model ≡ net.model
  pub inputs : n.inputs ≡ net.inputs
  pub inputs_named : (mapped_ports n).inputs ≡ (ports_of net).inputs
  pub outputs_named : AllZip (λ p q. p.name ≡ q.name) (ports_of net).outputs (mapped_ports n).outputs
  pub values : (x : ℕ → Bool) (vs ws : List Bool) → AreValues (plain net) x vs
      → AreNetlistValues (truth_of_cells cells) (netlist.plain n) x ws
      → AllZip (λ p q. slice_get vs p.net ≡ slice_get ws q.net) (ports_of net).outputs (mapped_ports n).outputs
  pub outputs : (ds areas : List ℕ) → AreArrivals (timing_of cells starts) (netlist.plain n) ds
      → AreNetCosts (area_cost cells) (netlist.plain n) areas
      → AllZip (λ p q. HasLeastArea options cells net starts deadline n p.net q.net (slice_index_or ds q.net 0)
      (slice_index_or areas q.net 0)) (ports_of net).outputs (mapped_ports n).outputs
  pub names : IsDistinct bytes_eq net.names → IsDistinct bytes_eq (input_names net)
      → IsDistinct bytes_eq (output_names net) → AreNetNames (netlist.plain n) n.names (mapped_ports n)
  pub own_names : (name : List ℕ) → Contains n.names name
      → Contains (input_names net) name
      ⊎ (Contains (output_names net) name ⊎ ((k : ℕ) × (k < 2 ^ 64) × (name ≡ numbered_name k)))
  pub by_depth : AreByDepth (netlist.plain n)
  pub needed : (j : ℕ) (g : Gate) → IsGate (netlist.plain n) j g
      → IsNeeded (output_nets n) (netlist.plain n) (n.inputs + j)

-- Limits.

-- the least time of each output
abbrev pub AreEarliest : Options → List CellParts → NetworkParts → List Micro → List ℕ → Type 0
AreEarliest options cells net starts times =
    AllZip (λ (output : NetId) (d : ℕ). HasLeastArrival options.mode options.width (plain net) (library_patterns cells)
    (timing_of cells starts) output.0 d) net.outputs times

abbrev pub micros : List Micro → List ℕ
micros times = map (λ (time : Micro). time.0) times

-- the time, or the deadline where that is later
abbrev pub put_off : Micro → Micro → Micro
put_off deadline time = record { 0 = max time.0 deadline.0 }

-- the labels of the first of these classes
pub record HaveLabelsTo (marks : List (Option Mark)) (roots : List ClassId) (k : ℕ) (labels : List Micro) : Type 0 where
  pub count : length labels ≡ k
  pub each : (i : ℕ) (c : ClassId) → i < k → slice_get roots i ≡ Some c
      → (m : Mark) × (slice_index_or marks c.0 None ≡ Some m) × (slice_get labels i ≡ Some (record { 0 = m.cost }))

-- the first of these classes that has no label
abbrev pub LacksLabel : List (Option Mark) → List ClassId → ExtractFault → Type 0
LacksLabel marks roots (NoCover k) = IsFirstUncovered marks roots k
LacksLabel marks roots Memory = Unit {0}

-- the greatest of some times, and at least the first
abbrev pub latest_of : ℕ → List ℕ → ℕ
latest_of deadline [] = deadline
latest_of deadline (time ∷ times) = max time (latest_of deadline times)

-- Each output has a cover, and up to the latest of the deadline and of their least times all classes of the graph of
-- the network's forms have more points together than are dealt with.
pub record HasTooManyPoints (options : Options) (cells : List CellParts) (net : NetworkParts) (starts : List Micro)
    (deadline : Micro) : Type 0 where
  pub within : IsWithinLimits options net
  pub times : List ℕ
  pub earliest : AreEarliest options cells net starts times
  pub graph : Graph
  pub is_graph : IsGraphOf options.mode net.inputs (listing_of options.width (plain net)) graph
  pub many : AreTooMany (task graph (library_patterns cells) cells starts) (latest_of deadline.0 times)

-- without a deadline no points are counted
abbrev pub HasFewPoints : Options → List CellParts → NetworkParts → List Micro → Option Micro → Type 0
HasFewPoints options cells net starts None = Unit {0}
HasFewPoints options cells net starts (Some deadline) = HasTooManyPoints options cells net starts deadline → ⊥

-- each output has a cover, and there are no more points than are dealt with
pub record IsTradeable (options : Options) (cells : List CellParts) (net : NetworkParts) (starts : List Micro)
    (deadline : Option Micro) : Type 0 where
  pub times : List ℕ
  pub earliest : AreEarliest options cells net starts times
  pub few : HasFewPoints options cells net starts deadline
