-- A trade of a problem: its netlist of least area by a deadline, and what that is made from.
use Rattle.std.specs.Prelude.{All, ℕ, ◌^◌, ◌<◌, ◌≡◌, List, Option, map, length}
use Rattle.lw_pool.specs.declared.id.ClassId.{ClassId}
use Rattle.lw_fixed.specs.declared.micro.Micro.{Micro}
use Rattle.lw_genlib.specs.Cells.{CellParts}
use Rattle.lw_blif.specs.declared.parsed.Parsed.{Parsed}
use Rattle.lw_cost.specs.declared.mark.Mark.{Mark}
use Rattle.lw_netlist.specs.Netlists.{NetlistParts}
use Rattle.lw_backtrace.specs.declared.targets.Targets.{Targets}
use Rattle.lw_map.specs.declared.fault.MapFault.{MapFault}
use Rattle.lw_map.specs.declared.problem.Problem.{Problem}
use Rattle.lw_map.specs.Faults.{IsTradeFault}
use Rattle.lw_map.specs.Mapped.{IsWithinLimits}
use Rattle.lw_map.specs.Options.{Options, plain_options}
use Rattle.lw_map.specs.Ports.{ArePortsOf}
use Rattle.lw_map.specs.Trading.{AreEarliest, HaveLabelsTo, IsTradeable, IsTradedNetlist, micros, put_off}

-- there are no more outputs than are numbered, and a mark for the class of each
pub record CanBeRead (p : Problem) (marks : List (Option Mark)) : Type 0 where
  pub few : length p.choices.now.roots < 2 ^ 32
  pub in_range : All (λ (root : ClassId). root.0 < length marks) p.choices.now.roots

-- the labels of the outputs' classes
abbrev pub HaveLabels : Problem → List (Option Mark) → List Micro → Type 0
HaveLabels p marks labels = HaveLabelsTo marks p.choices.now.roots (length p.choices.now.roots) labels

-- the least time of each output of the network
abbrev pub AreTimes : Problem → List ℕ → Type 0
AreTimes p times = AreEarliest (plain_options p.choices.now.options) p.lib.now p.net.now p.starts.now times

-- each output of the network has a least time
abbrev pub HasTimes : Problem → Type 0
HasTimes p = (times : List ℕ) × AreTimes p times

-- the least time of each output, none of which is cut
pub record AreLeastTimes (p : Problem) (times : List Micro) : Type 0 where
  pub earliest : AreTimes p (micros times)
  pub low : All (λ (time : Micro). time.0 < 9223372036854775808) times

-- the ports of the network, whose outputs arrive by these times, or the deadline where that is later
pub record AreTargets (p : Problem) (deadline : Micro) (least : List Micro) (t : Targets) : Type 0 where
  pub ports : ArePortsOf p.net.now p.choices.now
      (record { model = t.model; inputs = t.inputs; outputs = t.outputs; roots = t.roots })
  pub times : t.times ≡ map (put_off deadline) least

-- a netlist of least area by the deadline, which is traded for where each output has a cover and there are no more
-- points than are dealt with
pub record IsTrade (p : Problem) (deadline : Option Micro) (n : NetlistParts) : Type 0 where
  pub netlist : IsTradedNetlist (plain_options p.choices.now.options) p.lib.now p.net.now p.starts.now deadline n
  pub tradeable : IsTradeable (plain_options p.choices.now.options) p.lib.now p.net.now p.starts.now deadline

-- why there is none
abbrev pub IsFault : Problem → Option Micro → MapFault → Type 0
IsFault p deadline fault = IsTradeFault p.lib.now p.net.now p.starts.now p.choices.now deadline fault

-- what a model comes to by the deadline: a netlist of least area, which is traded for within the limits
pub record IsTraded (deadline : Option Micro) (options : Options) (cells : List CellParts) (model : Parsed)
    (n : NetlistParts) : Type 0 where
  pub within : IsWithinLimits options model.network
  pub netlist : IsTradedNetlist options cells model.network model.starts deadline n
  pub tradeable : IsTradeable options cells model.network model.starts deadline
