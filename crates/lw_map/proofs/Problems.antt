-- A problem can be mapped by time and by area, what the mapping by time is, and what a problem is made from.
use Rattle.std.proofs.Common.{ℕ, ◌≡◌, ◌≤◌, List, Option, Result, Ok, Err, IfOk, length, refl, subst}
use Rattle.std.specs.Prelude.{IfErr}
use Rattle.lw_fixed.specs.declared.micro.Micro.{Micro}
use Rattle.lw_net.specs.Networks.{NetworkParts}
use Rattle.lw_genlib.specs.Cells.{CellParts}
use Rattle.lw_blif.specs.declared.parsed.Parsed.{Parsed}
use Rattle.lw_laws.specs.Graphs.{most_classes}
use Rattle.lw_laws.specs.Costs.{Cost}
use Rattle.lw_cost.specs.declared.mark.Mark.{Mark}
use Rattle.lw_label.specs.Delays.{time_cost}
use Rattle.lw_cost.specs.Labels.{AreLeastMarks}
use Rattle.lw_netlist.specs.Netlists.{NetlistParts, IsNetlist}
use Rattle.lw_netlist.specs.Plain.{IsOver}
use Rattle.lw_choices.specs.Areas.{area_cost}
use Rattle.lw_extract.specs.declared.fault.ExtractFault.{ExtractFault}
use Rattle.lw_extract.specs.declared.fault.ExtractFault.TheVariants.{NoCover, Memory}
use Rattle.lw_map.specs.declared.covering.Mapping.{Mapping}
use Rattle.lw_map.specs.declared.labelling.Labeller.{Labeller}
use Rattle.lw_map.specs.declared.problem.Problem.{Problem}
use Rattle.lw_map.specs.declared.choices.Choices.{Choices}
use Rattle.lw_map.specs.declared.fault.MapFault.{MapFault}
use Rattle.lw_map.specs.Options.{plain_options}
use Rattle.lw_map.specs.Choices.{AreChoicesOf}
use Rattle.lw_map.specs.Faults.{IsCoverFault, IsTradeFault}
use Rattle.lw_map.specs.Mappings.{IsMappingOf}
use Rattle.lw_map.specs.Covering.{CanBeMapped, IsFastest, IsLack, IsMappedBy, LacksLeastLabel, cover_in}
use Rattle.lw_map.specs.Trades.{HasTimes, IsFault, IsTrade, IsTraded}
use Rattle.lw_map.specs.Problems.{IsProblem, IsProblemOf}
use Rattle.lw_map.specs.Trading.{IsTradeable, IsTradedNetlist, LacksLabel}
use Rattle.lw_map.proofs.AnyTime.{leaves_free, none_lacks}
use Rattle.lw_map.proofs.CellLaws.{delay_patterns}
use Rattle.lw_map.proofs.Composed.{leaves_least, cover_maps, gates_few}
use Rattle.lw_map.proofs.Earliest.{ports_for, are_ports}

-- what least labels lack, they lack as some least labels
pub lack_least : (cost : Cost) (p : Problem) (marks : List (Option Mark)) → AreLeastMarks p.choices.now.graph cost p.pats marks → (fault : ExtractFault) → LacksLabel marks p.choices.now.roots fault → LacksLeastLabel cost p fault
lack_least cost p marks least (NoCover k) is = (marks, least, is)
lack_least cost p marks least Memory is = tt

module _ (p : Problem) (is : IsProblem p) where
  pub mappable_by_time : CanBeMapped (time_cost p.lib.now p.starts.now) p
  mappable_by_time = record {
    chosen = is.chosen;
    outputs = is.outputs;
    counts = refl;
    of_cells = is.of_cells;
    leaves = leaves_least p.net.now p.starts.now p.choices.now is.chosen p.lib.now p.pats is.patterns (delay_patterns p.lib.now is.library);
  }

  pub mappable_by_area : CanBeMapped (area_cost p.lib.now) p
  mappable_by_area = record {
    chosen = is.chosen;
    outputs = is.outputs;
    counts = refl;
    of_cells = is.of_cells;
    leaves = λ i k at. leaves_free p.choices.now p.lib.now p.pats i k at;
  }

  -- where each output has a cover, no output lacks a label by area
  pub never_lacks : HasTimes p → (fault : ExtractFault) (k : ℕ) → fault ≡ NoCover k → LacksLeastLabel (area_cost p.lib.now) p fault → ⊥
  never_lacks (times, earliest) fault k same lacks =
      let (marks, least, first) = subst (LacksLeastLabel (area_cost p.lib.now) p) same lacks in
      none_lacks p.net.now p.starts.now p.choices.now p.lib.now is.network is.chosen marks (subst (λ ps. AreLeastMarks p.choices.now.graph (area_cost p.lib.now) ps marks) is.patterns least)
      (ports_for p.net.now p.choices.now) (are_ports p.net.now p.choices.now) times earliest k first

  pub fastest_is : (labeller : Labeller) (m : Mapping) → IsNetlist m.netlist → IsMappedBy labeller (time_cost p.lib.now p.starts.now) p m → IsFastest labeller p m
  fastest_is labeller m kept by =
      let (ports, named, extracted) = by.cover.extracted in
      record {
        mapping = cover_maps p.net.now p.starts.now p.choices.now ports is.network is.chosen named p.lib.now p.pats m.labels is.patterns by.least labeller m.steps by.steps_are (cover_in m) kept extracted;
        over = by.cover.over;
        few = gates_few p.net.now p.starts.now p.choices.now ports is.network is.chosen named p.lib.now p.pats m.labels is.patterns by.least (cover_in m) extracted;
      }

-- What a problem comes to, what it was made from comes to.
module _ (cells : List CellParts) (net : NetworkParts) (starts : List Micro) (c : Choices) (p : Problem) (of : IsProblemOf cells net starts c p) where
  -- what holds of the parts holds of what they were made from
  of_parts : (P : List CellParts → NetworkParts → List Micro → Choices → Type 0) → P p.lib.now p.net.now p.starts.now p.choices.now → P cells net starts c
  of_parts P is =
      subst (λ (x : List CellParts). P x net starts c) of.lib
      (subst (λ (x : NetworkParts). P p.lib.now x starts c) of.network
      (subst (λ (x : List Micro). P p.lib.now p.net.now x c) of.starts_are
      (subst (λ (x : Choices). P p.lib.now p.net.now p.starts.now x) of.choices is)))

  pub fastest_for : (labeller : Labeller) (r : Result Mapping MapFault) → IfOk r (IsFastest labeller p) → IfOk r (IsMappingOf labeller cells net starts c)
  fastest_for labeller (Ok m) is = of_parts (λ a b s d. IsMappingOf labeller a b s d m) is.mapping
  fastest_for labeller (Err e) is = tt

  pub over_for : (labeller : Labeller) (r : Result Mapping MapFault) → IfOk r (IsFastest labeller p) → IfOk r (λ m. IsOver cells m.netlist)
  over_for labeller (Ok m) is = of_parts (λ a b s d. IsOver a m.netlist) is.over
  over_for labeller (Err e) is = tt

  pub few_for : (labeller : Labeller) (r : Result Mapping MapFault) → IfOk r (IsFastest labeller p) → IfOk r (λ m. length m.netlist.gates ≤ most_classes)
  few_for labeller (Ok m) is = is.few
  few_for labeller (Err e) is = tt

  pub lack_for : (r : Result Mapping MapFault) → IfErr r (IsLack p) → IfErr r (IsCoverFault cells net starts c)
  lack_for (Ok m) is = tt
  lack_for (Err e) is = of_parts (λ a b s d. IsCoverFault a b s d e) is

  pub trade_for : (deadline : Option Micro) (r : Result NetlistParts MapFault) → IfErr r (IsFault p deadline) → IfErr r (IsTradeFault cells net starts c deadline)
  trade_for deadline (Ok n) is = tt
  trade_for deadline (Err e) is = of_parts (λ a b s d. IsTradeFault a b s d deadline e) is

module _ (cells : List CellParts) (model : Parsed) (c : Choices) (p : Problem) (of : IsProblemOf cells model.network model.starts c p) (are : AreChoicesOf model.network c) where
  pub traded_for : (deadline : Option Micro) (r : Result NetlistParts MapFault) → IfOk r (IsTrade p deadline) → IfOk r (IsTraded deadline (plain_options c.options) cells model)
  traded_for deadline (Ok n) is = record {
    within = are.within;
    netlist = of_parts cells model.network model.starts c p of (λ a b s d. IsTradedNetlist (plain_options d.options) a b s deadline n) is.netlist;
    tradeable = of_parts cells model.network model.starts c p of (λ a b s d. IsTradeable (plain_options d.options) a b s deadline) is.tradeable;
  }
  traded_for deadline (Err e) is = tt
