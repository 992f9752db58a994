-- When the outputs of a first cover arrive, and what a look for a smaller one asks.
use Rattle.std.proofs.Common.{◌≡◌, ◌∙◌, ℕ, zero, suc, List, [], ◌∷◌, map, length, slice_index_or, refl, ap, ap₂, sym}
use Rattle.lw_fixed.specs.declared.micro.Micro.{Micro}
use Rattle.lw_laws.specs.Headline.{Port as PlainPort}
use Rattle.lw_laws.specs.Netlists.{AreArrivals}
use Rattle.lw_laws.proofs.NetlistValues.{arrivals_once}
use Rattle.lw_genlib.specs.Tables.{millionths, timing_of}
use Rattle.lw_netlist.specs.declared.gate.Port.{Port}
use Rattle.lw_netlist.specs.Plain as netlist
use Rattle.lw_netlist.specs.Plain.{mapped_ports, plain_port}
use Rattle.lw_extract.specs.declared.ports.Cover.{Cover}
use Rattle.lw_area.specs.declared.recovering.Case.{Case}
use Rattle.lw_area.specs.Cases.{AreFirstTimes, IsCase, IsFirst, time_at}
use Rattle.lw_area.proofs.Cases.{first_maps}

read : (arrivals : List Micro) (net : ℕ) → (slice_index_or arrivals net (record { 0 = 0 })).0 ≡ slice_index_or (map millionths arrivals) net 0
read [] net = refl
read (d ∷ arrivals) zero = refl
read (d ∷ arrivals) (suc net) = read arrivals net

plain_times : (arrivals : List Micro) (outputs : List Port) → map millionths (map (time_at arrivals) outputs) ≡ map (λ (q : PlainPort). slice_index_or (map millionths arrivals) q.net 0) (map plain_port outputs)
plain_times arrivals [] = refl
plain_times arrivals (port ∷ outputs) = ap₂ (λ (t : ℕ) (ts : List ℕ). t ∷ ts) (read arrivals port.net.0) (plain_times arrivals outputs)

module _ (k : Case) (is : IsCase k) (first : Cover) (f : IsFirst k first) where
  -- each input has a start
  pub one_start : length k.model.now.starts ≡ first.netlist.inputs
  one_start = is.model.starts.one_each ∙ sym (first_maps k is is.joined first f).covering.inputs

  -- and is one of the graph's
  pub one_leaf : first.netlist.inputs ≡ length k.joined.now.choices.graph.leaves
  one_leaf = (first_maps k is is.joined first f).covering.inputs ∙ sym is.joined.graph.written.leaf_count

  -- the netlist's nets arrive at no other times
  pub first_times : (arrivals times : List Micro) → AreArrivals (timing_of k.library.now k.model.now.starts) (netlist.plain first.netlist) (map millionths arrivals) → times ≡ map (time_at arrivals) first.netlist.outputs → AreFirstTimes k first times
  first_times arrivals times are same = λ ds arrive.
      let once : map millionths arrivals ≡ ds = arrivals_once (netlist.plain first.netlist) (first_maps k is is.joined first f).covering.ordered (timing_of k.library.now k.model.now.starts) (map millionths arrivals) ds are arrive in
      ap (map millionths) same
      ∙ (plain_times arrivals first.netlist.outputs ∙ ap (λ (xs : List ℕ). map (λ (q : PlainPort). slice_index_or xs q.net 0) (mapped_ports first.netlist).outputs) once)
