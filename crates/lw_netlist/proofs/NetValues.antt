-- Values of nets.
use Rattle.std.proofs.Common.{◌≡◌, ℕ, ◌+◌, ◌<◌, Bool, false, List, length, map, get_or, slice_get, Some, sym, ap, ◌∙◌, arith}
use Rattle.std.proofs.lemmas.List.{length-map}
use Rattle.std.proofs.lemmas.Option.{slice_get_within, slice_get-get_or}
use Rattle.lw_facts.proofs.Lists.{image_at}
use Rattle.lw_laws.specs.Networks.{given}
use Rattle.lw_laws.specs.Netlists as laws
use Rattle.lw_laws.specs.Netlists.{AreNetlistValues}
use Rattle.lw_genlib.specs.Cells.{CellParts}
use Rattle.lw_netlist.specs.declared.gate.Gate.{Gate}
use Rattle.lw_netlist.specs.Netlists.{NetlistParts}
use Rattle.lw_genlib.specs.Tables.{truth_of_cells}
use Rattle.lw_netlist.specs.Plain.{plain, plain_gate}
use Rattle.lw_netlist.specs.Filling.{gate_value}
use Rattle.lw_netlist.proofs.Filling.{IsLocal}
use Rattle.lw_dag.proofs.Shared.{values_at_set}

pub values_are_local : (cells : List CellParts) → IsLocal (gate_value cells)
values_are_local cells = record { kept = λ values at v gate all. ap (truth_of_cells cells gate.cell.0) (values_at_set values at v gate.pins all) }

-- inputs that are copied, and gates that are filled in
pub filled_values : (cells : List CellParts) (n : NetlistParts) (x before values : List Bool) → length x ≡ n.inputs → length values ≡ n.inputs + length n.gates → ((i : ℕ) → i < length x → get_or values i false ≡ get_or before i false) → ((i : ℕ) → i < length x → get_or before i false ≡ get_or x i false) → ((j : ℕ) (gate : Gate) → slice_get n.gates j ≡ Some gate → get_or values (length x + j) false ≡ gate_value cells values gate) → AreNetlistValues (truth_of_cells cells) (plain n) (given x) values
filled_values cells n x before values one_x one_each kept copied gates = record {
  one_each = one_each ∙ ap (λ k. n.inputs + k) (sym (length-map n.gates plain_gate));
  inputs = λ i below.
      let within : i < length values = omega arith in
      let below_x : i < length x = omega arith in
      slice_get-get_or values i false within ∙ ap (λ b. Some b) (kept i below_x ∙ copied i below_x);
  gates = λ j gate at.
      let i = image_at plain_gate n.gates j gate at in
      let inside = slice_get_within n.gates j i.from i.at in
      let within : n.inputs + j < length values = omega arith in
      slice_get-get_or values (n.inputs + j) false within ∙ ap (λ b. Some b) (ap (λ k. get_or values (k + j) false) (sym one_x) ∙ (gates j i.from i.at ∙ ap (λ (g : laws.Gate). truth_of_cells cells g.cell (map (λ p. get_or values p false) g.pins)) i.is));
}
