-- The names of outputs, side by side.
use Rattle.std.proofs.Common.{ℕ, ◌<◌, ◌≡◌, Bool, true, false, not, bytes_eq, List, [], length, map, Some, slice_get, slice_index_or, get_or, ap, sym, ◌∙◌, arith}
use Rattle.std.proofs.lemmas.Bool.Decides.{Decides-not}
use Rattle.std.proofs.lemmas.Option.{same_Some, slice_get-get_or, get_or_from_slice_get}
use Rattle.std.proofs.lemmas.Slice.Eq.{bytes_eq-Decides}
use Rattle.std.proofs.lemmas.Bool.{not-false}
use Rattle.lw_pool.specs.declared.id.NetId.{NetId}
use Rattle.lw_net.specs.Networks.{NetworkParts, name_in}
use Rattle.lw_netlist.specs.declared.gate.Port.{Port}
use Rattle.lw_check.proofs.Places.{map_at}
use Rattle.lw_netlist.specs.Plain.{port_name}

-- what a test for other bytes tells
pub differ : (a b : List ℕ) (t : Bool) → t ≡ not (bytes_eq a b) → t ≡ true → a ≡ b → ⊥
differ a b t is e = (Decides-not (bytes_eq a b) (bytes_eq-Decides a b)).0 (sym is ∙ e)

pub agree : (a b : List ℕ) (t : Bool) → t ≡ not (bytes_eq a b) → t ≡ false → a ≡ b
agree a b t is e = (bytes_eq-Decides a b).0 (not-false (bytes_eq a b) (sym is ∙ e))

module _ (ports : List Port) (net : NetworkParts) (outputs : List NetId) (k : ℕ) where
  port_at : (port : Port) → k < length ports → port ≡ slice_index_or ports k port → slice_get (map port_name ports) k ≡ Some port.name
  port_at port lt is = map_at port_name ports k port (slice_get-get_or ports k port lt ∙ ap Some (sym is))

  name_at : (d : NetId) (names : List (List ℕ)) (name : List ℕ) → k < length outputs → names ≡ net.names → (get_or outputs k d).0 < length net.names → name ≡ slice_index_or names (get_or outputs k d).0 name → slice_get (map (name_in net) outputs) k ≡ Some name
  name_at d names name lt same low is =
      let o = get_or outputs k d in
      let here : slice_get net.names o.0 ≡ Some name = slice_get-get_or net.names o.0 name low ∙ ap Some (ap (λ (xs : List (List ℕ)). slice_index_or xs o.0 name) (sym same) ∙ sym is) in
      map_at (name_in net) outputs k o (slice_get-get_or outputs k d lt) ∙ ap Some (get_or_from_slice_get net.names o.0 name [] here)

  module _ (port : Port) (d : NetId) (names : List (List ℕ)) (name : List ℕ) (lt : k < length ports) (beside : length ports ≡ length outputs) (port_is : port ≡ slice_index_or ports k port) (same : names ≡ net.names) (low : (get_or outputs k d).0 < length net.names) (name_is : name ≡ slice_index_or names (get_or outputs k d).0 name) where
    -- equal names are of equal entries
    pub names_here : port.name ≡ name → slice_get (map port_name ports) k ≡ slice_get (map (name_in net) outputs) k
    names_here e = port_at port lt port_is ∙ (ap Some e ∙ sym (name_at d names name (omega arith) same low name_is))

    pub names_differ : map port_name ports ≡ map (name_in net) outputs → port.name ≡ name
    names_differ e = same_Some port.name name (sym (port_at port lt port_is) ∙ (ap (λ (xs : List (List ℕ)). slice_get xs k) e ∙ name_at d names name (omega arith) same low name_is))
