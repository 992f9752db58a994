-- Values of nets, filled in one node after another.
use Rattle.std.proofs.Common.{◌≡◌, ◌≢◌, ℕ, ◌+◌, ◌<◌, ◌⊎◌, inl, inr, Bool, true, false, not, ◌&&◌, cond, List, [], ◌∷◌, length, map, drop, get_or, set, slice_get, All, Option, Some, None, refl, sym, ap, ap₂, ◌∙◌, arith, eqb, get_or-set_same, get_or-set_other}
use Rattle.std.proofs.lemmas.List.{drop_more, get_or-map, length-map}
use Rattle.std.proofs.lemmas.List.Elements.{All-weaker}
use Rattle.std.proofs.lemmas.Option.{same_Some, slice_get_within, slice_get-get_or}
use Rattle.std.proofs.lemmas.Bool.{cases_eq}
use Rattle.std.specs.List.{list_any}
use Rattle.lw_facts.proofs.Lists.{image_at}
use Rattle.lw_laws.specs.Networks.{row_value, node_value, agrees, AreValues, given}
use Rattle.lw_pool.specs.declared.id.NetId.{NetId}
use Rattle.lw_net.specs.declared.node.Node.{Node}
use Rattle.lw_net.specs.Networks.{IsNodeAt, NetworkParts}
use Rattle.lw_net.specs.Plain.{plain, plain_node}
use Rattle.lw_net.specs.Signs.{asked, met_by}
use Rattle.lw_pool.specs.Numbers.{net_number, values_at}
use Rattle.lw_dag.proofs.Shared.{values_at_set}

-- one column of a row, by the tests of its sign
column_at : (one off : Bool) (v : Bool) (vs : List Bool) (row : List (Option Bool)) → row_value (v ∷ vs) (cond one (Some true) (cond off (Some false) None) ∷ row) ≡ (cond one v (cond off (not v) true) && row_value vs row)
column_at true off v vs row = refl
column_at false true v vs row = refl
column_at false false v vs row = refl

-- a row from one column on
pub row_value-drop : (vs : List Bool) (signs : List ℕ) (i : ℕ) → i < length vs → i < length signs → row_value (drop i vs) (drop i (map asked signs)) ≡ (met_by (get_or signs i 0) (get_or vs i false) && row_value (drop (i + 1) vs) (drop (i + 1) (map asked signs)))
row_value-drop vs signs i in_vs in_signs =
    let row = map asked signs in
    let in_row : i < length row = simp length-map in_signs in
    ap₂ row_value (drop_more vs i false in_vs) (drop_more row i None in_row ∙ ap (λ c. c ∷ drop (i + 1) row) (get_or-map asked signs i 0 None in_signs))
    ∙ column_at (eqb (get_or signs i 0) 49) (eqb (get_or signs i 0) 48) (get_or vs i false) (drop (i + 1) vs) (drop (i + 1) row)

-- the same, by what the column's test gave
pub row_step : (nets : List Bool) (fanins : List NetId) (signs : List ℕ) (i : ℕ) (met : Bool) → length signs ≡ length fanins → i < length signs → met ≡ met_by (get_or signs i 0) (get_or nets (get_or fanins i (record { 0 = 0 })).0 false) → row_value (drop i (values_at nets fanins)) (drop i (map asked signs)) ≡ (met && row_value (drop (i + 1) (values_at nets fanins)) (drop (i + 1) (map asked signs)))
row_step nets fanins signs i met same_length below is =
    let numbers = map net_number fanins in
    let one : length numbers ≡ length fanins = length-map fanins net_number in
    let all : length (values_at nets fanins) ≡ length numbers = length-map numbers (λ net. get_or nets net false) in
    let in_numbers : i < length numbers = omega arith in
    let in_values : i < length (values_at nets fanins) = omega arith in
    let in_fanins : i < length fanins = omega arith in
    let value = get_or-map (λ net. get_or nets net false) numbers i 0 false in_numbers ∙ ap (λ net. get_or nets net false) (get_or-map net_number fanins i (record { 0 = 0 }) 0 in_fanins) in
    row_value-drop (values_at nets fanins) signs i in_values below
    ∙ ap (λ b. b && row_value (drop (i + 1) (values_at nets fanins)) (drop (i + 1) (map asked signs))) (ap (met_by (get_or signs i 0)) value ∙ sym is)

pub node_value-set : (values : List Bool) (at : ℕ) (v : Bool) (node : Node) → All (λ (net : NetId). net.0 < at) node.fanins → node_value (set values at v) (plain_node node) ≡ node_value values (plain_node node)
node_value-set values at v node all = ap (λ vs. agrees node.on (list_any (row_value vs) (map (map asked) node.rows))) (values_at_set values at v node.fanins all)

-- the nets of the first n nodes have their values
pub record IsFilled (nodes : List Node) (first n : ℕ) (values : List Bool) : Type 0 where
  pub each : (j : ℕ) (node : Node) → j < n → slice_get nodes j ≡ Some node → get_or values (first + j) false ≡ node_value values (plain_node node)

abbrev pub AreNodes : List Node → ℕ → Type 0
AreNodes nodes first = (j : ℕ) (node : Node) → slice_get nodes j ≡ Some node → IsNodeAt first j node

-- one more net
pub IsFilled-more : (nodes : List Node) (first n : ℕ) (values : List Bool) (v : Bool) (node : Node) → AreNodes nodes first → first + n < length values → slice_get nodes n ≡ Some node → v ≡ node_value values (plain_node node) → IsFilled nodes first n values → IsFilled nodes first (n + 1) (set values (first + n) v)
IsFilled-more nodes first n values v node facts within here is filled = record { each = λ j other below at. at_node j other below at (cases_eq j n) }
  where
    at_node : (j : ℕ) (other : Node) → j < n + 1 → slice_get nodes j ≡ Some other → (j ≡ n) ⊎ (j ≡ n → ⊥) → get_or (set values (first + n) v) (first + j) false ≡ node_value (set values (first + n) v) (plain_node other)
    at_node j other below at (inl same) =
        let same_node : node ≡ other = same_Some node other (sym here ∙ (ap (λ k. slice_get nodes k) (sym same) ∙ at)) in
        let kept = node_value-set values (first + n) v node (facts n node here).before in
        ap (λ k. get_or (set values (first + n) v) (first + k) false) same ∙ (get_or-set_same values (first + n) v false within ∙ (is ∙ (sym kept ∙ ap (λ (m : Node). node_value (set values (first + n) v) (plain_node m)) same_node)))
    at_node j other below at (inr differs) =
        let lower : j < n = omega arith in
        let apart : first + j ≢ first + n = omega arith in
        let before = All-weaker (λ (net : NetId). net.0 < first + j) (λ (net : NetId). net.0 < first + n) (λ net lt. omega arith) other.fanins (facts j other at).before in
        get_or-set_other values (first + n) (first + j) v false apart ∙ (filled.each j other lower at ∙ sym (node_value-set values (first + n) v other before))

-- inputs that are copied, and nodes that are filled in
pub filled_values : (net : NetworkParts) (x before values : List Bool) → length x ≡ net.inputs → length values ≡ net.inputs + length net.nodes → ((i : ℕ) → i < length x → get_or values i false ≡ get_or before i false) → ((i : ℕ) → i < length x → get_or before i false ≡ get_or x i false) → ((j : ℕ) (node : Node) → slice_get net.nodes j ≡ Some node → get_or values (length x + j) false ≡ node_value values (plain_node node)) → AreValues (plain net) (given x) values
filled_values net x before values one_x one_each kept copied nodes = record {
  one_each = one_each ∙ ap (λ n. net.inputs + n) (sym (length-map net.nodes plain_node));
  inputs = λ i below.
      let within : i < length values = omega arith in
      let below_x : i < length x = omega arith in
      slice_get-get_or values i false within ∙ ap (λ b. Some b) (kept i below_x ∙ copied i below_x);
  nodes = λ j node at.
      let i = image_at plain_node net.nodes j node at in
      let inside = slice_get_within net.nodes j i.from i.at in
      let within : net.inputs + j < length values = omega arith in
      slice_get-get_or values (net.inputs + j) false within ∙ ap (λ b. Some b) (ap (λ n. get_or values (n + j) false) (sym one_x) ∙ (nodes j i.from i.at ∙ ap (node_value values) i.is));
}
