-- A network in order has one right assignment, and its nets' sums of products have those values.
use Rattle.std.proofs.Common.{ℕ, zero, suc, ◌+◌, ◌<◌, ◌≡◌, Bool, false, Contains, List, [], ◌∷◌, ◌++◌, length, map, get_or, max, refl, ap, ap₂, sym, ◌∙◌, subst, arith}
use Rattle.std.specs.List.{list_any}
use Rattle.lw_laws.specs.Networks.{Node, Network, agrees, row_value, node_value, AreValues, IsInOrder, greatest_depth, AreDepths}
use Rattle.lw_laws.specs.Forms.{form_value}
use Rattle.lw_laws.specs.Signals.{signals_of}
use Rattle.lw_laws.proofs.Filling.{AreLocal, filled, Fills, filled_fills, fills_once}
use Rattle.lw_laws.proofs.NetlistValues.{some_fills}
use Rattle.lw_laws.proofs.FormTruth.{sops_have_values}
use Rattle.lw_laws.proofs.Words.{input_values, values_after, net_values}

-- lists that agree at each of the places give one list of entries
pub entries_agree : {A : Type 0} (d : A) (k : ℕ) (xs ys : List A) → ((i : ℕ) → i < k → get_or xs i d ≡ get_or ys i d) → (places : List ℕ) → ((s : ℕ) → Contains places s → s < k) → map (λ s. get_or xs s d) places ≡ map (λ s. get_or ys s d) places
entries_agree d k xs ys agree [] low = refl
entries_agree d k xs ys agree (s ∷ places) low =
    ap₂ (λ v vs. v ∷ vs) (agree s (low s (0, omega arith, refl))) (entries_agree d k xs ys agree places (λ t (i, lt, e). low t (suc i, omega arith, e)))

module _ (net : Network) (order : IsInOrder net) where
  values_local : AreLocal false (λ node values. node_value values node) net.inputs net.nodes
  values_local j node e xs ys agree =
      ap (λ vs. agrees node.on (list_any (row_value vs) node.rows)) (entries_agree false (net.inputs + j) xs ys agree node.fanins (λ s c. order.before j s node e c))

  values_filled : (x : ℕ → Bool) (values : List Bool) → AreValues net x values → Fills false (λ node vs. node_value vs node) x net.inputs net.nodes values
  values_filled x values are = record { one_each = are.one_each; inputs = are.inputs; nodes = are.nodes }

  -- there is one right assignment at most
  pub values_once : (x : ℕ → Bool) (vs ws : List Bool) → AreValues net x vs → AreValues net x ws → vs ≡ ws
  values_once x vs ws are also = fills_once false (λ node vs. node_value vs node) x net.inputs net.nodes values_local vs ws (values_filled x vs are) (values_filled x ws also)

  length_inputs : (x : ℕ → Bool) (i n : ℕ) → length (input_values x i n) ≡ n
  length_inputs x i zero = refl
  length_inputs x i (suc n) = ap suc (length_inputs x (i + 1) n)

  inputs_at : (x : ℕ → Bool) (i n k : ℕ) → k < n → get_or (input_values x i n) k false ≡ x (i + k)
  inputs_at x i zero k lt = absurd (omega arith)
  inputs_at x i (suc n) zero lt = ap x (omega arith)
  inputs_at x i (suc n) (suc k) lt = let e : (i + 1) + k ≡ i + suc k = omega arith in inputs_at x (i + 1) n k (omega arith) ∙ ap x e

  after_filled : (values : List Bool) (nodes : List Node) → values_after values nodes ≡ filled false (λ node vs. node_value vs node) values nodes
  after_filled values [] = refl
  after_filled values (node ∷ nodes) = after_filled (values ++ node_value values node ∷ []) nodes

  -- the values computed in order are right
  pub net_values_are : (x : ℕ → Bool) → AreValues net x (net_values x net)
  net_values_are x =
      let first = input_values x 0 net.inputs in
      let len = length_inputs x 0 net.inputs in
      let fills = filled_fills false (λ node vs. node_value vs node) x first net.nodes (λ i lt. inputs_at x 0 net.inputs i (omega arith) ∙ ap x (omega arith)) (subst (λ k. AreLocal false (λ node vs. node_value vs node) k net.nodes) (sym len) values_local) in
      let moved = subst (λ k. Fills false (λ node vs. node_value vs node) x k net.nodes (filled false (λ node vs. node_value vs node) first net.nodes)) len fills in
      let f = subst (λ vs. Fills false (λ node vs. node_value vs node) x net.inputs net.nodes vs) (sym (after_filled first net.nodes)) moved in
      record { one_each = f.one_each; inputs = f.inputs; nodes = f.nodes }

  -- the sums of products of the nets have the values of a right assignment
  pub sops_are_values : (x : ℕ → Bool) (width : ℕ) (values : List Bool) → AreValues net x values → map (λ s. form_value x s.sop) (signals_of width net) ≡ values
  sops_are_values x width values are = sops_have_values x width net ∙ values_once x (net_values x net) values (net_values_are x) are

  greatest_agree : (k : ℕ) (xs ys : List ℕ) → ((i : ℕ) → i < k → get_or xs i 0 ≡ get_or ys i 0) → (places : List ℕ) → ((s : ℕ) → Contains places s → s < k) → greatest_depth xs places ≡ greatest_depth ys places
  greatest_agree k xs ys agree [] low = refl
  greatest_agree k xs ys agree (s ∷ places) low =
      ap₂ max (agree s (low s (0, omega arith, refl))) (greatest_agree k xs ys agree places (λ t (i, lt, e). low t (suc i, omega arith, e)))

  abbrev depth_step : Node → List ℕ → ℕ
  depth_step node depths = 1 + greatest_depth depths node.fanins

  depths_local : AreLocal 0 depth_step net.inputs net.nodes
  depths_local j node e xs ys agree = ap (λ d. 1 + d) (greatest_agree (net.inputs + j) xs ys agree node.fanins (λ s c. order.before j s node e c))

  depths_fill : (depths : List ℕ) → AreDepths net depths → Fills 0 depth_step (λ i. 0) net.inputs net.nodes depths
  depths_fill depths are = record { one_each = are.one_each; inputs = are.inputs; nodes = are.nodes }

  pub depths_once : (ds es : List ℕ) → AreDepths net ds → AreDepths net es → ds ≡ es
  depths_once ds es are also = fills_once 0 depth_step (λ i. 0) net.inputs net.nodes depths_local ds es (depths_fill ds are) (depths_fill es also)

  pub some_depths : (ds : List ℕ) × AreDepths net ds
  some_depths =
      let (ds, f) = some_fills 0 depth_step (λ i. 0) net.inputs net.nodes depths_local in
      (ds, record { one_each = f.one_each; inputs = f.inputs; nodes = f.nodes })
