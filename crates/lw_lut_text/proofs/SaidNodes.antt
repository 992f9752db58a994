-- The nodes of the draft that the text of a network of tables says.
use Rattle.std.proofs.Common.{◌≡◌, ◌⊎◌, inl, inr, ℕ, zero, suc, Bool, true, false, List, [], ◌∷◌, ◌++◌, map, codes, Some, Contains, slice_get, if◌then◌else◌, refl, ap, ◌∙◌, arith}
use Rattle.std.proofs.lemmas.Option.{same_Some}
use Rattle.std.specs.Str.{bytes_eq}
use Rattle.std.proofs.lemmas.List.Elements.{Contains-append_cases, Contains-append_left, Contains-append_right}
use Rattle.lw_facts.proofs.Lists.{contains_map, contained_in_map}
use Rattle.lw_pool.specs.declared.id.ClassId.{ClassId}
use Rattle.lw_net.specs.declared.draft.DraftNode.{DraftNode}
use Rattle.lw_lut.specs.Nets.{PlainTableNet}
use Rattle.lw_lut.specs.Texts.{net_name}
use Rattle.lw_lut_text.specs.Said.{table_node, wire_nodes, draft_said}
use Rattle.lw_lut.specs.declared.table.Table.{Table}

abbrev pub wire_node : PlainTableNet → List ℕ → ClassId → DraftNode
wire_node n output root = record { out = output; fanins = net_name n root.0 ∷ []; rows = codes "1" ∷ []; on = true }

-- the node of a wire to an output from the net of its root, which has another name
pub record IsWire (n : PlainTableNet) (outputs : List (List ℕ)) (roots : List ClassId) (node : DraftNode) : Type 0 where
  pub place : ℕ
  pub output : List ℕ
  pub root : ClassId
  pub output_at : slice_get outputs place ≡ Some output
  pub root_at : slice_get roots place ≡ Some root
  pub other : bytes_eq (net_name n root.0) output ≡ false
  pub is : wire_node n output root ≡ node

-- the node of a table
pub record IsTables (n : PlainTableNet) (node : DraftNode) : Type 0 where
  pub by : Table
  pub among : Contains n.tables by
  pub is : table_node n by ≡ node

module _ (n : PlainTableNet) where
  pub wire_of : (outputs : List (List ℕ)) (roots : List ClassId) (node : DraftNode) → Contains (wire_nodes n outputs roots) node → IsWire n outputs roots node
  wire_of [] roots node (k, lt, e) = absurd (omega (arith, lt))
  wire_of (output ∷ outputs) [] node (k, lt, e) = absurd (omega (arith, lt))
  wire_of (output ∷ outputs) (root ∷ roots) node among = by_test (bytes_eq (net_name n root.0) output) refl among (wire_of outputs roots node)
    where
      more : IsWire n outputs roots node → IsWire n (output ∷ outputs) (root ∷ roots) node
      more w = record { place = suc w.place; output = w.output; root = w.root; output_at = w.output_at; root_at = w.root_at; other = w.other; is = w.is }

      by_test : (b : Bool) → bytes_eq (net_name n root.0) output ≡ b → Contains ((if b then [] else wire_node n output root ∷ []) ++ wire_nodes n outputs roots) node → (Contains (wire_nodes n outputs roots) node → IsWire n outputs roots node) → IsWire n (output ∷ outputs) (root ∷ roots) node
      by_test true e c rest = more (rest c)
      by_test false e (zero, lt, same) rest = record { place = zero; output = output; root = root; output_at = refl; root_at = refl; other = e; is = same }
      by_test false e (suc k, lt, same) rest = more (rest (k, omega (arith, lt), same))

  pub wire_there : (outputs : List (List ℕ)) (roots : List ClassId) (k : ℕ) (output : List ℕ) (root : ClassId) → slice_get outputs k ≡ Some output → slice_get roots k ≡ Some root → bytes_eq (net_name n root.0) output ≡ false → Contains (wire_nodes n outputs roots) (wire_node n output root)
  wire_there [] roots k output root at rt ne = cc
  wire_there (o ∷ outputs) [] k output root at rt ne = cc
  wire_there (o ∷ outputs) (r ∷ roots) zero output root at rt ne =
      let s : o ≡ output = same_Some o output at in
      let t : r ≡ root = same_Some r root rt in
      by_test (bytes_eq (net_name n r.0) o) (ap (λ (c : ClassId). bytes_eq (net_name n c.0) o) t ∙ (ap (bytes_eq (net_name n root.0)) s ∙ ne)) (ap (λ x. wire_node n x r) s ∙ ap (wire_node n output) t)
    where
      by_test : (b : Bool) → b ≡ false → wire_node n o r ≡ wire_node n output root → Contains ((if b then [] else wire_node n o r ∷ []) ++ wire_nodes n outputs roots) (wire_node n output root)
      by_test true e same = cc
      by_test false e same = (zero, omega arith, same)
  wire_there (o ∷ outputs) (r ∷ roots) (suc k) output root at rt ne = Contains-append_right (if bytes_eq (net_name n r.0) o then [] else wire_node n o r ∷ []) (wire_nodes n outputs roots) (wire_node n output root) (wire_there outputs roots k output root at rt ne)

  pub node_cases : (node : DraftNode) → Contains (draft_said n).nodes node → IsTables n node ⊎ IsWire n n.ports.outputs n.ports.roots node
  node_cases node among = elim (Contains-append_cases (map (table_node n) n.tables) (wire_nodes n n.ports.outputs n.ports.roots) node among) [
    | inl c ↦ let (t, k, e) = contained_in_map (table_node n) n.tables node c in inl (record { by = t; among = k; is = e })
    | inr c ↦ inr (wire_of n.ports.outputs n.ports.roots node c)
  ]

  pub table_in : (t : Table) → Contains n.tables t → Contains (draft_said n).nodes (table_node n t)
  table_in t c = Contains-append_left (map (table_node n) n.tables) (wire_nodes n n.ports.outputs n.ports.roots) (table_node n t) (contains_map (table_node n) n.tables t c)

  pub wire_in : (k : ℕ) (output : List ℕ) (root : ClassId) → slice_get n.ports.outputs k ≡ Some output → slice_get n.ports.roots k ≡ Some root → bytes_eq (net_name n root.0) output ≡ false → Contains (draft_said n).nodes (wire_node n output root)
  wire_in k output root at rt ne = Contains-append_right (map (table_node n) n.tables) (wire_nodes n n.ports.outputs n.ports.roots) (wire_node n output root) (wire_there n.ports.outputs n.ports.roots k output root at rt ne)
