-- The outputs of the network that the text of a network of tables says.
use Rattle.std.proofs.Common.{◌≡◌, ◌+◌, ◌≤◌, ◌&&◌, ◌||◌, inl, inr, ℕ, suc, max, Bool, true, false, List, length, Some, Contains, slice_get, refl, sym, ap, ◌∙◌, subst, arith}
use Rattle.std.specs.Str.{bytes_eq}
use Rattle.std.proofs.lemmas.List.{length-map}
use Rattle.std.proofs.lemmas.Option.{slice_get_within, same_Some}
use Rattle.lw_laws.specs.Graphs.{Graph}
use Rattle.lw_laws.proofs.Lists.{slice_get_some}
use Rattle.lw_pool.specs.declared.id.ClassId.{ClassId}
use Rattle.lw_pool.specs.declared.id.NetId.{NetId}
use Rattle.lw_net.specs.declared.draft.DraftNode.{DraftNode}
use Rattle.lw_net.specs.declared.node.Node.{Node}
use Rattle.lw_net.specs.Closing.{IsClosed, net_in}
use Rattle.lw_net.specs.Networks.{NetworkParts}
use Rattle.std.proofs.lemmas.List.Elements.{Contains-append_cases}
use Rattle.lw_facts.proofs.Lists.{bytes_eq_is, contains_map, contained_in_map, contained_at, at_contained}
use Rattle.lw_lut.specs.Choosing.{IsTable}
use Rattle.lw_lut.specs.Covers.{depth_of, IsLeastDepth}
use Rattle.lw_lut.specs.Depths.{DepthLists, AreLeastDepths}
use Rattle.lw_lut_text.specs.Meaning.{AreNamedApart, IsRootAt, IsTableNetwork}
use Rattle.lw_lut.specs.Nets.{PlainTableNet, IsTableNet, net_classes, table_classes}
use Rattle.lw_lut_text.specs.Said.{draft_said}
use Rattle.lw_lut.specs.Searches.{depth_in}
use Rattle.lw_lut.specs.Texts.{net_name}
use Rattle.lw_lut.specs.declared.table.Table.{Table}
use Rattle.lw_lut_text.proofs.ClosedNames as closing
use Rattle.lw_lut.proofs.Descent.{leaf_depth}
use Rattle.lw_lut_text.proofs.SaidCloses.{said_depths, said_draft}
use Rattle.lw_lut_text.proofs.SaidNodes.{IsWire, IsTables, node_cases, wire_node, wire_in}
use Rattle.lw_lut_text.proofs.SaidSignals.{said_distinct}
use Rattle.lw_lut_text.proofs.TableCovers.{IsNamedCover, covered}
use Rattle.lw_pool.specs.Numbers.{numbers}

module _ (g : Graph) (most : ℕ) (lists : DepthLists) (least : AreLeastDepths g most lists) (n : PlainTableNet) (apart : AreNamedApart n) (kept : IsTableNet n) (leaves : numbers n.inputs ≡ g.leaves) (tables_are : (t : Table) → Contains n.tables t → IsTable g most lists.depths t) where
  -- the class of each net has a depth
  pub net_depth : (c : ℕ) → Contains (net_classes n) c → (e : ℕ) × (depth_in lists.depths c ≡ Some e)
  net_depth c among = elim (Contains-append_cases (numbers n.inputs) (table_classes n.tables) c among) [
    | inl input ↦ let (i, at) = contained_at (numbers n.inputs) c input in (0, leaf_depth g most lists least c (i, subst (λ cs. slice_get cs i ≡ Some c) leaves at))
    | inr out ↦ let (t, k, s) = contained_in_map (λ (t : Table). t.out.0) n.tables c out in let is = tables_are t k in (suc is.depth, ap (depth_in lists.depths) (sym s) ∙ is.depth_is)
  ]

  -- The name stands for a cover at the class, of its least depth.
  abbrev IsLeastNamed : List ℕ → ℕ → Type 0
  IsLeastNamed name c = (e : ℕ) × (k : IsNamedCover g most n name c e) × (depth_in lists.depths c ≡ Some (depth_of k.by))

  net_least : (c : ℕ) → Contains (net_classes n) c → IsLeastNamed (net_name n c) c
  net_least c among =
      let (e, at) = net_depth c among in
      let k = covered g most lists.depths n apart kept leaves tables_are (suc e) c e among at (omega arith) in
      let le = (subst (λ o. IsLeastDepth g most c o) at (least.least c)).1 k.by k.is_cover k.unfolds in
      let low = k.low in
      (e, k, at ∙ ap Some (omega (arith, le, low)))

  -- a wire passes on what its net stands for
  wire_least : (k : ℕ) (output : List ℕ) (root : ClassId) → slice_get n.ports.outputs k ≡ Some output → slice_get n.ports.roots k ≡ Some root → bytes_eq (net_name n root.0) output ≡ false → IsLeastNamed (net_name n root.0) root.0 → IsLeastNamed output root.0
  wire_least k output root at rt ne (e, c, deep) = (
    e,
    record {
      by = c.by;
      is_cover = c.is_cover;
      unfolds = c.unfolds;
      low = c.low;
      value = λ x value are. are.nodes (wire_node n output root) (wire_in n k output root at rt ne) ∙ (passed (value (net_name n root.0)) ∙ c.value x value are);
      depth = λ depth are. are.nodes (wire_node n output root) (wire_in n k output root at rt ne) ∙ (only (depth (net_name n root.0)) ∙ c.depth depth are);
    },
    deep,
  )
    where
      passed : (b : Bool) → ((b && true) || false) ≡ b
      passed true = refl
      passed false = refl

      only : (d : ℕ) → 0 + max d 0 ≡ d
      only d = omega arith

  output_least : (k : ℕ) (output : List ℕ) (root : ClassId) → slice_get n.ports.outputs k ≡ Some output → slice_get n.ports.roots k ≡ Some root → IsLeastNamed output root.0
  output_least k output root at rt = by_test (bytes_eq (net_name n root.0) output) refl (net_least root.0 (kept.roots root.0 (contains_map (λ (r : ClassId). r.0) n.ports.roots root (at_contained n.ports.roots k root rt))))
    where
      by_test : (b : Bool) → bytes_eq (net_name n root.0) output ≡ b → IsLeastNamed (net_name n root.0) root.0 → IsLeastNamed output root.0
      by_test true e h = subst (λ name. IsLeastNamed name root.0) (bytes_eq_is (net_name n root.0) output e) h
      by_test false e h = wire_least k output root at rt e h

  module _ (net : NetworkParts) (closed : IsClosed (draft_said n) net) where
    root_at : (k : ℕ) (root : ClassId) (s : NetId) → slice_get n.ports.roots k ≡ Some root → slice_get net.outputs k ≡ Some s → IsRootAt g most lists.depths net root.0 s
    root_at k root s rt st =
        let below = slice_get_within n.ports.roots k root rt in
        let one = apart.one_root in
        let (output, at) = slice_get_some n.ports.outputs k (omega (arith, below, one)) in
        let distinct = said_distinct n apart kept in
        let named : net_in (closing.names (draft_said n) distinct net closed) output ≡ s = same_Some (net_in (closing.names (draft_said n) distinct net closed) output) s (sym (closing.output_net (draft_said n) distinct net closed k output at) ∙ st) in
        let signal = closing.output_known (draft_said n) distinct net closed k output at in
        let (e, c, deep) = output_least k output root at rt in
        subst (λ z. IsRootAt g most lists.depths net root.0 z) named (record {
          by = c.by;
          is_cover = c.is_cover;
          unfolds = c.unfolds;
          least = deep;
          value = λ x values right.
              closing.signal_value (draft_said n) distinct net closed x values right output signal
              ∙ ap Some (c.value x (closing.value_of (draft_said n) distinct net closed x values right) (record { inputs = closing.input_value (draft_said n) distinct net closed x values right; nodes = closing.node_value_is (draft_said n) distinct net closed x values right }));
          depth = λ ds right.
              closing.signal_depth (draft_said n) distinct net closed ds right output signal
              ∙ ap Some (c.depth (closing.depth_at (draft_said n) distinct net closed ds right) (record { inputs = closing.input_depth (draft_said n) distinct net closed ds right; nodes = closing.node_depth_is (draft_said n) distinct net closed ds right }));
        })

    few_fanins : 1 ≤ most → (node : Node) → Contains net.nodes node → length node.fanins ≤ most
    few_fanins wide node among =
        let distinct = said_distinct n apart kept in
        let (from, k, e) = closing.node_from (draft_said n) distinct net closed node among in
        let names = closing.names (draft_said n) distinct net closed in
        let low : length from.fanins ≤ most = elim (node_cases n from k) [ inl t ↦ of_table from t | inr w ↦ of_wire from w ] in
        subst (λ (m : Node). length m.fanins ≤ most) e (let l = length-map from.fanins (net_in names) in omega (arith, l, low))
      where
        of_table : (from : DraftNode) → IsTables n from → length from.fanins ≤ most
        of_table from t =
            let few = (tables_are t.by t.among).few in
            let l = length-map t.by.fanins (λ (q : ClassId). net_name n q.0) in
            subst (λ (d : DraftNode). length d.fanins ≤ most) t.is (omega (arith, few, l))

        of_wire : (from : DraftNode) → IsWire n n.ports.outputs n.ports.roots from → length from.fanins ≤ most
        of_wire from w = subst (λ (d : DraftNode). length d.fanins ≤ most) w.is (omega (arith, wide))

    pub said_network : 1 ≤ most → IsTableNetwork g most lists.depths n.ports net
    said_network wide = record {
      kept = closing.closed_kept (draft_said n) (said_distinct n apart kept) net closed (said_draft n apart kept).columns;
      model = ap (λ (m : NetworkParts). m.model) closed.network;
      inputs = closing.closed_inputs (draft_said n) (said_distinct n apart kept) net closed;
      outputs = closing.closed_outputs (draft_said n) (said_distinct n apart kept) net closed;
      ordered = closing.closed_in_order (draft_said n) (said_distinct n apart kept) net closed;
      few = few_fanins wide;
      some_depths = said_depths g most lists.depths n apart kept tables_are net closed;
      one_root =
          let l = ap (λ (m : NetworkParts). length m.outputs) closed.network in
          let m = length-map n.ports.outputs (net_in (closing.names (draft_said n) (said_distinct n apart kept) net closed)) in
          let one = apart.one_root in
          omega (arith, l, m, one);
      each = root_at;
    }
