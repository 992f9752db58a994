-- The draft that the text of a network of tables says can be closed.
use Rattle.std.proofs.Common.{◌≡◌, ◌^◌, ◌<◌, ◌==◌, ◌&&◌, inl, inr, ℕ, zero, suc, Bool, true, false, not, unwrap_or, List, [], ◌∷◌, ◌++◌, length, map, codes, Option, Contains, All, slice_index_or, if◌then◌else◌, refl, sym, ap, ◌∙◌, subst, arith}
use Rattle.std.specs.List.{AllByRecursion}
use Rattle.std.proofs.lemmas.Bool.{and_parts}
use Rattle.std.proofs.lemmas.Bool.Decides.{nat_tests}
use Rattle.std.proofs.lemmas.List.{length-map}
use Rattle.std.proofs.lemmas.List.Elements.{All-from_recursion, Contains-append_right}
use Rattle.std.proofs.lemmas.Option.{get_or_from_slice_get, slice_get_within}
use Rattle.lw_lut.proofs.Pieces.{binary_long}
use Rattle.lw_facts.proofs.Lists.{contained_in_map, contains_map, at_contained, distinct_of}
use Rattle.lw_dag.specs.Names.{is_among, number_in}
use Rattle.lw_dag.specs.Ordering.{greatest}
use Rattle.lw_dag.proofs.Numbering.{number_at, among_contains}
use Rattle.lw_laws.specs.Graphs.{Graph}
use Rattle.lw_laws.proofs.Lists.{contains_all}
use Rattle.lw_pool.specs.declared.id.ClassId.{ClassId}
use Rattle.lw_net.specs.declared.draft.DraftNode.{DraftNode}
use Rattle.lw_net.specs.Closing.{IsClosed, out_of}
use Rattle.lw_net.specs.Networks.{NetworkParts}
use Rattle.lw_lut.specs.Choosing.{IsTable}
use Rattle.lw_lut.specs.Cuts.{is_set}
use Rattle.lw_lut_text.specs.Meaning.{AreNamedApart, IsDraftOfAnySize, net_names}
use Rattle.lw_lut.specs.Nets.{PlainTableNet, IsTableNet, net_classes, table_classes}
use Rattle.lw_lut_text.specs.Said.{AreTableDepths, columns_from, draft_said, table_node}
use Rattle.lw_lut.specs.Searches.{depth_in}
use Rattle.lw_lut.specs.Texts.{binary, fanin_names, is_buffer, net_name}
use Rattle.lw_lut.specs.declared.table.Table.{Table}
use Rattle.lw_lut_text.proofs.ClosedNames.{some_depths}
use Rattle.lw_lut_text.proofs.TableValues.{said_wire}
use Rattle.lw_lut_text.proofs.Falling.{closes, weighed, weighed_input, weighed_node}
use Rattle.lw_lut_text.proofs.NetNames.{net_place}
use Rattle.lw_lut_text.proofs.SaidNodes.{IsWire, IsTables, node_cases}
use Rattle.lw_lut_text.proofs.SaidSignals.{contains_among, said_distinct, said_defined, single_name, wire_apart}
use Rattle.lw_lut_text.proofs.TableCovers.{greatest_above}
use Rattle.lw_pool.specs.Numbers.{numbers}

abbrev Name : Type 0
Name = List ℕ

module _ (g : Graph) (most : ℕ) (depths : List (Option ℕ)) (n : PlainTableNet) (apart : AreNamedApart n) (kept : IsTableNet n) (tables_are : (t : Table) → Contains n.tables t → IsTable g most depths t) where
  -- the depth of a class, as a number
  abbrev deep : ℕ → ℕ
  deep c = unwrap_or (depth_in depths c) 0

  abbrev beyond : ℕ
  beyond = suc (greatest (map deep (net_classes n)))

  -- the depth of the class whose net has the name, or a number beyond all these
  abbrev rank : Name → ℕ
  rank name = if is_among (net_names n) name then deep (slice_index_or (net_classes n) (number_in (net_names n) name) 0) else beyond

  net_rank : (c : ℕ) → Contains (net_classes n) c → rank (net_name n c) ≡ deep c
  net_rank c among =
      let (i, at, named) = net_place n apart c among in
      let number : number_in (net_names n) (net_name n c) ≡ i = ap (number_in (net_names n)) (sym (get_or_from_slice_get (net_names n) i (net_name n c) [] named)) ∙ number_at (net_names n) i [] (distinct_of (net_names n) apart.nets) (slice_get_within (net_names n) i (net_name n c) named) in
      ap (λ b. if b then deep (slice_index_or (net_classes n) (number_in (net_names n) (net_name n c)) 0) else beyond) (contains_among (net_names n) (net_name n c) (at_contained (net_names n) i (net_name n c) named))
      ∙ ap deep (ap (λ k. slice_index_or (net_classes n) k 0) number ∙ get_or_from_slice_get (net_classes n) i c 0 at)

  wire_rank : (node : DraftNode) → IsWire n n.ports.outputs n.ports.roots node → rank node.out ≡ beyond
  wire_rank node w = by_test (is_among (net_names n) node.out) refl
    where
      by_test : (b : Bool) → is_among (net_names n) node.out ≡ b → (if b then deep (slice_index_or (net_classes n) (number_in (net_names n) node.out) 0) else beyond) ≡ beyond
      by_test true e = absurd (wire_apart n apart kept node w (among_contains (net_names n) node.out e))
      by_test false e = refl

  lower : (node : DraftNode) (name : Name) → Contains (draft_said n).nodes node → Contains node.fanins name → rank name < rank node.out
  lower node name among c = elim (node_cases n node among) [ inl t ↦ of_table t | inr w ↦ of_wire w ]
    where
      of_table : IsTables n node → rank name < rank node.out
      of_table t =
          let is = tables_are t.by t.among in
          let (q, k, e) = contained_in_map (λ (q : ClassId). net_name n q.0) t.by.fanins name (subst (λ (d : DraftNode). Contains d.fanins name) (sym t.is) c) in
          let (f, known, less) = is.below q k in
          let own : Contains (net_classes n) t.by.out.0 = out_class t.by t.among in
          let high : rank node.out ≡ suc is.depth = ap rank (sym (ap out_of t.is)) ∙ (net_rank t.by.out.0 own ∙ ap (λ o. unwrap_or o 0) is.depth_is) in
          let low : rank name ≡ f = ap rank (sym e) ∙ (net_rank q.0 (kept.fanins t.by q.0 t.among (contains_map (λ (r : ClassId). r.0) t.by.fanins q k)) ∙ ap (λ o. unwrap_or o 0) known) in
          omega (arith, high, low, less)
        where
          out_class : (u : Table) → Contains n.tables u → Contains (net_classes n) u.out.0
          out_class u k = Contains-append_right (numbers n.inputs) (table_classes n.tables) u.out.0 (contains_map (λ (t : Table). t.out.0) n.tables u k)

      of_wire : IsWire n n.ports.outputs n.ports.roots node → rank name < rank node.out
      of_wire w =
          let only : Contains (net_name n w.root.0 ∷ []) name = subst (λ (d : DraftNode). Contains d.fanins name) (sym w.is) c in
          let root : Contains (net_classes n) w.root.0 = kept.roots w.root.0 (contains_map (λ (r : ClassId). r.0) n.ports.roots w.root (at_contained n.ports.roots w.place w.root w.root_at)) in
          let low : rank name ≡ deep w.root.0 = ap rank (sym (single_name (net_name n w.root.0) name only)) ∙ net_rank w.root.0 root in
          let high = wire_rank node w in
          let within = greatest_above deep (net_classes n) w.root.0 root in
          omega (arith, low, high, within)

  pub said_closes : (net : NetworkParts) × IsClosed (draft_said n) net
  said_closes = closes (draft_said n) (said_distinct n apart kept) rank lower (said_defined n apart kept)

  abbrev weight : DraftNode → ℕ
  weight node = if said_wire node then 0 else 1

  pub said_depths : (net : NetworkParts) → IsClosed (draft_said n) net → (ds : List ℕ) × AreTableDepths net ds
  said_depths net closed =
      let distinct = said_distinct n apart kept in
      some_depths (draft_said n) distinct net closed (weighed (draft_said n) distinct weight rank lower) (weighed_input (draft_said n) distinct weight rank lower) (weighed_node (draft_said n) distinct weight rank lower)

-- rows have a column for each fan-in

columns_long : (t : Table) (place count : ℕ) → AllByRecursion (λ (row : List ℕ). length row ≡ length t.fanins) (columns_from t place count)
columns_long t place zero = tt
columns_long t place (suc count) = by_test (is_set t.bits place) (columns_long t (suc place) count)
  where
    by_test : (b : Bool) → AllByRecursion (λ (row : List ℕ). length row ≡ length t.fanins) (columns_from t (suc place) count) → AllByRecursion (λ (row : List ℕ). length row ≡ length t.fanins) ((if b then binary (length t.fanins) place ∷ [] else []) ++ columns_from t (suc place) count)
    by_test true rest = (binary_long (length t.fanins) place, rest)
    by_test false rest = rest

module _ (n : PlainTableNet) where
  abbrev HasColumns : DraftNode → Type 0
  HasColumns node = All (λ (row : List ℕ). length row ≡ length node.fanins) node.rows

  table_columns : (t : Table) → HasColumns (table_node n t)
  table_columns t = by_test (is_buffer t) refl
    where
      l : length (fanin_names n t) ≡ length t.fanins
      l = length-map t.fanins (λ (q : ClassId). net_name n q.0)

      by_test : (b : Bool) → is_buffer t ≡ b → All (λ (row : List ℕ). length row ≡ length (fanin_names n t)) (if b then codes "0" ∷ [] else columns_from t 0 (2 ^ length t.fanins))
      by_test true e =
          let single : length t.fanins ≡ 1 = let s = (and_parts (length t.fanins == 1) (not (is_set t.bits 0) && is_set t.bits 1) e).0 in grind (arith, nat_tests, s) in
          All-from_recursion (λ (row : List ℕ). length row ≡ length (fanin_names n t)) (codes "0" ∷ []) (sym (l ∙ single), tt)
      by_test false e = All-from_recursion (λ (row : List ℕ). length row ≡ length (fanin_names n t)) (columns_from t 0 (2 ^ length t.fanins)) (subst (λ m. AllByRecursion (λ (row : List ℕ). length row ≡ m) (columns_from t 0 (2 ^ length t.fanins))) (sym l) (columns_long t 0 (2 ^ length t.fanins)))

  node_columns : (node : DraftNode) → Contains (draft_said n).nodes node → HasColumns node
  node_columns node among = elim (node_cases n node among) [
    | inl t ↦ subst HasColumns t.is (table_columns t.by)
    | inr w ↦ subst HasColumns w.is (All-from_recursion (λ (row : List ℕ). length row ≡ 1) (codes "1" ∷ []) (refl, tt))
  ]

  pub said_draft : AreNamedApart n → IsTableNet n → IsDraftOfAnySize (draft_said n)
  said_draft apart kept = record {
    signals = said_distinct n apart kept;
    outputs = distinct_of n.ports.outputs apart.outputs;
    columns = All-from_recursion HasColumns (draft_said n).nodes (contains_all HasColumns (draft_said n).nodes node_columns);
  }
