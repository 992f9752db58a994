-- The signals of the draft that the text of a network of tables says differ, and each fan-in and each output is one.
use Rattle.std.proofs.Common.{◌≡◌, inl, inr, ℕ, zero, suc, Bool, true, false, not, ◌||◌, cond, List, [], ◌∷◌, ◌++◌, length, map, Some, None, Contains, slice_get, if◌then◌else◌, refl, sym, ap, ap₂, ◌∙◌, subst, arith, append_assoc}
use Rattle.std.specs.List.{IsDistinct, AllByRecursion, flat_map}
use Rattle.std.specs.Str.{bytes_eq}
use Rattle.std.proofs.lemmas.List.{length-map, map-append}
use Rattle.std.proofs.lemmas.List.Elements.{Contains-append_cases, Contains-append_left, Contains-append_right}
use Rattle.std.proofs.lemmas.Option.{slice_get_within, same_Some}
use Rattle.lw_facts.proofs.Lists.{bytes_eq_is, bytes_eq_same, contains_map, contained_in_map, contained_at, at_contained, distinct_of, bytes_differ}
use Rattle.lw_dag.specs.Names.{is_among, unknown_in}
use Rattle.lw_laws.proofs.Lists.{all_append, contains_all, slice_get_some}
use Rattle.lw_laws.proofs.Numbers.{slice_get_map, slice_get_map_back}
use Rattle.lw_pool.specs.declared.id.ClassId.{ClassId}
use Rattle.lw_net.specs.declared.draft.DraftNode.{DraftNode}
use Rattle.lw_net.specs.Closing.{signals_of, out_of, fanins_of, first_undefined}
use Rattle.lw_lut_text.specs.Meaning.{AreNamedApart, net_names}
use Rattle.lw_lut.specs.Nets.{PlainTableNet, IsTableNet, net_classes}
use Rattle.lw_lut.specs.Texts.{net_name}
use Rattle.lw_lut_text.specs.Said.{draft_said, table_node, wire_nodes}
use Rattle.lw_lut_text.proofs.NetNames.{net_place, net_named, table_named}
use Rattle.lw_lut_text.proofs.SaidNodes.{IsWire, IsTables, wire_of, wire_in, node_cases, wire_node}

abbrev Name : Type 0
Name = List ℕ

-- the one name of a list
pub single_name : (x name : Name) → Contains (x ∷ []) name → x ≡ name
single_name x name (zero, lt, e) = e
single_name x name (suc k, lt, e) = absurd (omega (arith, lt))

distinct_join : (xs ys : List Name) → IsDistinct bytes_eq xs → IsDistinct bytes_eq ys → ((name : Name) → Contains xs name → Contains ys name → ⊥) → IsDistinct bytes_eq (xs ++ ys)
unfolding IsDistinct
distinct_join [] ys a b apart = b
distinct_join (x ∷ xs) ys a b apart = (
  all_append (λ y. bytes_eq x y ≡ false) xs ys a.0 (contains_all (λ y. bytes_eq x y ≡ false) ys (λ y c. bytes_differ x y (λ e. apart x (0, omega arith, refl) (subst (Contains ys) (sym e) c)))),
  distinct_join xs ys a.1 b (λ name (k, lt, e) d. apart name (suc k, omega (arith, lt), e) d),
)

pub list_alike : {X : Type 0} (xs ys : List X) → length xs ≡ length ys → ((i : ℕ) (x y : X) → slice_get xs i ≡ Some x → slice_get ys i ≡ Some y → x ≡ y) → xs ≡ ys
list_alike [] [] e same = refl
list_alike [] (y ∷ ys) e same = absurd (omega (arith, e))
list_alike (x ∷ xs) [] e same = absurd (omega (arith, e))
list_alike (x ∷ xs) (y ∷ ys) e same = ap₂ (λ a b. a ∷ b) (same zero x y refl refl) (list_alike xs ys (omega (arith, e)) (λ i a b f g. same (suc i) a b f g))

pub contains_among : (names : List Name) (name : Name) → Contains names name → is_among names name ≡ true
contains_among [] name (k, lt, e) = absurd (omega (arith, lt))
contains_among (x ∷ xs) name (zero, lt, e) = ap (λ b. b || is_among xs name) (bytes_eq_same name x (sym e))
contains_among (x ∷ xs) name (suc k, lt, e) = by_test (bytes_eq name x) (contains_among xs name (k, omega (arith, lt), e))
  where
    by_test : (b : Bool) → is_among xs name ≡ true → (b || is_among xs name) ≡ true
    by_test true f = refl
    by_test false f = f

all_known : (signals names : List Name) → ((name : Name) → Contains names name → Contains signals name) → unknown_in signals names ≡ None
all_known signals [] known = refl
all_known signals (x ∷ xs) known =
    ap (λ b. cond (not b) (Some x) (unknown_in signals xs)) (contains_among signals x (known x (0, omega arith, refl)))
    ∙ all_known signals xs (λ name (k, lt, e). known name (suc k, omega (arith, lt), e))

of_node : (nodes : List DraftNode) (name : Name) → Contains (flat_map fanins_of nodes) name → (node : DraftNode) × Contains nodes node × Contains node.fanins name
of_node [] name (k, lt, e) = absurd (omega (arith, lt))
of_node (node ∷ nodes) name c = elim (Contains-append_cases node.fanins (flat_map fanins_of nodes) name c) [
  | inl here ↦ (node, (0, omega arith, refl), here)
  | inr later ↦ let (other, (k, lt, e), among) = of_node nodes name later in (other, (suc k, omega (arith, lt), e), among)
]

module _ (n : PlainTableNet) (apart : AreNamedApart n) (kept : IsTableNet n) where
  abbrev wires : List DraftNode
  wires = wire_nodes n n.ports.outputs n.ports.roots

  table_outs : map out_of (map (table_node n) n.tables) ≡ n.names
  table_outs = list_alike (map out_of (map (table_node n) n.tables)) n.names (let a = length-map (map (table_node n) n.tables) out_of in let b = length-map n.tables (table_node n) in let c = apart.one_name in omega (arith, a, b, c)) same
    where
      same : (i : ℕ) (x y : Name) → slice_get (map out_of (map (table_node n) n.tables)) i ≡ Some x → slice_get n.names i ≡ Some y → x ≡ y
      same i x y e f =
          let (node, at, out) = slice_get_map_back out_of (map (table_node n) n.tables) i x e in
          let (t, here, is) = slice_get_map_back (table_node n) n.tables i node at in
          sym out ∙ (sym (ap out_of is) ∙ same_Some (net_name n t.out.0) y (sym (table_named n apart kept i t here) ∙ f))

  pub signals_are : signals_of (draft_said n) ≡ net_names n ++ map out_of wires
  signals_are =
      ap (λ outs. n.ports.inputs ++ outs) (map-append out_of (map (table_node n) n.tables) wires ∙ ap (λ outs. outs ++ map out_of wires) table_outs)
      ∙ sym (append_assoc n.ports.inputs n.names (map out_of wires))

  wires_distinct : (outputs : List Name) (roots : List ClassId) → IsDistinct bytes_eq outputs → IsDistinct bytes_eq (map out_of (wire_nodes n outputs roots))
  unfolding IsDistinct
  wires_distinct [] roots d = tt
  wires_distinct (output ∷ outputs) [] d = tt
  wires_distinct (output ∷ outputs) (root ∷ roots) d = by_test (bytes_eq (net_name n root.0) output) (wires_distinct outputs roots d.1)
    where
      later : (y : Name) → Contains (map out_of (wire_nodes n outputs roots)) y → bytes_eq output y ≡ false
      later y c =
          let (node, k, e) = contained_in_map out_of (wire_nodes n outputs roots) y c in
          let w = wire_of n outputs roots node k in
          let same : w.output ≡ y = ap out_of w.is ∙ e in
          subst (λ z. bytes_eq output z ≡ false) same (of_all outputs w.output d.0 (at_contained outputs w.place w.output w.output_at))
        where
          of_all : (xs : List Name) (x : Name) → AllByRecursion (λ z. bytes_eq output z ≡ false) xs → Contains xs x → bytes_eq output x ≡ false
          of_all [] x a (k, lt, e) = absurd (omega (arith, lt))
          of_all (z ∷ xs) x a (zero, lt, e) = subst (λ y. bytes_eq output y ≡ false) e a.0
          of_all (z ∷ xs) x a (suc k, lt, e) = of_all xs x a.1 (k, omega (arith, lt), e)

      by_test : (b : Bool) → IsDistinct bytes_eq (map out_of (wire_nodes n outputs roots)) → IsDistinct bytes_eq (map out_of ((if b then [] else wire_node n output root ∷ []) ++ wire_nodes n outputs roots))
      by_test true rest = rest
      by_test false rest = (contains_all (λ y. bytes_eq output y ≡ false) (map out_of (wire_nodes n outputs roots)) later, rest)

  -- no wire drives a net of a table or an input
  pub wire_apart : (node : DraftNode) → IsWire n n.ports.outputs n.ports.roots node → Contains (net_names n) node.out → ⊥
  wire_apart node w c =
      let (i, at) = contained_at (net_names n) node.out c in
      let out : w.output ≡ node.out = ap out_of w.is in
      let own = apart.owned i w.place w.output (at ∙ ap Some (sym out)) w.output_at in
      let class : slice_get (net_classes n) i ≡ Some w.root.0 = own ∙ slice_get_map (λ (r : ClassId). r.0) n.ports.roots w.place w.root w.root_at in
      let same : net_name n w.root.0 ≡ w.output = same_Some (net_name n w.root.0) w.output (sym (net_named n apart kept i w.root.0 class) ∙ (at ∙ ap Some (sym out))) in
      let both : true ≡ false = sym (bytes_eq_same (net_name n w.root.0) w.output same) ∙ w.other in
      cc

  pub said_distinct : IsDistinct bytes_eq (signals_of (draft_said n))
  said_distinct = subst (IsDistinct bytes_eq) (sym signals_are) (distinct_join (net_names n) (map out_of wires) (distinct_of (net_names n) apart.nets) (wires_distinct n.ports.outputs n.ports.roots (distinct_of n.ports.outputs apart.outputs)) (λ name a b.
      let (node, k, e) = contained_in_map out_of wires name b in
      wire_apart node (wire_of n n.ports.outputs n.ports.roots node k) (subst (Contains (net_names n)) (sym e) a)))

  -- the net of a class is a signal
  pub net_known : (c : ℕ) → Contains (net_classes n) c → Contains (signals_of (draft_said n)) (net_name n c)
  net_known c among =
      let (i, at, named) = net_place n apart c among in
      subst (λ names. Contains names (net_name n c)) (sym signals_are) (Contains-append_left (net_names n) (map out_of wires) (net_name n c) (at_contained (net_names n) i (net_name n c) named))

  -- each fan-in is the net of a class
  pub fanin_class : (node : DraftNode) (name : Name) → Contains (draft_said n).nodes node → Contains node.fanins name → (c : ℕ) × Contains (net_classes n) c × (net_name n c ≡ name)
  fanin_class node name among c = elim (node_cases n node among) [ inl t ↦ of_table t | inr w ↦ of_wire w ]
    where
      of_table : IsTables n node → (c : ℕ) × Contains (net_classes n) c × (net_name n c ≡ name)
      of_table t =
          let (q, k, e) = contained_in_map (λ (q : ClassId). net_name n q.0) t.by.fanins name (subst (λ (d : DraftNode). Contains d.fanins name) (sym t.is) c) in
          (q.0, kept.fanins t.by q.0 t.among (contains_map (λ (r : ClassId). r.0) t.by.fanins q k), e)

      of_wire : IsWire n n.ports.outputs n.ports.roots node → (c : ℕ) × Contains (net_classes n) c × (net_name n c ≡ name)
      of_wire w =
          let only = subst (λ (d : DraftNode). Contains d.fanins name) (sym w.is) c in
          (w.root.0, kept.roots w.root.0 (contains_map (λ (r : ClassId). r.0) n.ports.roots w.root (at_contained n.ports.roots w.place w.root w.root_at)), single_name (net_name n w.root.0) name only)

  pub output_signal : (output : Name) → Contains n.ports.outputs output → Contains (signals_of (draft_said n)) output
  output_signal output c =
      let (k, at) = contained_at n.ports.outputs output c in
      let below = slice_get_within n.ports.outputs k output at in
      let one = apart.one_root in
      let (root, rt) = slice_get_some n.ports.roots k (omega (arith, below, one)) in
      by_test k root at rt (bytes_eq (net_name n root.0) output) refl
    where
      by_test : (k : ℕ) (root : ClassId) → slice_get n.ports.outputs k ≡ Some output → slice_get n.ports.roots k ≡ Some root → (b : Bool) → bytes_eq (net_name n root.0) output ≡ b → Contains (signals_of (draft_said n)) output
      by_test k root at rt true e = subst (Contains (signals_of (draft_said n))) (bytes_eq_is (net_name n root.0) output e) (net_known root.0 (kept.roots root.0 (contains_map (λ (r : ClassId). r.0) n.ports.roots root (at_contained n.ports.roots k root rt))))
      by_test k root at rt false e = Contains-append_right n.ports.inputs (map out_of (draft_said n).nodes) output (contains_map out_of (draft_said n).nodes (wire_node n output root) (wire_in n k output root at rt e))

  pub said_defined : first_undefined (draft_said n) ≡ None
  said_defined = all_known (signals_of (draft_said n)) (flat_map fanins_of (draft_said n).nodes ++ n.ports.outputs) (λ name c.
      elim (Contains-append_cases (flat_map fanins_of (draft_said n).nodes) n.ports.outputs name c) [
        | inl f ↦
            let (node, among, k) = of_node (draft_said n).nodes name f in
            let (q, net, e) = fanin_class node name among k in
            subst (Contains (signals_of (draft_said n))) e (net_known q net)
        | inr o ↦ output_signal name o
      ])
