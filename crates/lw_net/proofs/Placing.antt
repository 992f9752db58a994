-- The places of names among the signals.
use Rattle.std.proofs.Common.{◌≡◌, ℕ, zero, suc, ◌+◌, ◌-◌, ◌<◌, ◌≤◌, ◌⊎◌, Bool, true, false, not, cond, unwrap_or, position, Option, Some, None, List, [], ◌∷◌, ◌++◌, length, map, take, drop, replicate, get_or, Contains, All, refl, sym, ap, ap₂, subst, ◌∙◌, arith}
use Rattle.std.proofs.lemmas.List.{get_or_default, get_or-map, length-map, map-append, take_more, drop_more}
use Rattle.std.proofs.lemmas.List.Elements.{All-append, All-map, All-weaker, All-head, All-tail, Contains-get_or}
use Rattle.std.proofs.lemmas.List.Quantifiers.{position-Some}
use Rattle.std.proofs.lemmas.Map.Views.{list_any-from_Contains}
use Rattle.std.proofs.lemmas.Bool.{false≢true}
use Rattle.std.specs.Cmp.Lexicographic.{nat_list_eq_equiv}
use Rattle.std.specs.List.{IsDistinct}
use Rattle.std.specs.Str.{bytes_eq}
use Rattle.lw_facts.proofs.Lists.{bytes_eq_is}
use Rattle.lw_pool.specs.declared.id.NetId.{NetId}
use Rattle.lw_net.specs.declared.node.Node.{Node}
use Rattle.lw_net.specs.declared.written.NumberedNode.{NumberedNode}
use Rattle.lw_net.specs.declared.written.Written.{Written}
use Rattle.lw_net.specs.Closing.{is_among, number_in, net_in, undefined_in, signals_of, out_of, closed_node, network_in}
use Rattle.lw_net.specs.Networks.{NetworkParts}
use Rattle.lw_net.specs.Numbers.{draft_in, signal_numbers, IsWritten, IsTable}
use Rattle.lw_net.specs.Written.{name_at, names_in, named_node, named_nodes, number_of_out, place_at, ArePlaces, net_placed, placed_node, IsWithin}
use Rattle.lw_dag.proofs.Numbering.{number_at, among_contains}
use Rattle.lw_net.proofs.Writing.{outs_named}

none_placed : (count n : ℕ) → place_at (replicate count 0) n ≡ 0
none_placed zero n = refl
none_placed (suc count) zero = refl
none_placed (suc count) (suc n) = none_placed count n

-- a name that is none of these has no number
none_among : (names : List (List ℕ)) (name : List ℕ) → is_among names name ≡ false → number_in names name ≡ 0
none_among names name none = by_case (position (bytes_eq name) names) refl
  where
    by_case : (o : Option ℕ) → position (bytes_eq name) names ≡ o → unwrap_or o 0 ≡ 0
    by_case None is = refl
    by_case (Some i) is =
        let p = position-Some (bytes_eq name) names i [] is in
        let there : Contains names name = subst (Contains names) (sym (bytes_eq_is name (get_or names i []) p.1)) (Contains-get_or names i [] p.0) in
        absurd (false≢true (sym none ∙ list_any-from_Contains nat_list_eq_equiv name names there))

module _ (names : List (List ℕ)) (signals places : List ℕ) (given : List (List ℕ)) (differ : IsDistinct bytes_eq names) (is : given ≡ names_in names signals) (distinct : IsDistinct bytes_eq given) (within : All (λ n. n < length names) signals) (are : ArePlaces (length names) (length signals) signals places) where
  many : length given ≡ length signals
  many = ap length is ∙ length-map signals (name_at names)

  signal_at : (k : ℕ) → k < length signals → get_or given k [] ≡ name_at names (get_or signals k 0)
  signal_at k lt = ap (λ l. get_or l k []) is ∙ get_or-map (name_at names) signals k 0 [] lt

  own_at : (n : ℕ) → 0 < place_at places n → get_or given (place_at places n - 1) [] ≡ name_at names n
  own_at n some =
      let f = are.found n some in
      signal_at (place_at places n - 1) (omega (arith, f.0)) ∙ ap (name_at names) f.1

  pub number_placed : (n : ℕ) → 0 < place_at places n → number_in given (name_at names n) ≡ place_at places n - 1
  number_placed n some =
      ap (number_in given) (sym (own_at n some)) ∙ number_at given (place_at places n - 1) [] distinct (omega (arith, (are.found n some).0, many))

  pub among_placed : (n : ℕ) → 0 < place_at places n → is_among given (name_at names n) ≡ true
  among_placed n some =
      list_any-from_Contains nat_list_eq_equiv (name_at names n) given (subst (Contains given) (own_at n some) (Contains-get_or given (place_at places n - 1) [] (omega (arith, (are.found n some).0, many))))

  pub none_unplaced : (n : ℕ) → n < length names → place_at places n ≡ 0 → is_among given (name_at names n) ≡ false
  none_unplaced n lt none = by_test (is_among given (name_at names n)) refl
    where
      clash : Contains given (name_at names n) → ⊥
      clash (k, below, e) =
          let inside : k < length signals = omega (arith, many) in
          let same : name_at names (get_or signals k 0) ≡ name_at names n = sym (signal_at k inside) ∙ (get_or_default given k [] (name_at names n) below ∙ e) in
          let number : get_or signals k 0 ≡ n = sym (number_at names (get_or signals k 0) [] differ (within k 0 inside)) ∙ (ap (number_in names) same ∙ number_at names n [] differ lt) in
          omega (arith, are.told k inside, ap (place_at places) number, none)

      by_test : (b : Bool) → is_among given (name_at names n) ≡ b → b ≡ false
      by_test false e = refl
      by_test true e = absurd (clash (among_contains given (name_at names n) e))

  pub number_is : (n : ℕ) → n < length names → number_in given (name_at names n) ≡ place_at places n - 1
  number_is n lt = by_place (place_at places n) refl
    where
      by_place : (p : ℕ) → place_at places n ≡ p → number_in given (name_at names n) ≡ place_at places n - 1
      by_place zero e = none_among given (name_at names n) (none_unplaced n lt e) ∙ omega (arith, e)
      by_place (suc p) e = number_placed n (omega (arith, e))

-- the signals of a draft by number
pub signals_named : (names : List (List ℕ)) (inputs : List ℕ) (nodes : List NumberedNode) → names_in names (inputs ++ map number_of_out nodes) ≡ names_in names inputs ++ map out_of (named_nodes names nodes)
signals_named names inputs nodes = map-append (name_at names) inputs (map number_of_out nodes) ∙ ap (λ l. names_in names inputs ++ l) (outs_named names nodes)

pub signals_within : (w : Written) → IsWritten w → All (λ n. n < length w.names.keys) (signal_numbers w)
signals_within w kept = All-append (λ n. n < length w.names.keys) w.inputs.items (map number_of_out w.nodes.items) kept.inputs (All-map (λ n. n < length w.names.keys) number_of_out w.nodes.items (All-weaker (IsWithin (length w.names.keys)) (λ node. node.out < length w.names.keys) (λ node is. is.out) w.nodes.items kept.nodes))

module _ (w : Written) (places : List ℕ) (table : IsTable w places) where
  abbrev signals : List (List ℕ)
  signals = signals_of (draft_in w)

  abbrev names : List (List ℕ)
  names = w.names.keys

  named : signals ≡ names_in names (signal_numbers w)
  named = sym (signals_named names w.inputs.items w.nodes.items)

  pub placed_number : (n s : ℕ) → place_at places n ≡ s + 1 → number_in signals (name_at names n) ≡ s
  placed_number n s e = number_placed names (signal_numbers w) places signals table.kept.names named table.distinct (signals_within w table.kept) table.placed n (omega (arith, e)) ∙ omega (arith, e)

  pub placed_among : (n s : ℕ) → place_at places n ≡ s + 1 → is_among signals (name_at names n) ≡ true
  placed_among n s e = among_placed names (signal_numbers w) places signals table.kept.names named table.distinct (signals_within w table.kept) table.placed n (omega (arith, e))

  pub unplaced : (n : ℕ) → n < length names → place_at places n ≡ 0 → is_among signals (name_at names n) ≡ false
  unplaced n lt e = none_unplaced names (signal_numbers w) places signals table.kept.names named table.distinct (signals_within w table.kept) table.placed n lt e

  net_is : (n : ℕ) → n < length names → net_placed places n ≡ net_in signals (name_at names n)
  net_is n lt = ap (λ (k : ℕ). let net : NetId = record { 0 = k } in net) (sym (number_is names (signal_numbers w) places signals table.kept.names named table.distinct (signals_within w table.kept) table.placed n lt))

  nets_are : (ns : List ℕ) → All (λ n. n < length names) ns → map (net_placed places) ns ≡ map (net_in signals) (names_in names ns)
  nets_are [] all = refl
  nets_are (n ∷ ns) all = ap₂ (λ x xs. x ∷ xs) (net_is n (All-head (λ m. m < length names) n ns all)) (nets_are ns (All-tail (λ m. m < length names) n ns all))

  node_is : (node : NumberedNode) → IsWithin (length names) node → placed_node places node ≡ closed_node signals (named_node names node)
  node_is node within = ap₂ (λ (out : NetId) (fanins : List NetId). let made : Node = record { out = out; fanins = fanins; rows = node.rows; on = node.on } in made) (net_is node.out within.out) (nets_are node.fanins within.fanins)

  nodes_are : (nodes : List NumberedNode) → All (IsWithin (length names)) nodes → map (placed_node places) nodes ≡ map (closed_node signals) (named_nodes names nodes)
  nodes_are [] all = refl
  nodes_are (node ∷ nodes) all = ap₂ (λ x xs. x ∷ xs) (node_is node (All-head (IsWithin (length names)) node nodes all)) (nodes_are nodes (All-tail (IsWithin (length names)) node nodes all))

  parts_of : List (List ℕ) → ℕ → List Node → List NetId → NetworkParts
  parts_of all inputs nodes outputs = record { model = w.model; names = all; inputs = inputs; nodes = nodes; outputs = outputs }

  pub placed_network : (all : List (List ℕ)) (inputs : ℕ) (nodes : List Node) (outputs : List NetId) → all ≡ names_in names (signal_numbers w) → inputs ≡ length w.inputs.items → nodes ≡ map (placed_node places) w.nodes.items → outputs ≡ map (net_placed places) w.outputs.items → record { model = w.model; names = all; inputs = inputs; nodes = nodes; outputs = outputs } ≡ network_in (draft_in w) (draft_in w).nodes
  unfolding parts_of
  placed_network all inputs nodes outputs all_is inputs_is nodes_is outputs_is =
      ap₂ (λ a i. parts_of a i nodes outputs) (all_is ∙ sym named) (inputs_is ∙ sym (length-map w.inputs.items (name_at names)))
      ∙ ap₂ (parts_of signals (length (draft_in w).inputs)) (nodes_is ∙ nodes_are w.nodes.items table.kept.nodes) (outputs_is ∙ nets_are w.outputs.items table.kept.outputs)

-- Names that are looked up in turn.

pub row_so_far : (signals names : List (List ℕ)) (list numbers more : List ℕ) (i s : ℕ) → i < length list → numbers ≡ map (number_in signals) (names_in names (take i list)) → number_in signals (name_at names (get_or list i 0)) ≡ s → more ≡ numbers ++ s ∷ [] → more ≡ map (number_in signals) (names_in names (take (i + 1) list))
row_so_far signals names list numbers more i s below was own grown =
    grown ∙ (ap₂ (λ l n. l ++ n ∷ []) was (sym own)
    ∙ (sym (map-append (number_in signals) (names_in names (take i list)) (name_at names (get_or list i 0) ∷ []))
    ∙ (ap (map (number_in signals)) (sym (map-append (name_at names) (take i list) (get_or list i 0 ∷ [])))
    ∙ ap (λ l. map (number_in signals) (names_in names l)) (sym (take_more list i 0 below)))))

first_of : (signals : List (List ℕ)) (name : List ℕ) (others : List (List ℕ)) (b : Bool) → is_among signals name ≡ b → undefined_in signals (name ∷ others) ≡ cond (not b) (Some name) (undefined_in signals others)
first_of signals name others b is = ap (λ t. cond (not t) (Some name) (undefined_in signals others)) is

pub row_rest : (signals names : List (List ℕ)) (list : List ℕ) (i : ℕ) → i < length list → is_among signals (name_at names (get_or list i 0)) ≡ true → undefined_in signals (names_in names (drop i list)) ≡ undefined_in signals (names_in names list) → undefined_in signals (names_in names (drop (i + 1) list)) ≡ undefined_in signals (names_in names list)
row_rest signals names list i below known rest =
    sym (first_of signals (name_at names (get_or list i 0)) (names_in names (drop (i + 1) list)) true known)
    ∙ (ap (λ l. undefined_in signals (names_in names l)) (sym (drop_more list i 0 below)) ∙ rest)

pub row_fault : (signals names : List (List ℕ)) (list : List ℕ) (i : ℕ) → i < length list → is_among signals (name_at names (get_or list i 0)) ≡ false → undefined_in signals (names_in names (drop i list)) ≡ undefined_in signals (names_in names list) → undefined_in signals (names_in names list) ≡ Some (name_at names (get_or list i 0))
row_fault signals names list i below none rest =
    sym rest ∙ (ap (λ l. undefined_in signals (names_in names l)) (drop_more list i 0 below)
    ∙ first_of signals (name_at names (get_or list i 0)) (names_in names (drop (i + 1) list)) false none)
