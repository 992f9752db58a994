-- A draft whose nodes have fan-ins of lower rank is on no cycle, and has depths.
use Rattle.std.proofs.Common.{◌≡◌, ◌+◌, ◌<◌, ℕ, zero, suc, Bool, true, false, cond, List, [], ◌∷◌, ◌++◌, map, find, get_or, Option, Some, None, Contains, refl, sym, ap, ap₂, ◌∙◌, arith}
use Rattle.std.specs.List.{IsDistinct}
use Rattle.std.specs.Str.{bytes_eq}
use Rattle.std.proofs.lemmas.Option.{slice_get-get_or}
use Rattle.std.proofs.lemmas.List.Elements.{Contains-append_right}
use Rattle.lw_facts.proofs.Lists.{bytes_eq_same, bytes_eq_is, contains_map, at_contained}
use Rattle.lw_dag.specs.Ordering.{greatest}
use Rattle.lw_laws.proofs.Lists.{all_contains}
use Rattle.lw_net.specs.declared.draft.Draft.{Draft}
use Rattle.lw_net.specs.declared.draft.DraftNode.{DraftNode}
use Rattle.lw_net.specs.Closing.{Reaches, HasNoCycle, IsClosed, signals_of, out_of, first_undefined, by_depth, network_in}
use Rattle.lw_net.specs.Closing.Reaches.{by_fanin, by_path}
use Rattle.lw_net.specs.Networks.{NetworkParts}

abbrev Name : Type 0
Name = List ℕ

-- names that differ in a list that is put together
pub distinct_parts : (xs ys : List Name) → IsDistinct bytes_eq (xs ++ ys) → IsDistinct bytes_eq ys × ((name : Name) → Contains xs name → Contains ys name → ⊥)
unfolding IsDistinct
distinct_parts [] ys d = (d, λ name (k, lt, e) c. omega (arith, lt))
distinct_parts (x ∷ xs) ys d =
    let (rest, apart) = distinct_parts xs ys d.1 in
    (rest, λ name a b. first name a b (apart name))
  where
    clash : (y : Name) → bytes_eq x y ≡ false → x ≡ y → ⊥
    clash y ne e = let both : true ≡ false = sym (bytes_eq_same x y e) ∙ ne in cc

    first : (name : Name) → Contains (x ∷ xs) name → Contains ys name → (Contains xs name → Contains ys name → ⊥) → ⊥
    first name (zero, lt, e) b apart = clash name (all_contains (λ y. bytes_eq x y ≡ false) (xs ++ ys) name d.0 (Contains-append_right xs ys name b)) e
    first name (suc k, lt, e) b apart = apart (k, omega (arith, lt), e) b

-- the node that drives a name
abbrev node_of : List DraftNode → Name → Option DraftNode
node_of nodes name = find (λ (node : DraftNode). bytes_eq node.out name) nodes

drives_none : (nodes : List DraftNode) (name : Name) → (Contains (map out_of nodes) name → ⊥) → node_of nodes name ≡ None
drives_none [] name other = refl
drives_none (node ∷ nodes) name other = by_test (bytes_eq node.out name) refl (drives_none nodes name (λ (k, lt, e). other (suc k, omega (arith, lt), e)))
  where
    by_test : (b : Bool) → bytes_eq node.out name ≡ b → node_of nodes name ≡ None → cond b (Some node) (node_of nodes name) ≡ None
    by_test true e rest = absurd (other (zero, omega arith, bytes_eq_is node.out name e))
    by_test false e rest = rest

drives_own : (nodes : List DraftNode) (node : DraftNode) → IsDistinct bytes_eq (map out_of nodes) → Contains nodes node → node_of nodes node.out ≡ Some node
unfolding IsDistinct
drives_own [] node d (k, lt, e) = absurd (omega (arith, lt))
drives_own (first ∷ nodes) node d (zero, lt, e) =
    ap (λ b. cond b (Some first) (node_of nodes node.out)) (bytes_eq_same first.out node.out (ap out_of e)) ∙ ap Some e
drives_own (first ∷ nodes) node d (suc k, lt, e) =
    ap (λ b. cond b (Some first) (node_of nodes node.out)) (all_contains (λ y. bytes_eq first.out y ≡ false) (map out_of nodes) node.out d.0 (contains_map out_of nodes node (k, omega (arith, lt), e)))
    ∙ drives_own nodes node d.1 (k, omega (arith, lt), e)

drives_one : (nodes : List DraftNode) (name : Name) (node : DraftNode) → node_of nodes name ≡ Some node → Contains nodes node × (node.out ≡ name)
drives_one [] name node e = cc
drives_one (first ∷ nodes) name node e = by_test (bytes_eq first.out name) refl e (drives_one nodes name node)
  where
    by_test : (b : Bool) → bytes_eq first.out name ≡ b → cond b (Some first) (node_of nodes name) ≡ Some node → (node_of nodes name ≡ Some node → Contains nodes node × (node.out ≡ name)) → Contains (first ∷ nodes) node × (node.out ≡ name)
    by_test true f is rest = let s : first ≡ node = cc in ((zero, omega arith, s), ap out_of (sym s) ∙ bytes_eq_is first.out name f)
    by_test false f is rest = let ((k, lt, s), out) = rest is in ((suc k, omega (arith, lt), s), out)

module _ (nodes : List DraftNode) (rank : Name → ℕ) (lower : (node : DraftNode) (name : Name) → Contains nodes node → Contains node.fanins name → rank name < rank node.out) where
  falls : (from to : Name) → Reaches nodes from to → rank to < rank from
  falls from to (by_fanin node among out fanin) = let l = lower node to among fanin in let e = ap rank out in omega (arith, l, e)
  falls from to (by_path {next = next} node among out fanin rest) =
      let l = lower node next among fanin in
      let e = ap rank out in
      let h = falls next to rest in
      omega (arith, l, e, h)

  pub no_cycle : HasNoCycle nodes
  no_cycle name loop = let lt = falls name name loop in omega (arith, lt)

-- how deep names are, where each node adds a weight to the greatest of its fan-ins
module _ (nodes : List DraftNode) (weight : DraftNode → ℕ) (rank : Name → ℕ) (lower : (node : DraftNode) (name : Name) → Contains nodes node → Contains node.fanins name → rank name < rank node.out) where
  -- the depth of a name by the depths of fan-ins
  abbrev above : (Name → ℕ) → Option DraftNode → ℕ
  above depth None = 0
  above depth (Some node) = weight node + greatest (map depth node.fanins)

  within : ℕ → Name → ℕ
  within zero = λ name. 0
  within (suc k) = λ name. above (within k) (node_of nodes name)

  maps_agree : (f h : Name → ℕ) (names : List Name) → ((name : Name) → Contains names name → f name ≡ h name) → map f names ≡ map h names
  maps_agree f h [] same = refl
  maps_agree f h (x ∷ xs) same = ap₂ (λ a b. a ∷ b) (same x (zero, omega arith, refl)) (maps_agree f h xs (λ name (k, lt, e). same name (suc k, omega (arith, lt), e)))

  settled : (k m : ℕ) (name : Name) → rank name < k → rank name < m → within k name ≡ within m name
  unfolding within
  settled zero m name a b = absurd (omega (arith, a))
  settled (suc k) zero name a b = absurd (omega (arith, b))
  settled (suc k) (suc m) name a b = by_node (node_of nodes name) refl (settled k m)
    where
      by_node : (o : Option DraftNode) → node_of nodes name ≡ o → ((f : Name) → rank f < k → rank f < m → within k f ≡ within m f) → above (within k) o ≡ above (within m) o
      by_node None e rest = refl
      by_node (Some node) e rest =
          let (among, out) = drives_one nodes name node e in
          ap (λ ds. weight node + greatest ds) (maps_agree (within k) (within m) node.fanins (λ f c.
          let l = lower node f among c in
          let s = ap rank out in
          rest f (omega (arith, l, s, a)) (omega (arith, l, s, b))))

  -- the depth of a name
  pub depth : Name → ℕ
  depth name = within (suc (rank name)) name

module _ (draft : Draft) (distinct : IsDistinct bytes_eq (signals_of draft)) (weight : DraftNode → ℕ) (rank : Name → ℕ) (lower : (node : DraftNode) (name : Name) → Contains draft.nodes node → Contains node.fanins name → rank name < rank node.out) where
  abbrev pub weighed : Name → ℕ
  weighed = depth draft.nodes weight rank lower

  abbrev up_to : ℕ → Name → ℕ
  up_to k = within draft.nodes weight rank lower k

  pub weighed_input : (name : Name) → Contains draft.inputs name → weighed name ≡ 0
  unfolding depth within
  weighed_input name own = ap (above draft.nodes weight rank lower (up_to (rank name))) (drives_none draft.nodes name (λ c. (distinct_parts draft.inputs (map out_of draft.nodes) distinct).1 name own c))

  pub weighed_node : (node : DraftNode) → Contains draft.nodes node → weighed node.out ≡ weight node + greatest (map weighed node.fanins)
  unfolding depth within
  weighed_node node own =
      ap (above draft.nodes weight rank lower (up_to (rank node.out))) (drives_own draft.nodes node (distinct_parts draft.inputs (map out_of draft.nodes) distinct).0 own)
      ∙ ap (λ ds. weight node + greatest ds) (maps_agree draft.nodes weight rank lower (up_to (rank node.out)) weighed node.fanins (λ f c.
      let l = lower node f own c in
      settled draft.nodes weight rank lower (rank node.out) (suc (rank f)) f l (omega arith)))

module _ (draft : Draft) (distinct : IsDistinct bytes_eq (signals_of draft)) (rank : Name → ℕ) (lower : (node : DraftNode) (name : Name) → Contains draft.nodes node → Contains node.fanins name → rank name < rank node.out) where
  abbrev depth_of : Name → ℕ
  depth_of = weighed draft distinct (λ node. 1) rank lower

  pub closes : first_undefined draft ≡ None → (net : NetworkParts) × IsClosed draft net
  closes defined = (
    network_in draft (by_depth depth_of draft.nodes),
    record {
      defined = defined;
      no_cycle = no_cycle draft.nodes rank lower;
      depth = depth_of;
      depths = record {
        inputs = λ k d lt. weighed_input draft distinct (λ node. 1) rank lower (get_or draft.inputs k d) (at_contained draft.inputs k (get_or draft.inputs k d) (slice_get-get_or draft.inputs k d lt));
        nodes = λ k d lt. weighed_node draft distinct (λ node. 1) rank lower (get_or draft.nodes k d) (at_contained draft.nodes k (get_or draft.nodes k d) (slice_get-get_or draft.nodes k d lt));
      };
      network = refl;
    },
  )
