-- The covers that the nets of a network of tables stand for.
use Rattle.std.proofs.Common.{◌≡◌, ◌+◌, ◌<◌, ◌≤◌, ◌↔◌, ◌⊎◌, inl, inr, ℕ, zero, suc, max, Bool, not, ◌&&◌, List, [], ◌∷◌, map, Option, Some, Contains, slice_get, slice_index_or, if◌then◌else◌, refl, sym, ap, ap₂, ◌∙◌, subst, subst₂, arith}
use Rattle.std.proofs.lemmas.List.Elements.{Contains-append_cases}
use Rattle.std.proofs.lemmas.Option.{get_or_from_slice_get, same_Some}
use Rattle.std.proofs.Math.Numerals.{one-add}
use Rattle.lw_facts.proofs.Lists.{contained_in_map, contained_at}
use Rattle.lw_dag.specs.Ordering.{greatest}
use Rattle.lw_laws.specs.Graphs.{Graph, Stands, Unfolds}
use Rattle.lw_laws.specs.Flip.{flip}
use Rattle.lw_laws.specs.Trees.{Tree, leaf, const_one, const_zero, inv, nand, tree_value, planted}
use Rattle.lw_laws.proofs.Covering.{UnfoldAt, length-UnfoldAt, planted_unfolds}
use Rattle.lw_pool.specs.declared.id.ClassId.{ClassId}
use Rattle.lw_net.specs.declared.draft.DraftNode.{DraftNode}
use Rattle.lw_lut.specs.Choosing.{IsTable}
use Rattle.lw_lut.specs.Covers.{TableCover, TableCovers, IsTableCover, AreTableCovers, HasPinsOnce, tree_of, trees_of, depth_of, greatest_depth}
use Rattle.lw_lut.specs.Covers.TableCover.{wire, table}
use Rattle.lw_lut.specs.Covers.TableCovers.{no_covers, cover}
use Rattle.lw_lut.specs.Cuts.{pin_value}
use Rattle.lw_lut_text.specs.Meaning.{AreNamedApart}
use Rattle.lw_lut.specs.Nets.{PlainTableNet, IsTableNet, net_classes, table_classes}
use Rattle.lw_lut_text.specs.Said.{table_node, draft_said}
use Rattle.lw_lut.specs.Searches.{depth_in}
use Rattle.lw_lut.specs.Texts.{net_name}
use Rattle.lw_lut.specs.declared.table.Table.{Table}
use Rattle.lw_lut_text.proofs.NetNames.{input_named}
use Rattle.lw_lut_text.proofs.SaidNodes.{table_in}
use Rattle.lw_lut_text.proofs.TableValues.{said_value, said_wire, table_said, table_no_wire}
use Rattle.lw_pool.specs.Numbers.{numbers}

-- values of names that are right for the nodes that the text says
pub record AreSaidValues (n : PlainTableNet) (x : ℕ → Bool) (value : List ℕ → Bool) : Type 0 where
  pub inputs : (i : ℕ) (name : List ℕ) → slice_get n.ports.inputs i ≡ Some name → value name ≡ x i
  pub nodes : (node : DraftNode) → Contains (draft_said n).nodes node → value node.out ≡ said_value value node

-- how many nodes other than wires are on the longest path to what a name names
pub record AreSaidDepths (n : PlainTableNet) (depth : List ℕ → ℕ) : Type 0 where
  pub inputs : (i : ℕ) (name : List ℕ) → slice_get n.ports.inputs i ≡ Some name → depth name ≡ 0
  pub nodes : (node : DraftNode) → Contains (draft_said n).nodes node → depth node.out ≡ (if said_wire node then 0 else 1) + greatest (map depth node.fanins)

-- The name stands for a cover at a class, which is no deeper than this.
pub record IsNamedCover (g : Graph) (most : ℕ) (n : PlainTableNet) (name : List ℕ) (c e : ℕ) : Type 0 where
  pub by : TableCover
  pub is_cover : IsTableCover most by
  pub unfolds : Unfolds g (tree_of by) c
  pub low : depth_of by ≤ e
  pub value : (x : ℕ → Bool) (value : List ℕ → Bool) → AreSaidValues n x value → value name ≡ tree_value x (tree_of by)
  pub depth : (depth : List ℕ → ℕ) → AreSaidDepths n depth → depth name ≡ depth_of by

-- the covers of some classes, one after another
pub record AreNamedCovers (g : Graph) (most : ℕ) (n : PlainTableNet) (cs : List ℕ) (e : ℕ) : Type 0 where
  pub by : TableCovers
  pub are_covers : AreTableCovers most by
  pub unfold_all : UnfoldAt g (trees_of by) cs
  pub low : greatest_depth by ≤ e
  pub value : (x : ℕ → Bool) (value : List ℕ → Bool) → AreSaidValues n x value → (k c : ℕ) (d : Tree) → slice_get cs k ≡ Some c → value (net_name n c) ≡ tree_value x (slice_index_or (trees_of by) k d)
  pub depth : (depth : List ℕ → ℕ) → AreSaidDepths n depth → greatest (map (λ c. depth (net_name n c)) cs) ≡ greatest_depth by

module _ (g : Graph) (most : ℕ) (n : PlainTableNet) where
  pub covers_of : (cs : List ℕ) (e : ℕ) → ((c : ℕ) → Contains cs c → IsNamedCover g most n (net_name n c) c e) → AreNamedCovers g most n cs e
  covers_of [] e each = record {
    by = no_covers;
    are_covers = tt;
    unfold_all = tt;
    low = omega arith;
    value = λ x value are k c d at. cc;
    depth = λ depth are. refl;
  }
  covers_of (c ∷ cs) e each =
      let k = each c (0, omega arith, refl) in
      let ks = covers_of cs e (λ d (i, lt, s). each d (suc i, omega (arith, lt), s)) in
      record {
        by = cover k.by ks.by;
        are_covers = (k.is_cover, ks.are_covers);
        unfold_all = (k.unfolds, ks.unfold_all);
        low = let a = k.low in let b = ks.low in omega (arith, a, b);
        value = λ x value are i d t at. first_or k ks x value are i d t at;
        depth = λ depth are. ap₂ max (k.depth depth are) (ks.depth depth are);
      }
    where
      first_or : (k : IsNamedCover g most n (net_name n c) c e) (ks : AreNamedCovers g most n cs e) (x : ℕ → Bool) (value : List ℕ → Bool) → AreSaidValues n x value → (i d : ℕ) (t : Tree) → slice_get (c ∷ cs) i ≡ Some d → value (net_name n d) ≡ tree_value x (slice_index_or (tree_of k.by ∷ trees_of ks.by) i t)
      first_or k ks x value are zero d t at = ap (λ a. value (net_name n a)) (sym (same_Some c d at)) ∙ k.value x value are
      first_or k ks x value are (suc i) d t at = ks.value x value are i d t at

  -- the value of a tree over pins at classes is that of the tree with the classes' trees planted
  planted_value : (x : ℕ → Bool) (v : ℕ → Bool) (pins : List ℕ) (ts : List Tree) → ((k c : ℕ) (d : Tree) → slice_get pins k ≡ Some c → v c ≡ tree_value x (slice_index_or ts k d)) → (p : Tree) (c : ℕ) → Stands g pins p c → tree_value (pin_value v pins) p ≡ tree_value x (planted p ts)
  planted_value x v pins ts agree (leaf k) c s = ap v (get_or_from_slice_get pins k c 0 s) ∙ agree k c (leaf k) s
  planted_value x v pins ts agree const_one c s = refl
  planted_value x v pins ts agree const_zero c s = refl
  planted_value x v pins ts agree (inv p) c s = ap not (planted_value x v pins ts agree p (flip c) s)
  planted_value x v pins ts agree (nand p q) c (a, b, h, s, r) = ap₂ (λ y z. not (y && z)) (planted_value x v pins ts agree p a s) (planted_value x v pins ts agree q b r)

-- lists of the same members have the same greatest
greatest_within : (f : ℕ → ℕ) (cs : List ℕ) (m : ℕ) → ((c : ℕ) → Contains cs c → f c ≤ m) → greatest (map f cs) ≤ m
greatest_within f [] m low = omega arith
greatest_within f (c ∷ cs) m low =
    let a = low c (0, omega arith, refl) in
    let b = greatest_within f cs m (λ d (i, lt, s). low d (suc i, omega (arith, lt), s)) in
    omega (arith, a, b)

pub greatest_above : (f : ℕ → ℕ) (cs : List ℕ) (c : ℕ) → Contains cs c → f c ≤ greatest (map f cs)
greatest_above f [] c (k, lt, e) = absurd (omega (arith, lt))
greatest_above f (d ∷ cs) c (zero, lt, e) = let s : f d ≡ f c = ap f e in omega (arith, s)
greatest_above f (d ∷ cs) c (suc k, lt, e) = let h = greatest_above f cs c (k, omega (arith, lt), e) in omega (arith, h)

pub greatest_alike : (f : ℕ → ℕ) (cs ds : List ℕ) → ((c : ℕ) → Contains cs c ↔ Contains ds c) → greatest (map f cs) ≡ greatest (map f ds)
greatest_alike f cs ds same =
    let a = greatest_within f cs (greatest (map f ds)) (λ c k. greatest_above f ds c ((same c).0 k)) in
    let b = greatest_within f ds (greatest (map f cs)) (λ c k. greatest_above f cs c ((same c).1 k)) in
    omega (arith, a, b)

module _ (g : Graph) (most : ℕ) (depths : List (Option ℕ)) (n : PlainTableNet) (apart : AreNamedApart n) (kept : IsTableNet n) (leaves : numbers n.inputs ≡ g.leaves) (tables_are : (t : Table) → Contains n.tables t → IsTable g most depths t) where
  depths_of : (depth : List ℕ → ℕ) (fs : List ClassId) → map depth (map (λ (q : ClassId). net_name n q.0) fs) ≡ map (λ c. depth (net_name n c)) (numbers fs)
  depths_of depth [] = refl
  depths_of depth (f ∷ fs) = ap (λ ds. depth (net_name n f.0) ∷ ds) (depths_of depth fs)

  -- the cover of a table, by those of its fan-ins
  of_table : (t : Table) (e : ℕ) → Contains n.tables t → ((q : ℕ) → Contains (numbers t.fanins) q → IsNamedCover g most n (net_name n q) q e) → IsNamedCover g most n (net_name n t.out.0) t.out.0 (suc e)
  of_table t e among each =
      let at = (tables_are t among).at in
      let ks = covers_of g most n at.pins e (λ q k. each q ((at.at q).0 k)) in
      let long = length-UnfoldAt g (trees_of ks.by) at.pins ks.unfold_all in
      record {
        by = table at.tree ks.by;
        is_cover = (let few = at.few in omega (arith, few, long), subst (λ m. HasPinsOnce m at.tree) (sym long) at.once, ks.are_covers);
        unfolds = planted_unfolds g at.tree (trees_of ks.by) at.pins t.out.0 ks.unfold_all at.stands;
        low = let low = ks.low in omega (arith, low);
        value = λ x value are.
            are.nodes (table_node n t) (table_in n t among)
            ∙ (table_said n value t
            ∙ (at.values (λ c. value (net_name n c))
            ∙ planted_value g most n x (λ c. value (net_name n c)) at.pins (trees_of ks.by) (λ k c d here. ks.value x value are k c d here) at.tree t.out.0 at.stands));
        depth = λ depth are.
            are.nodes (table_node n t) (table_in n t among)
            ∙ (ap₂ (λ b ds. (if b then 0 else 1) + greatest ds) (table_no_wire n t) (depths_of depth t.fanins)
            ∙ (ap (λ d. 1 + d) (greatest_alike (λ c. depth (net_name n c)) (numbers t.fanins) at.pins (λ q. ((at.at q).1, (at.at q).0)) ∙ ks.depth depth are)
            ∙ one-add (greatest_depth ks.by)));
      }

  of_input : (i c e : ℕ) → slice_get (numbers n.inputs) i ≡ Some c → IsNamedCover g most n (net_name n c) c e
  of_input i c e at = record {
    by = wire i;
    is_cover = tt;
    unfolds = subst (λ cs. slice_get cs i ≡ Some c) leaves at;
    low = omega arith;
    value = λ x value are. are.inputs i (net_name n c) named;
    depth = λ depth are. are.inputs i (net_name n c) named;
  }
    where
      named : slice_get n.ports.inputs i ≡ Some (net_name n c)
      named = input_named n apart kept i c at

  pub covered : (bound c e : ℕ) → Contains (net_classes n) c → depth_in depths c ≡ Some e → e < bound → IsNamedCover g most n (net_name n c) c e
  covered zero c e among at lt = absurd (omega (arith, lt))
  covered (suc bound) c e among at lt = by_part (Contains-append_cases (numbers n.inputs) (table_classes n.tables) c among) (covered bound)
    where
      of_class : (t : Table) → Contains n.tables t → t.out.0 ≡ c → ((d f : ℕ) → Contains (net_classes n) d → depth_in depths d ≡ Some f → f < bound → IsNamedCover g most n (net_name n d) d f) → IsNamedCover g most n (net_name n c) c e
      of_class t k s below =
          let is = tables_are t k in
          let deep : suc is.depth ≡ e = same_Some (suc is.depth) e (sym is.depth_is ∙ (ap (depth_in depths) s ∙ at)) in
          subst₂ (λ d f. IsNamedCover g most n (net_name n d) d f) s deep (of_table t is.depth k (λ q among_fanins.
          let (r, j, same) = contained_in_map (λ (r : ClassId). r.0) t.fanins q among_fanins in
          let (f, known, less) = is.below r j in
          let own : depth_in depths q ≡ Some f = ap (depth_in depths) (sym same) ∙ known in
          let lower : f ≤ is.depth = omega (arith, less) in
          raised q f is.depth lower (below q f (kept.fanins t q k among_fanins) own (omega (arith, less, deep, lt)))))
        where
          raised : (q f m : ℕ) → f ≤ m → IsNamedCover g most n (net_name n q) q f → IsNamedCover g most n (net_name n q) q m
          raised q f m le k = record { by = k.by; is_cover = k.is_cover; unfolds = k.unfolds; low = let low = k.low in omega (arith, low, le); value = k.value; depth = k.depth }

      by_part : Contains (numbers n.inputs) c ⊎ Contains (table_classes n.tables) c → ((d f : ℕ) → Contains (net_classes n) d → depth_in depths d ≡ Some f → f < bound → IsNamedCover g most n (net_name n d) d f) → IsNamedCover g most n (net_name n c) c e
      by_part (inl input) below = let (i, here) = contained_at (numbers n.inputs) c input in of_input i c e here
      by_part (inr out) below = let (t, k, s) = contained_in_map (λ (t : Table). t.out.0) n.tables c out in of_class t k s below
