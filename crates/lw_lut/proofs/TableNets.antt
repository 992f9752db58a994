-- What a network of tables keeps.
use Rattle.std.proofs.Common.{ℕ, zero, suc, ◌+◌, ◌<◌, ◌≡◌, ◌⊎◌, inl, inr, List, [], ◌∷◌, ◌++◌, length, take, get_or, All, Contains, Some, slice_get, ap, ap₂, sym, ◌∙◌, subst, arith}
use Rattle.std.proofs.lemmas.List.{take_more, map-append}
use Rattle.std.proofs.lemmas.List.Elements.{Contains-append_left, Contains-append_right}
use Rattle.std.proofs.lemmas.Option.{slice_get-get_or, slice_get_within, get_or_from_slice_get}
use Rattle.lw_facts.proofs.Lists.{contains_map, at_contained, some_within}
use native.Mathlib.Decide.{dec_lt}
use Rattle.lw_laws.proofs.Extracts.{slice_get_left, slice_get_right}
use Rattle.lw_laws.proofs.Numbers.{slice_get_map_back}
use Rattle.lw_pool.specs.declared.id.ClassId.{ClassId}
use Rattle.lw_laws.specs.Graphs.{Graph}
use Rattle.lw_laws.specs.Extracts.{IsLeafClass}
use Rattle.lw_lut.specs.Choosing.{AreTables, IsNeeded}
use Rattle.lw_lut.specs.Choosing.IsNeeded.{by_root, by_fanin}
use Rattle.lw_lut.specs.Covers.{IsLeastDepth}
use Rattle.lw_lut.specs.Covers.TableCover.{wire}
use Rattle.lw_lut.specs.Depths.{DepthLists, AreLeastDepths}
use Rattle.lw_lut.specs.Nets.{AreFit, IsTableNet, PlainTableNet, table_classes}
use Rattle.lw_lut.specs.Searches.{depth_in, IsKnown}
use Rattle.lw_lut.specs.declared.ports.TablePorts.{TablePorts}
use Rattle.lw_lut.specs.declared.table.Table.{Table}
use Rattle.lw_pool.specs.Numbers.{numbers}
use Rattle.lw_lut.proofs.Descent.{leaf_at_zero, needed_known}

pub numbers_more : (xs : List ClassId) (leaves : List ℕ) (i : ℕ) (c : ClassId) → numbers xs ≡ take i leaves → slice_get leaves i ≡ Some c.0 → numbers (xs ++ c ∷ []) ≡ take (i + 1) leaves
numbers_more xs leaves i c is at =
    map-append (λ (x : ClassId). x.0) xs (c ∷ [])
    ∙ (ap₂ (λ ys y. ys ++ y ∷ []) is (sym (get_or_from_slice_get leaves i c.0 0 at))
    ∙ sym (take_more leaves i 0 (slice_get_within leaves i c.0 at)))

pub split : (xs ys : List ℕ) (k c : ℕ) → slice_get (xs ++ ys) k ≡ Some c → (slice_get xs k ≡ Some c) ⊎ ((m : ℕ) × (slice_get ys m ≡ Some c) × (k ≡ length xs + m))
split [] ys k c e = inr (k, e, omega arith)
split (x ∷ xs) ys zero c e = inl e
split (x ∷ xs) ys (suc k) c e = elim (split xs ys k c e) [ inl f ↦ inl f | inr (m, f, s) ↦ inr (m, f, omega (arith, s)) ]

module _ (g : Graph) (most : ℕ) (lists : DepthLists) (least : AreLeastDepths g most lists) where
  deep : (c d : ℕ) → depth_in lists.depths c ≡ Some (suc d) → IsLeafClass g c → ⊥
  deep c d at (i, u) = let le = (subst (λ o. IsLeastDepth g most c o) at (least.least c)).1 (wire i) tt u in omega (arith, le)

  module _ (ports : TablePorts) (fit : AreFit g ports) (covered : All (λ (root : ClassId). IsKnown lists.depths root.0) ports.roots) (tables : List Table) (are : AreTables g most lists.depths (numbers ports.roots) tables) where
    table_at : (m c : ℕ) → slice_get (table_classes tables) m ≡ Some c → (t : Table) × (slice_get tables m ≡ Some t) × (t.out.0 ≡ c)
    table_at m c e = slice_get_map_back (λ (t : Table). t.out.0) tables m c e

    not_leaf : (m c : ℕ) → slice_get (table_classes tables) m ≡ Some c → IsLeafClass g c → ⊥
    not_leaf m c e input = let (t, at, s) = table_at m c e in (are.needed t (at_contained tables m t at)).1 (subst (IsLeafClass g) (sym s) input)

    pub outs_apart : (m n c : ℕ) → slice_get (table_classes tables) m ≡ Some c → slice_get (table_classes tables) n ≡ Some c → m < n → ⊥
    outs_apart m n c e f lt =
        let (t, at, s) = table_at m c e in
        let (u, bt, r) = table_at n c f in
        let d = are.each t (at_contained tables m t at) in
        let other : depth_in lists.depths u.out.0 ≡ Some (suc d.depth) = ap (depth_in lists.depths) (r ∙ sym s) ∙ d.depth_is in
        elim (are.sorted m n t u at bt lt (suc d.depth) (suc d.depth) d.depth_is other) [ inl l ↦ omega (arith, l) | inr (same, l) ↦ omega (arith, l, s, r) ]

    pub classes_below : (i c : ℕ) → slice_get (table_classes tables) i ≡ Some c → c < length lists.depths
    classes_below i c e =
        let (t, at, s) = table_at i c e in
        let d = are.each t (at_contained tables i t at) in
        let below = some_within lists.depths t.out.0 (suc d.depth) d.depth_is in
        omega (arith, below, s)

    pub outs_below : All (λ (t : Table). t.out.0 < length lists.depths) tables
    outs_below i z below =
        let t = get_or tables i z in
        let d = are.each t (at_contained tables i t (slice_get-get_or tables i z below)) in
        some_within lists.depths t.out.0 (suc d.depth) d.depth_is

    known : (c : ℕ) → IsNeeded (numbers ports.roots) tables c → IsKnown lists.depths c
    known = needed_known g most lists.depths ports.roots covered tables are.each

    module _ (inputs : List ClassId) (leaves : numbers inputs ≡ g.leaves) (names : List (List ℕ)) where
      in_net : (c : ℕ) → IsNeeded (numbers ports.roots) tables c → Contains (numbers inputs ++ table_classes tables) c
      in_net c n = let (e, at) = known c n in by_depth e at
        where
          by_depth : (e : ℕ) → depth_in lists.depths c ≡ Some e → Contains (numbers inputs ++ table_classes tables) c
          by_depth zero at =
              let (i, u) = leaf_at_zero g most lists least c at in
              Contains-append_left (numbers inputs) (table_classes tables) c (subst (λ xs. Contains xs c) (sym leaves) (at_contained g.leaves i c u))
          by_depth (suc e) at =
              let (t, k, s) = are.all c n (deep c e at) in
              Contains-append_right (numbers inputs) (table_classes tables) c (subst (λ x. Contains (table_classes tables) x) s (contains_map (λ (t : Table). t.out.0) tables t k))

      once : (i j c : ℕ) → slice_get (numbers inputs ++ table_classes tables) i ≡ Some c → slice_get (numbers inputs ++ table_classes tables) j ≡ Some c → i ≡ j
      once i j c e f = cases (split (numbers inputs) (table_classes tables) i c e) (split (numbers inputs) (table_classes tables) j c f)
        where
          leaf_at : (k : ℕ) → slice_get (numbers inputs) k ≡ Some c → slice_get g.leaves k ≡ Some c
          leaf_at k at = subst (λ xs. slice_get xs k ≡ Some c) leaves at

          cases : (slice_get (numbers inputs) i ≡ Some c) ⊎ ((m : ℕ) × (slice_get (table_classes tables) m ≡ Some c) × (i ≡ length (numbers inputs) + m)) → (slice_get (numbers inputs) j ≡ Some c) ⊎ ((m : ℕ) × (slice_get (table_classes tables) m ≡ Some c) × (j ≡ length (numbers inputs) + m)) → i ≡ j
          cases (inl a) (inl b) = fit.apart i j c (leaf_at i a) (leaf_at j b)
          cases (inl a) (inr (n, b, s)) = absurd (not_leaf n c b (i, leaf_at i a))
          cases (inr (m, a, s)) (inl b) = absurd (not_leaf m c a (j, leaf_at j b))
          cases (inr (m, a, s)) (inr (n, b, r)) = by_order (dec_lt m n) (dec_lt n m)
            where
              by_order : Dec (m < n) → Dec (n < m) → i ≡ j
              by_order (yes lt) other = absurd (outs_apart m n c a b lt)
              by_order (no ge) (yes lt) = absurd (outs_apart n m c b a lt)
              by_order (no ge) (no le) = omega (arith, ge, le, s, r)

      pub net_kept : IsTableNet (record { ports = ports; inputs = inputs; tables = tables; names = names })
      net_kept = record {
        once = once;
        roots = λ c k. in_net c (by_root k);
        fanins = λ t c k i. in_net c (by_fanin t (are.needed t k).0 k i);
      }

-- a class comes out of one table at most, and of none where it is an input's
module _ (n : PlainTableNet) (kept : IsTableNet n) where
  pub outs_once : (i j c : ℕ) → slice_get (table_classes n.tables) i ≡ Some c → slice_get (table_classes n.tables) j ≡ Some c → i ≡ j
  outs_once i j c e f =
      let xs = numbers n.inputs in
      let outs = table_classes n.tables in
      let same = kept.once (length xs + i) (length xs + j) c (slice_get_right xs outs i c e) (slice_get_right xs outs j c f) in
      omega (arith, same)

  pub no_input : (leaves : List ℕ) → numbers n.inputs ≡ leaves → (i j c : ℕ) → slice_get (table_classes n.tables) i ≡ Some c → slice_get leaves j ≡ Some c → ⊥
  no_input leaves are i j c e f =
      let xs = numbers n.inputs in
      let outs = table_classes n.tables in
      let input : slice_get xs j ≡ Some c = subst (λ cs. slice_get cs j ≡ Some c) (sym are) f in
      let same = kept.once (length xs + i) j c (slice_get_right xs outs i c e) (slice_get_left xs outs j c input) in
      let below = slice_get_within xs j c input in
      omega (arith, same, below)
