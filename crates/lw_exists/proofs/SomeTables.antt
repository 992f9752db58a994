-- Tables for the needed classes of a graph cannot fail to be there.
use Rattle.std.proofs.Common.{ℕ, zero, suc, ◌+◌, ◌^◌, ◌<◌, ◌≤◌, ◌≡◌, ◌⊎◌, ◌↔◌, inl, inr, List, [], ◌∷◌, ◌++◌, length, map, take, get_or, All, Option, Some, None, unwrap_or, Contains, slice_index_or, refl, ap, sym, ◌∙◌, subst, arith}
use Rattle.std.specs.List.Sorted.{IsPermutation, IsNonDecreasingBy}
use Rattle.std.proofs.lemmas.List.Elements.{All-contains}
use Rattle.std.proofs.lemmas.Option.{get_or_from_slice_get}
use Rattle.lw_facts.proofs.Lists.{all_by_place, contained_at, contained_in_map, contains_map, at_contained, some_within}
use Rattle.lw_pool.specs.declared.id.ClassId.{ClassId}
use Rattle.lw_pool.specs.Numbers.{numbers}
use Rattle.lw_laws.specs.Extracts.{IsGateBefore, IsLeafClass}
use Rattle.lw_laws.specs.Graphs.{Graph}
use Rattle.lw_laws.proofs.Lists.{slice_get_some}
use Rattle.lw_laws.proofs.Numbers.{slice_get_map_back}
use Rattle.lw_dag.specs.Ordering.{greatest}
use Rattle.lw_net.proofs.Buckets.{buckets, moved, rising, within_greatest}
use Rattle.lw_lut.specs.declared.table.Table.{Table}
use Rattle.lw_lut.specs.Choosing.{IsNeeded, IsTable, IsTableBefore, AreTables}
use Rattle.lw_lut.specs.Choosing.IsNeeded.{by_root, by_fanin}
use Rattle.lw_lut.specs.Depths.{DepthLists, AreLeastDepths}
use Rattle.lw_lut.specs.Packed.{packed}
use Rattle.lw_lut.specs.Searches.{depth_in, IsKnown}
use Rattle.lw_lut.specs.Tables.{AreRisingClasses, IsAdded, table_value}
use Rattle.lw_lut.proofs.Descent.{leaf_at_zero, leaf_depth}
use Rattle.lw_lut.proofs.RisingClasses.{AreGathered, gathered_step, gathered_all}
use Rattle.lw_lut.proofs.TablesAt.{cut_table}
use Rattle.lw_answers.proofs.MappedChecks.{class_id}
use Rattle.lw_exists.specs.Weakly.{Weakly}
use Rattle.lw_exists.proofs.Weak.{sure, and_then, weaker, either, weak_all, Decided, weak_decided, some_list}
use Rattle.lw_exists.proofs.Sorted.{AreSorted, some_sorted, sorted_at}

-- Classes in rising order.

module _ (classes : List ClassId) where
  abbrev key : ClassId → ℕ
  key c = suc c.0

  abbrev sorted : List ClassId
  sorted = buckets key 1 (greatest (map key classes)) classes

  sorted_moved : IsPermutation classes sorted
  sorted_moved =
      moved key 1 (greatest (map key classes)) classes (within_greatest key classes (all_by_place (λ (c : ClassId). 1 ≤ key c) classes (λ k c at. omega arith)))

  up : IsNonDecreasingBy (λ (c : ClassId). c.0) sorted
  up i j d le lt = let step = rising key 1 (greatest (map key classes)) classes i j d le lt in omega arith

  abbrev HasGathered : ℕ → Type 0
  HasGathered k = (gathered : List ClassId) × AreGathered (take k sorted) gathered

  abbrev unknown : ClassId
  unknown = class_id 0

  weak_gathered : (k : ℕ) → k ≤ length sorted → Weakly (HasGathered k)
  weak_gathered zero le = sure ([], record { rising = λ i j x y e f lt. cc; from = λ c among. among; to = λ c among. among; few = omega arith })
  weak_gathered (suc k) le = and_then (weak_gathered k (omega arith)) (λ (gathered, are). weaker (one_more gathered are) (either (Contains gathered (get_or sorted k unknown))))
    where
      with_next : (gathered new : List ClassId) → AreGathered (take k sorted) gathered → IsAdded gathered (get_or sorted k unknown) new → HasGathered (suc k)
      with_next gathered new are added =
          let same : k + 1 ≡ suc k = omega arith in
          (new, subst (λ n. AreGathered (take n sorted) new) same (gathered_step sorted gathered new k unknown up (omega arith) added are))

      one_more : (gathered : List ClassId) → AreGathered (take k sorted) gathered → Contains gathered (get_or sorted k unknown) ⊎ (Contains gathered (get_or sorted k unknown) → ⊥) → HasGathered (suc k)
      one_more gathered are (inl there) = with_next gathered gathered are (inl (there, refl))
      one_more gathered are (inr not) = with_next gathered (gathered ++ get_or sorted k unknown ∷ []) are (inr (not, refl))

  -- the classes, each once and in rising order
  abbrev AreRisingFrom : List ClassId → Type 0
  AreRisingFrom fanins =
      AreRisingClasses fanins × ((c : ClassId) → Contains fanins c ↔ Contains classes c) × (length fanins ≤ length classes)

  weak_rising : Weakly ((fanins : List ClassId) × AreRisingFrom fanins)
  weak_rising =
      weaker (λ (gathered, are). (gathered, gathered_all classes sorted gathered (length sorted) sorted_moved (omega arith) are)) (weak_gathered (length sorted) (omega arith))

-- Tables.

module _ (g : Graph) (most : ℕ) (lists : DepthLists) (least : AreLeastDepths g most lists) (roots : List ClassId) (covered : All (λ (root : ClassId). IsKnown lists.depths root.0) roots) where
  abbrev depth_of_class : ℕ → Option ℕ
  depth_of_class c = depth_in lists.depths c

  abbrev IsTableOfClass : ℕ → Table → Type 0
  IsTableOfClass c t = (e : ℕ) → depth_of_class c ≡ Some (suc e) → IsTable g most lists.depths t × (t.out.0 ≡ c)

  abbrev empty_table : Table
  empty_table = record { out = class_id 0; fanins = []; bits = 0 }

  weak_table : (c : ℕ) → Weakly ((t : Table) × IsTableOfClass c t)
  weak_table c = by_depth (depth_of_class c) refl
    where
      at_depth : (e : ℕ) → depth_of_class c ≡ Some (suc e) → Weakly ((t : Table) × IsTableOfClass c t)
      at_depth e at =
          let (cut, here, is) = least.tables c e at in
          weaker (λ (fanins, (rises, same, few)).
          let bits = packed (table_value cut c (numbers fanins)) 0 (2 ^ length fanins) in
          let few_pins = is.few in
          let t : Table = record { out = class_id c; fanins = fanins; bits = bits } in
          let own : IsTable g most lists.depths t = record {
            at = cut_table g most c cut fanins is.is is.few same;
            few = omega arith;
            rising = rises;
            depth = e;
            depth_is = at;
            below = λ q among. let (k, there) = contained_at cut.pins q ((same q).0 among) in is.below k q there;
          } in
          (t, λ f there. (own, refl))) (weak_rising cut.pins)

      by_depth : (o : Option ℕ) → depth_of_class c ≡ o → Weakly ((t : Table) × IsTableOfClass c t)
      by_depth None at = sure (empty_table, λ e there. cc)
      by_depth (Some zero) at = sure (empty_table, λ e there. let no : zero ≡ suc e = cc in absurd (omega arith))
      by_depth (Some (suc e)) at = at_depth e at

  module _ (table_of : ℕ → Table) (table_is : (c e : ℕ) → depth_of_class c ≡ Some (suc e) → IsTable g most lists.depths (table_of c) × ((table_of c).out.0 ≡ c)) where
    -- the roots, and the fan-ins of tables of what is needed
    data Need : ℕ → Type 0 where
      of_root : {c : ℕ} → Contains (numbers roots) c → Need c
      of_fanin : {q : ℕ} (c e : ℕ) → Need c → depth_of_class c ≡ Some (suc e) → Contains (numbers (table_of c).fanins) q → Need q

    abbrev HasTable : ℕ → Type 0
    HasTable c = Need c × (IsLeafClass g c → ⊥)

    known : {c : ℕ} → Need c → IsKnown lists.depths c
    known (of_root {c = c} among) =
        let (root, in', same) = contained_in_map (λ (r : ClassId). r.0) roots c among in
        subst (IsKnown lists.depths) same (All-contains (λ (r : ClassId). IsKnown lists.depths r.0) roots root covered in')
    known (of_fanin {q = q} c e need at among) =
        let (pin, in', same) = contained_in_map (λ (r : ClassId). r.0) (table_of c).fanins q among in
        let (d, there, lt) = (table_is c e at).0.below pin in' in
        subst (IsKnown lists.depths) same (d, there)

    deep : (c : ℕ) → HasTable c → (e : ℕ) × (depth_of_class c ≡ Some (suc e))
    deep c (need, inner) = let (d, at) = known need in by_depth d at
      where
        by_depth : (d : ℕ) → depth_of_class c ≡ Some d → (e : ℕ) × (depth_of_class c ≡ Some (suc e))
        by_depth zero at = absurd (inner (leaf_at_zero g most lists least c at))
        by_depth (suc e) at = (e, at)

    no_leaf : (c e : ℕ) → depth_of_class c ≡ Some (suc e) → IsLeafClass g c → ⊥
    no_leaf c e at input =
        let zero_at = leaf_depth g most lists least c input in let no : suc e ≡ 0 = cc in omega arith

    abbrev heights : ℕ → ℕ
    heights c = unwrap_or (depth_of_class c) 0

    module _ (classes : List ℕ) (sorted_classes : AreSorted heights classes) (those : (c : ℕ) → Contains classes c ↔ ((c < length lists.depths) × HasTable c)) where
      abbrev tables : List Table
      tables = map table_of classes

      -- the class of a table
      abbrev IsOf : Table → ℕ → Type 0
      IsOf t c = Contains classes c × (table_of c ≡ t)

      table_class : (t : Table) → Contains tables t → (c : ℕ) × IsOf t c
      table_class t among = let (c, in', same) = contained_in_map table_of classes t among in (c, (in', same))

      is_table : (c : ℕ) → Contains classes c → IsTable g most lists.depths (table_of c) × ((table_of c).out.0 ≡ c)
      is_table c among = let (lt, has) = (those c).0 among in let (e, at) = deep c has in table_is c e at

      to : {c : ℕ} → IsNeeded (numbers roots) tables c → Need c
      to (by_root among) = of_root among
      to (by_fanin {q = q} t needed in' among) =
          let (c, (at, same)) = table_class t in' in
          let (lt, (need, inner)) = (those c).0 at in
          let (e, depth) = deep c (need, inner) in
          of_fanin c e need depth (subst (λ (u : Table). Contains (numbers u.fanins) q) (sym same) among)

      from : {c : ℕ} → Need c → IsNeeded (numbers roots) tables c
      from (of_root among) = by_root among
      from (of_fanin c e need depth among) =
          let in' = (those c).1 (some_within lists.depths c (suc e) depth, (need, no_leaf c e depth)) in
          let own = (table_is c e depth).1 in
          by_fanin (table_of c) (subst (IsNeeded (numbers roots) tables) (sym own) (from need)) (contains_map table_of classes c in') among

      height_is : (c d : ℕ) (t : Table) → IsOf t c → depth_of_class t.out.0 ≡ Some d → heights c ≡ d
      height_is c d t (among, same) at =
          let own : t.out.0 ≡ c = subst (λ (u : Table). u.out.0 ≡ c) same (is_table c among).1 in
          ap (λ o. unwrap_or o 0) (ap depth_of_class (sym own) ∙ at)

      in_order : (c d : ℕ) (t u : Table) → IsOf t c → IsOf u d → IsGateBefore heights c d → IsTableBefore lists.depths t u
      in_order c d t u of_t of_u before e f at there = by_order before
        where
          by_order : IsGateBefore heights c d → (e < f) ⊎ ((e ≡ f) × (t.out.0 < u.out.0))
          by_order (inl lt) = let a = height_is c e t of_t at in let b = height_is d f u of_u there in inl (omega arith)
          by_order (inr (same, lt)) =
              let a = height_is c e t of_t at in
              let b = height_is d f u of_u there in
              let p : t.out.0 ≡ c = subst (λ (x : Table). x.out.0 ≡ c) of_t.1 (is_table c of_t.0).1 in
              let q : u.out.0 ≡ d = subst (λ (x : Table). x.out.0 ≡ d) of_u.1 (is_table d of_u.0).1 in
              inr (omega arith, omega arith)

      are_tables : AreTables g most lists.depths (numbers roots) tables
      are_tables = record {
        each = λ t among.
            let (c, (in', same)) = table_class t among in
            subst (IsTable g most lists.depths) same (is_table c in').0;
        needed = λ t among.
            let (c, (in', same)) = table_class t among in
            let own : t.out.0 ≡ c = subst (λ (u : Table). u.out.0 ≡ c) same (is_table c in').1 in
            let (lt, (need, inner)) = (those c).0 in' in
            (subst (IsNeeded (numbers roots) tables) (sym own) (from need), λ input. inner (subst (IsLeafClass g) own input));
        all = λ c needed inner.
            let need = to needed in
            let (d, at) = known need in
            let in' = (those c).1 (some_within lists.depths c d at, (need, inner)) in
            (table_of c, contains_map table_of classes c in', (is_table c in').1);
        sorted = λ i j t u e f lt.
            let (c, at, same) = slice_get_map_back table_of classes i t e in
            let (d, there, also) = slice_get_map_back table_of classes j u f in
            in_order c d t u (at_contained classes i c at, same) (at_contained classes j d there, also) (sorted_at heights classes sorted_classes i j c d at there lt);
      }

    abbrev HasTables : Type 0
    HasTables = (tables : List Table) × AreTables g most lists.depths (numbers roots) tables

    by_need : Decided HasTable (length lists.depths) → HasTables
    by_need d =
        let (classes, (few, sorted_classes, those)) = some_sorted heights HasTable (length lists.depths) d in
        (map table_of classes, are_tables classes sorted_classes those)

    decided_tables : Weakly HasTables
    decided_tables = weaker by_need (weak_decided HasTable (length lists.depths))

  pub some_tables : Weakly ((tables : List Table) × AreTables g most lists.depths (numbers roots) tables)
  some_tables =
      and_then (weak_all (λ c. (t : Table) × IsTableOfClass c t) (length lists.depths) (λ c lt. weak_table c)) (λ each.
      let (every, count, are) = some_list IsTableOfClass (length lists.depths) each in
      decided_tables (λ c. slice_index_or every c empty_table) (λ c e at.
      let (t, there) = slice_get_some every c (let lt = some_within lists.depths c (suc e) at in omega arith) in
      subst (λ (u : Table). IsTable g most lists.depths u × (u.out.0 ≡ c)) (sym (get_or_from_slice_get every c t empty_table there)) (are c t there e at)))
