-- The needed classes from the deepest down, each with its table.
use Rattle.std.proofs.Common.{ℕ, zero, suc, drop, ◌^◌, ◌<◌, ◌≤◌, ◌≡◌, ◌/◌, ◌↔◌, inl, inr, Bool, true, false, List, [], ◌∷◌, ◌++◌, length, reverse, get_or, Contains, All, Option, Some, None, slice_get, slice_index_or, refl, ap, sym, ◌∙◌, subst, arith}
use Rattle.std.proofs.lemmas.List.{reverse-append}
use Rattle.std.proofs.lemmas.List.Elements.{Contains-push, Contains-push_cases, Contains-append_left, All-contains}
use Rattle.std.proofs.lemmas.Option.{same_Some, slice_get-get_or, slice_get_within}
use Rattle.lw_facts.proofs.Lists.{contains_cases, contains_tail, contained_in_map, at_contained, contained_at, some_within}
use Rattle.lw_pool.specs.declared.id.ClassId.{ClassId}
use Rattle.lw_laws.specs.Graphs.{Graph, Unfolds}
use Rattle.lw_laws.specs.Extracts.{IsLeafClass}
use Rattle.lw_needed.specs.declared.places.Place.{Place}
use Rattle.lw_needed.specs.Needed.{IsNoted, AreRoots, HasAlso}
use Rattle.lw_needed.specs.Places.{IsPlaceBefore}
use Rattle.lw_needed.proofs.Descent as descent
use Rattle.lw_lut.specs.declared.table.Table.{Table}
use Rattle.lw_laws.specs.Trees.{leaf}
use Rattle.lw_lut.specs.Covers.{TableCover, IsTableCover, tree_of, depth_of, IsLeastDepth}
use Rattle.lw_lut.specs.Covers.TableCover.{wire, table}
use Rattle.lw_lut.specs.Depths.{DepthLists, AreLeastDepths, IsTableCut}
use Rattle.lw_lut.specs.Packed.{packed}
use Rattle.lw_lut.specs.Tables.{IsTableAt, AreRisingClasses, table_value}
use Rattle.lw_lut.proofs.TablesAt.{cut_table}
use Rattle.lw_lut.specs.Cuts.{PlainCut}
use Rattle.lw_lut.specs.Searches.{depth_in, IsKnown}
use Rattle.lw_lut.specs.Choosing.{IsNeeded, IsTable, IsTableBefore, AreTables, ArePlaces, AreByDepth}
use Rattle.lw_lut.specs.Choosing.IsNeeded.{by_root, by_fanin}
use Rattle.lw_pool.specs.Numbers.{numbers}

needed_later : (roots : List ℕ) (t : Table) (ts : List Table) {c : ℕ} → IsNeeded roots ts c → IsNeeded roots (t ∷ ts) c
needed_later roots t ts (by_root k) = by_root k
needed_later roots t ts (by_fanin u n k i) = by_fanin u (needed_later roots t ts n) (contains_tail t ts u k) i

-- needed classes have a depth
pub needed_known : (g : Graph) (most : ℕ) (depths : List (Option ℕ)) (roots : List ClassId) → All (λ (root : ClassId). IsKnown depths root.0) roots → (tables : List Table) → ((t : Table) → Contains tables t → IsTable g most depths t) → (c : ℕ) → IsNeeded (numbers roots) tables c → IsKnown depths c
needed_known g most depths roots covered tables each c (by_root k) = let (x, i, e) = contained_in_map (λ (r : ClassId). r.0) roots c k in subst (IsKnown depths) e (All-contains (λ (r : ClassId). IsKnown depths r.0) roots x covered i)
needed_known g most depths roots covered tables each q (by_fanin t n k i) =
    let (x, j, e) = contained_in_map (λ (r : ClassId). r.0) t.fanins q i in
    let (d, at, lt) = (each t k).below x j in
    (d, ap (depth_in depths) (sym e) ∙ at)

-- the inputs' classes are those of depth 0
module _ (g : Graph) (most : ℕ) (lists : DepthLists) (least : AreLeastDepths g most lists) where
  pub leaf_at_zero : (c : ℕ) → depth_in lists.depths c ≡ Some 0 → IsLeafClass g c
  leaf_at_zero c at = by_cover (subst (λ o. IsLeastDepth g most c o) at (least.least c)).0
    where
      by_cover : (k : TableCover) × IsTableCover most k × Unfolds g (tree_of k) c × (depth_of k ≡ 0) → IsLeafClass g c
      by_cover (wire i, ok, u, e) = (i, u)
      by_cover (table p ks, ok, u, e) = absurd (omega (arith, e))

  pub leaf_depth : (c : ℕ) → IsLeafClass g c → depth_in lists.depths c ≡ Some 0
  leaf_depth c (i, u) = by_depth (depth_in lists.depths c) refl (least.least c)
    where
      by_depth : (o : Option ℕ) → depth_in lists.depths c ≡ o → IsLeastDepth g most c o → depth_in lists.depths c ≡ Some 0
      by_depth None at none = absurd (none (leaf i) u)
      by_depth (Some d) at (attained, low) = let le = low (wire i) tt u in at ∙ ap Some (omega (arith, le))

module _ (g : Graph) (most : ℕ) (depths : List (Option ℕ)) (roots : List ClassId) where
  -- What holds when some of the places have been seen, with the tables so far, the last one first.
  abbrev pub IsDown : List Place → List Bool → List Table → Type 0
  IsDown seen needed ups = descent.IsDown (λ (t : Table). t.out.0) (λ (t : Table). t.fanins) (IsTable g most depths) (λ (ups : List Table) (c : ℕ). IsNeeded (numbers roots) ups c) (IsTableBefore depths) (length depths) roots seen needed ups

  pub down_start : (needed : List Bool) → AreRoots roots (length depths) needed → IsDown [] needed []
  down_start needed are = descent.down_start (λ (t : Table). t.out.0) (λ (t : Table). t.fanins) (IsTable g most depths) (λ (ups : List Table) (c : ℕ). IsNeeded (numbers roots) ups c) (IsTableBefore depths) (length depths) roots needed (λ c k. by_root k) are

  -- a place of a class that is not needed
  pub down_skip : (seen : List Place) (needed : List Bool) (ups : List Table) (p : Place) → slice_index_or needed p.class.0 false ≡ false → IsDown seen needed ups → IsDown (seen ++ p ∷ []) needed ups
  down_skip = descent.down_skip (λ (t : Table). t.out.0) (λ (t : Table). t.fanins) (IsTable g most depths) (λ (ups : List Table) (c : ℕ). IsNeeded (numbers roots) ups c) (IsTableBefore depths) (length depths) roots

  -- a place of a needed class
  pub down_take : (seen : List Place) (needed new : List Bool) (ups : List Table) (p : Place) (t : Table) → slice_index_or needed p.class.0 false ≡ true → t.out ≡ p.class → IsTable g most depths t → HasAlso needed t.fanins new → depth_in depths p.class.0 ≡ Some p.depth → ((q : Place) → Contains seen q → depth_in depths q.class.0 ≡ Some q.depth) → ((q : Place) → Contains seen q → IsPlaceBefore p q) → IsDown seen needed ups → IsDown (seen ++ p ∷ []) new (t ∷ ups)
  down_take seen needed new ups p t noted out made also high high_seen before is =
      descent.down_take (λ (t : Table). t.out.0) (λ (t : Table). t.fanins) (IsTable g most depths) (λ (ups : List Table) (c : ℕ). IsNeeded (numbers roots) ups c) (IsTableBefore depths) (length depths) roots seen needed new ups p t (ap (λ n. slice_index_or needed n false) same ∙ noted) same made also (λ c n. needed_later (numbers roots) t ups n)
      (λ c n k. by_fanin t (needed_later (numbers roots) t ups n) (0, omega arith, refl) k)
      (λ q k i. not_fanin q (before q k) (high_seen q k) i)
      (λ u q k s. table_before q u s (before q k) (high_seen q k)) is
    where
      same : t.out.0 ≡ p.class.0
      same = ap (λ (z : ClassId). z.0) out

      p_depth : p.depth ≡ suc made.depth
      p_depth = same_Some p.depth (suc made.depth) (sym high ∙ (ap (depth_in depths) (sym same) ∙ made.depth_is))

      not_fanin : (q : Place) → IsPlaceBefore p q → depth_in depths q.class.0 ≡ Some q.depth → Contains (numbers t.fanins) q.class.0 → ⊥
      not_fanin q first deep k =
          let (x, i, e) = contained_in_map (λ (c : ClassId). c.0) t.fanins q.class.0 k in
          let (d, at, lt) = made.below x i in
          let s : d ≡ q.depth = same_Some d q.depth (sym at ∙ (ap (depth_in depths) e ∙ deep)) in
          let pd = p_depth in
          elim first [ inl l ↦ omega (arith, l, s, lt, pd) | inr (l, m) ↦ omega (arith, l, s, lt, pd) ]

      table_before : (q : Place) (u : Table) → q.class.0 ≡ u.out.0 → IsPlaceBefore p q → depth_in depths q.class.0 ≡ Some q.depth → IsTableBefore depths t u
      table_before q u here first deep d e at bt =
          let dp : d ≡ p.depth = same_Some d p.depth (sym at ∙ (ap (depth_in depths) same ∙ high)) in
          let eq : e ≡ q.depth = same_Some e q.depth (sym bt ∙ (ap (depth_in depths) (sym here) ∙ deep)) in
          elim first [ inl l ↦ inl (omega (arith, l, dp, eq)) | inr (l, m) ↦ inr (omega (arith, l, dp, eq), omega (arith, m, same, here)) ]

  -- the tables when all places have been seen
  pub down_end : (places seen : List Place) (needed : List Bool) (ups : List Table) → ArePlaces depths places → ((c : ℕ) → depth_in depths c ≡ Some 0 → IsLeafClass g c) → ((c : ℕ) → IsLeafClass g c → depth_in depths c ≡ Some 0) → All (λ (root : ClassId). IsKnown depths root.0) roots → ((p : Place) → Contains places p → Contains seen p) → IsDown seen needed ups → AreTables g most depths (numbers roots) ups
  down_end places seen needed ups are shallow leaves covered to is = record {
    each = is.each;
    needed = λ t k. (is.sound t.out.0 (is.noted t k), λ leaf. let made = is.each t k in let e = same_Some (suc made.depth) 0 (sym made.depth_is ∙ leaves t.out.0 leaf) in absurd (omega (arith, e)));
    all = λ c n out. let (e, at) = needed_known g most depths roots covered ups is.each c n in gate c (flagged c n) e at out;
    sorted = is.sorted;
  }
    where
      flagged : (c : ℕ) → IsNeeded (numbers roots) ups c → IsNoted needed c
      flagged c (by_root k) = is.at_roots c k
      flagged q (by_fanin t n k i) = is.at_parts t k q i

      gate : (c : ℕ) → IsNoted needed c → (e : ℕ) → depth_in depths c ≡ Some e → (IsLeafClass g c → ⊥) → (t : Table) × Contains ups t × (t.out.0 ≡ c)
      gate c noted zero at out = absurd (out (shallow c at))
      gate c noted (suc e) at out =
          let (p, k, s) = are.all c e at in
          let (t, i, f) = is.all p (to p k) (ap (λ n. slice_index_or needed n false) s ∙ noted) in
          (t, i, f ∙ s)

-- Places from one on.

drop_at : (places : List Place) (k : ℕ) (d : Place) → k < length places → drop k places ≡ get_or places k d ∷ drop (suc k) places
drop_at [] k d lt = absurd (omega arith)
drop_at (p ∷ ps) zero d lt = refl
drop_at (p ∷ ps) (suc k) d lt = drop_at ps k d (omega arith)

in_drop : (places : List Place) (k : ℕ) (q : Place) → Contains (drop k places) q → (j : ℕ) × (k ≤ j) × (slice_get places j ≡ Some q)
in_drop [] zero q (i, lt, e) = absurd (omega arith)
in_drop [] (suc k) q (i, lt, e) = absurd (omega arith)
in_drop (p ∷ ps) zero q h = let (j, e) = contained_at (p ∷ ps) q h in (j, omega arith, e)
in_drop (p ∷ ps) (suc k) q h = let (j, le, e) = in_drop ps k q h in (suc j, omega (arith, le), e)

module _ (g : Graph) (most : ℕ) (lists : DepthLists) (least : AreLeastDepths g most lists) (roots : List ClassId) (places : List Place) (by : AreByDepth lists.depths places) where
  abbrev depths : List (Option ℕ)
  depths = lists.depths

  abbrev DownAt : ℕ → List Bool → List Table → Type 0
  DownAt k needed tables = IsDown g most depths roots (drop k places) needed (reverse tables)

  place_depth : (q : Place) → Contains places q → depth_in depths q.class.0 ≡ Some q.depth
  place_depth q h = let (e, at, s) = by.are.each q h in at ∙ ap Some (sym s)

  rest_depth : (k : ℕ) (q : Place) → Contains (drop k places) q → depth_in depths q.class.0 ≡ Some q.depth
  rest_depth k q h = let (j, le, e) = in_drop places k q h in place_depth q (at_contained places j q e)

  before_rest : (k : ℕ) (d q : Place) → k < length places → Contains (drop (suc k) places) q → IsPlaceBefore (get_or places k d) q
  before_rest k d q lt h =
      let (j, le, e) = in_drop places (suc k) q h in
      by.sorted k j (get_or places k d) q (slice_get-get_or places k d lt) e (omega (arith, le))

  seen_again : (k : ℕ) (d : Place) (needed : List Bool) (ups : List Table) → k < length places → IsDown g most depths roots (drop (suc k) places ++ get_or places k d ∷ []) needed ups → IsDown g most depths roots (drop k places) needed ups
  seen_again k d needed ups lt is = subst (λ seen. IsDown g most depths roots seen needed ups) (sym (drop_at places k d lt)) (record {
    one_each = is.one_each;
    sound = is.sound;
    at_roots = is.at_roots;
    at_parts = is.at_parts;
    each = is.each;
    noted = is.noted;
    place = λ t h. let (p, i, e) = is.place t h in (p, front p i, e);
    all = λ p h. is.all p (back p h);
    sorted = is.sorted;
  })
    where
      front : (p : Place) → Contains (drop (suc k) places ++ get_or places k d ∷ []) p → Contains (get_or places k d ∷ drop (suc k) places) p
      front p h = elim (Contains-push_cases (drop (suc k) places) (get_or places k d) p h) [ inl i ↦ contains_tail (get_or places k d) (drop (suc k) places) p i | inr e ↦ (0, omega arith, e) ]

      back : (p : Place) → Contains (get_or places k d ∷ drop (suc k) places) p → Contains (drop (suc k) places ++ get_or places k d ∷ []) p
      back p h = elim (contains_cases (get_or places k d) (drop (suc k) places) p h) [
        | inl e ↦ subst (λ (z : Place). Contains (drop (suc k) places ++ get_or places k d ∷ []) z) e (Contains-push (drop (suc k) places) (get_or places k d))
        | inr i ↦ Contains-append_left (drop (suc k) places) (get_or places k d ∷ []) p i
      ]

  pub turn_skip : (k : ℕ) (d : Place) (needed : List Bool) (tables : List Table) → k < length places → slice_index_or needed (get_or places k d).class.0 false ≡ false → DownAt (suc k) needed tables → DownAt k needed tables
  turn_skip k d needed tables lt not is = seen_again k d needed (reverse tables) lt (down_skip g most depths roots (drop (suc k) places) needed (reverse tables) (get_or places k d) not is)

  -- the table of the class of a place
  pub turn_cut : (k : ℕ) (d : Place) → k < length places → (get_or places k d).class.0 / 2 < length lists.cuts
  turn_cut k d lt =
      let p = get_or places k d in
      let (e, at, s) = by.are.each p (at_contained places k p (slice_get-get_or places k d lt)) in
      let (cut, here, made) = least.tables p.class.0 e at in
      slice_get_within lists.cuts (p.class.0 / 2) cut here

  pub turn_class : (k : ℕ) (d : Place) → k < length places → (get_or places k d).class.0 < length depths
  turn_class k d lt =
      let p = get_or places k d in
      let (e, at, s) = by.are.each p (at_contained places k p (slice_get-get_or places k d lt)) in
      some_within depths p.class.0 (suc e) at

  table_made : (k : ℕ) (d : Place) → k < length places → (cut : PlainCut) → slice_get lists.cuts ((get_or places k d).class.0 / 2) ≡ Some cut → (t : Table) → t.out ≡ (get_or places k d).class → AreRisingClasses t.fanins → ((c : ClassId) → Contains t.fanins c ↔ Contains cut.pins c) → length t.fanins ≤ length cut.pins → t.bits ≡ packed (table_value cut (get_or places k d).class.0 (numbers t.fanins)) 0 (2 ^ length t.fanins) → IsTable g most depths t
  table_made k d lt cut here t out rising same few bits =
      let p = get_or places k d in
      let (e, at, s) = by.are.each p (at_contained places k p (slice_get-get_or places k d lt)) in
      let (cut', here', made') = least.tables p.class.0 e at in
      let made : IsTableCut g most depths p.class.0 (suc e) cut = subst (λ z. IsTableCut g most depths p.class.0 (suc e) z) (same_Some cut' cut (sym here' ∙ here)) made' in
      let stands : IsTableAt g most p.class.0 (numbers t.fanins) t.bits = subst (λ b. IsTableAt g most p.class.0 (numbers t.fanins) b) (sym bits) (cut_table g most p.class.0 cut t.fanins made.is made.few same) in
      record {
        at = subst (λ (c : ClassId). IsTableAt g most c.0 (numbers t.fanins) t.bits) (sym out) stands;
        few = let f = made.few in omega (arith, few, f);
        rising = rising;
        depth = e;
        depth_is = ap (λ (c : ClassId). depth_in depths c.0) out ∙ at;
        below = λ q h. let (j, f) = contained_at cut.pins q ((same q).0 h) in made.below j q f;
      }

  pub turn_fanins : (k : ℕ) (d : Place) → k < length places → (cut : PlainCut) → slice_get lists.cuts ((get_or places k d).class.0 / 2) ≡ Some cut → (fanins : List ClassId) → ((c : ClassId) → Contains fanins c ↔ Contains cut.pins c) → All (λ (c : ClassId). c.0 < length depths) fanins
  turn_fanins k d lt cut here fanins same i z below =
      let p = get_or places k d in
      let (e, at, s) = by.are.each p (at_contained places k p (slice_get-get_or places k d lt)) in
      let (cut', here', made') = least.tables p.class.0 e at in
      let x = get_or fanins i z in
      let (j, f) = contained_at cut.pins x ((same x).0 (at_contained fanins i x (slice_get-get_or fanins i z below))) in
      let (n, m, less) = made'.below j x (subst (λ (c : PlainCut). slice_get c.pins j ≡ Some x) (sym (same_Some cut' cut (sym here' ∙ here))) f) in
      some_within depths x.0 n m

  pub turn_take : (k : ℕ) (d : Place) → k < length places → (needed new : List Bool) (tables more : List Table) (cut : PlainCut) → slice_get lists.cuts ((get_or places k d).class.0 / 2) ≡ Some cut → (t : Table) → t.out ≡ (get_or places k d).class → AreRisingClasses t.fanins → ((c : ClassId) → Contains t.fanins c ↔ Contains cut.pins c) → length t.fanins ≤ length cut.pins → t.bits ≡ packed (table_value cut (get_or places k d).class.0 (numbers t.fanins)) 0 (2 ^ length t.fanins) → slice_index_or needed (get_or places k d).class.0 false ≡ true → HasAlso needed t.fanins new → more ≡ tables ++ t ∷ [] → DownAt (suc k) needed tables → DownAt k new more
  turn_take k d lt needed new tables more cut here t out rising same few bits noted also pushed is =
      let p = get_or places k d in
      let back : reverse more ≡ t ∷ reverse tables = ap reverse pushed ∙ reverse-append tables (t ∷ []) in
      subst (λ (ups : List Table). IsDown g most depths roots (drop k places) new ups) (sym back)
      (seen_again k d new (t ∷ reverse tables) lt
      (down_take g most depths roots (drop (suc k) places) needed new (reverse tables) p t noted out (table_made k d lt cut here t out rising same few bits) also (place_depth p (at_contained places k p (slice_get-get_or places k d lt))) (λ q h. rest_depth (suc k) q h) (λ q h. before_rest k d q lt h) is))

  pub turns_end : (needed : List Bool) (tables : List Table) → All (λ (root : ClassId). IsKnown depths root.0) roots → DownAt 0 needed tables → AreTables g most depths (numbers roots) (reverse tables)
  turns_end needed tables covered is = down_end g most depths roots places places needed (reverse tables) by.are (leaf_at_zero g most lists least) (leaf_depth g most lists least) covered (λ p h. h) (subst (λ seen. IsDown g most depths roots seen needed (reverse tables)) (drop_none places) is)
    where
      drop_none : (ps : List Place) → drop 0 ps ≡ ps
      drop_none [] = refl
      drop_none (p ∷ ps) = refl

pub drop_all : (ps : List Place) → drop (length ps) ps ≡ []
drop_all [] = refl
drop_all (p ∷ ps) = drop_all ps
