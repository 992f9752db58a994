-- Covers, and the depths that a search has found.
use Rattle.std.proofs.Common.{◌≡◌, ◌+◌, ◌/◌, ◌%◌, ◌<◌, ◌≤◌, inl, inr, ℕ, zero, suc, Bool, false, List, [], ◌∷◌, length, Option, Some, None, slice_get, slice_index, refl, ap, ap₂, sym, ◌∙◌, subst, subst₂, arith, length-append, All}
use Rattle.std.specs.List.{slice_index_or, range_with_len}
use Rattle.std.specs.List.Sorted.{IsPermutation}
use Rattle.std.proofs.lemmas.List.Sorted.{IsPermutation-refl}
use Rattle.std.proofs.lemmas.List.FromFn.{length-range_with_len}
use Rattle.std.proofs.lemmas.Option.{same_Some}
use Rattle.lw_pool.specs.declared.id.ClassId.{ClassId}
use Rattle.lw_laws.specs.Flip.{flip}
use Rattle.lw_laws.specs.Trees.{Tree, leaf, const_one, const_zero, inv, nand, planted}
use Rattle.lw_laws.specs.Graphs.{Graph, Unfolds}
use Rattle.lw_laws.proofs.Flips.{half-flip}
use Rattle.lw_laws.proofs.Extracts.{slice_get_left, slice_get_right}
use Rattle.lw_laws.proofs.Lists.{slice_get_some}
use Rattle.lw_laws.proofs.Covering.{UnfoldAt, planted_unfolds, length-UnfoldAt}
use Rattle.std.proofs.Math.Decide.{dec_le}
use Rattle.std.proofs.lemmas.List.Sorted.{length_permutation, All-permutation}
use Rattle.std.proofs.lemmas.List.FromFn.{get_or-range_with_len}
use Rattle.std.proofs.lemmas.Option.{slice_get_within, get_or_from_slice_get}
use Rattle.lw_graph.specs.Graphs.{IsGraph}
use Rattle.lw_lut.specs.Cuts.{PlainCut, IsCutAt, is_odd}
use Rattle.lw_lut.specs.Searches.{AreCounts, AreBounded, AreSettled, IsBelow, depth_in, IsKnown, AreDepthsUpTo, IsBoundedAt, count_at}
use Rattle.lw_lut.specs.declared.search.Search.{Search}
use Rattle.lw_lut.proofs.Joining.{class_cut}
use Rattle.lw_lut.proofs.Places.{none_some}
use Rattle.lw_lut.specs.Covers.{TableCover, TableCovers, tree_of, trees_of, leaves_of, HasPinsOnce, IsTableCover, AreTableCovers, depth_of, greatest_depth, IsLeastDepth}
use Rattle.lw_lut.specs.Covers.TableCover.{wire, table}
use Rattle.lw_lut.specs.Covers.TableCovers.{no_covers, cover}
use Rattle.lw_pool.specs.Numbers.{numbers}
use Rattle.lw_laws.proofs.Shared.{pair_within}
use Rattle.lw_lut.proofs.Numbers.{long}

-- Each tree has a cover by tables of at most two pins.

pub covered : (most : ℕ) → 2 ≤ most → (t : Tree) → (k : TableCover) × IsTableCover most k × (tree_of k ≡ t)
covered most two (leaf i) = (wire i, tt, refl)
covered most two const_one = (table const_one no_covers, (omega arith, IsPermutation-refl [], tt), refl)
covered most two const_zero = (table const_zero no_covers, (omega arith, IsPermutation-refl [], tt), refl)
covered most two (inv t) =
    let (k, is, e) = covered most two t in
    (table (inv (leaf 0)) (cover k no_covers), (omega (arith, two), IsPermutation-refl (0 ∷ []), (is, tt)), ap inv e)
covered most two (nand t u) =
    let (k, is, e) = covered most two t in
    let (l, has, f) = covered most two u in
    (table (nand (leaf 0) (leaf 1)) (cover k (cover l no_covers)), (two, IsPermutation-refl (0 ∷ 1 ∷ []), (is, (has, tt))), ap₂ (λ a b. nand a b) e f)

-- The counts bound the leaves of a tree over classes of one leaf each.

module _ (g : Graph) (counts : List ℕ) (one : count_at counts g.one ≡ 0) (bounded : (c : ℕ) → IsBoundedAt g counts c) where
  same_count : (c : ℕ) → count_at counts (flip c) ≡ count_at counts c
  same_count c = ap (slice_index counts) (half-flip c)

  pub leaves_bound : (p : Tree) (ts : List Tree) (c : ℕ) → ((k d : ℕ) → Unfolds g (planted (leaf k) ts) d → (i : ℕ) × (slice_get (leaves_of p) i ≡ Some k) → count_at counts d ≤ 1) → Unfolds g (planted p ts) c → count_at counts c ≤ length (leaves_of p)
  leaves_bound (leaf k) ts c at u = at k c u (0, refl)
  leaves_bound const_one ts c at u = let e : count_at counts c ≡ 0 = ap (count_at counts) u ∙ one in omega (arith, e)
  leaves_bound const_zero ts c at u = let e : count_at counts c ≡ 0 = ap (count_at counts) u ∙ (same_count g.one ∙ one) in omega (arith, e)
  leaves_bound (inv p) ts c at u = subst (λ n. n ≤ length (leaves_of p)) (same_count c) (leaves_bound p ts (flip c) at u)
  leaves_bound (nand p q) ts c at (x, y, h, u, v) =
      let a = leaves_bound p ts x (λ k d w (i, e). at k d w (i, slice_get_left (leaves_of p) (leaves_of q) i k e)) u in
      let b = leaves_bound q ts y (λ k d w (i, e). at k d w (length (leaves_of p) + i, slice_get_right (leaves_of p) (leaves_of q) i k e)) v in
      let m = bounded c x y h in
      let l = length-append (leaves_of p) (leaves_of q) in
      omega (arith, a, b, m, l)

-- Trees unfold at classes of the graph.

flip_below : (c n : ℕ) → n % 2 ≡ 0 → c < n → flip c < n
flip_below c n even lt = let h = half-flip c in omega (arith, h, even, lt)

below_flip : (c n : ℕ) → n % 2 ≡ 0 → flip c < n → c < n
below_flip c n even lt = let h = half-flip c in omega (arith, h, even, lt)

get_all : (P : ℕ → Type 0) (xs : List ℕ) (i x : ℕ) → All P xs → slice_get xs i ≡ Some x → P x
get_all P xs i x all e = subst P (get_or_from_slice_get xs i x x e) (all i x (slice_get_within xs i x e))

pub unfolds_in : (g : Graph) → IsGraph g → (t : Tree) (c : ℕ) → Unfolds g t c → c < length g.pairs
unfolds_in g is (leaf i) c u = get_all (λ d. d < length g.pairs) g.leaves i c is.leaves u
unfolds_in g is const_one c u = subst (λ d. d < length g.pairs) (sym u) is.one
unfolds_in g is const_zero c u = subst (λ d. d < length g.pairs) (sym u) (flip_below g.one (length g.pairs) is.even is.one)
unfolds_in g is (inv t) c u = below_flip c (length g.pairs) is.even (unfolds_in g is t (flip c) u)
unfolds_in g is (nand t v) c (x, y, h, a, b) = pair_within g c x y h

-- Pins.

pin_low : (m : ℕ) (p : Tree) (i k : ℕ) → HasPinsOnce m p → slice_get (leaves_of p) i ≡ Some k → k < m
pin_low m p i k once e =
    get_all (λ n. n < m) (leaves_of p) i k (All-permutation (λ n. n < m) (range_with_len 0 m) (leaves_of p) once low) e
  where
    low : All (λ n. n < m) (range_with_len 0 m)
    low j d lt = let l = length-range_with_len 0 m in let q : j < m = omega (arith, l, lt) in let r = get_or-range_with_len 0 m j d q in omega (arith, r, q)

leaf_count : (m : ℕ) (p : Tree) → HasPinsOnce m p → length (leaves_of p) ≡ m
leaf_count m p once = length_permutation (range_with_len 0 m) (leaves_of p) once ∙ length-range_with_len 0 m

index_at : (ts : List Tree) (k : ℕ) (d : Tree) → k < length ts → slice_get ts k ≡ Some (slice_index_or ts k d)
index_at [] k d lt = absurd (omega arith)
index_at (t ∷ ts) zero d lt = refl
index_at (t ∷ ts) (suc k) d lt = index_at ts k d (omega arith)

module _ (g : Graph) (most : ℕ) (is : IsGraph g) (counts : List ℕ) (depths : List (Option ℕ)) (one : count_at counts g.one ≡ 0) (bounded : AreBounded g counts) (low : (c : ℕ) → IsKnown depths c → count_at counts c ≤ 1) where
  all_bounded : (c : ℕ) → IsBoundedAt g counts c
  all_bounded c x y h = bounded c (pair_within g c x y h) x y h

  -- a table whose pins are at known classes has few leaves
  table_count : (p : Tree) (ks : TableCovers) (c : ℕ) → IsTableCover most (table p ks) → ((k : ℕ) (t : Tree) (d : ℕ) → slice_get (trees_of ks) k ≡ Some t → Unfolds g t d → IsKnown depths d) → Unfolds g (planted p (trees_of ks)) c → count_at counts c ≤ most
  table_count p ks c (few, once, are) known u =
      let at : (k d : ℕ) → Unfolds g (planted (leaf k) (trees_of ks)) d → (i : ℕ) × (slice_get (leaves_of p) i ≡ Some k) → count_at counts d ≤ 1 = λ k d w (i, e). low d (known k (slice_index_or (trees_of ks) k (leaf k)) d (index_at (trees_of ks) k (leaf k) (pin_low (length (trees_of ks)) p i k once e)) w) in
      let b = leaves_bound g counts one all_bounded p (trees_of ks) c at u in
      let n = leaf_count (length (trees_of ks)) p once in
      omega (arith, b, n, few)

  module _ (closed : (c : ℕ) → c < length g.pairs → count_at counts c ≤ most → IsKnown depths c) (inputs : (i c : ℕ) → slice_get g.leaves i ≡ Some c → IsKnown depths c) where
    mutual
      -- each class of a cover is known
      pub cover_known : (k : TableCover) (c : ℕ) → IsTableCover most k → Unfolds g (tree_of k) c → IsKnown depths c
      cover_known (wire i) c ok u = inputs i c u
      cover_known (table p ks) c ok u =
          closed c (unfolds_in g is (planted p (trees_of ks)) c u) (table_count p ks c ok (covers_known ks ok.2) u)

      covers_known : (ks : TableCovers) → AreTableCovers most ks → (k : ℕ) (t : Tree) (d : ℕ) → slice_get (trees_of ks) k ≡ Some t → Unfolds g t d → IsKnown depths d
      covers_known no_covers ok k t d e u = none_some e
      covers_known (cover x ks) ok zero t d e u = cover_known x d ok.0 (subst (λ r. Unfolds g r d) (sym (same_Some (tree_of x) t e)) u)
      covers_known (cover x ks) ok (suc k) t d e u = covers_known ks ok.1 k t d e u

-- Covers of depth d at most have classes that are known.
shallow_known : (g : Graph) (most : ℕ) (depths : List (Option ℕ)) (d : ℕ) → AreDepthsUpTo g most depths d → (ks : TableCovers) → AreTableCovers most ks → greatest_depth ks ≤ d → (k : ℕ) (t : Tree) (c : ℕ) → slice_get (trees_of ks) k ≡ Some t → Unfolds g t c → IsKnown depths c
shallow_known g most depths d up no_covers ok le k t c e u = none_some e
shallow_known g most depths d up (cover x ks) ok le zero t c e u =
    let (n, at, low) = up.all x c ok.0 (subst (λ r. Unfolds g r c) (sym (same_Some (tree_of x) t e)) u) (omega (arith, le)) in
    (n, at)
shallow_known g most depths d up (cover x ks) ok le (suc k) t c e u = shallow_known g most depths d up ks ok.1 (omega (arith, le)) k t c e u

-- Covers for the pins of a cut.
pin_covers : (g : Graph) (most d : ℕ) (depths : List (Option ℕ)) → AreDepthsUpTo g most depths d → (qs : List ClassId) → ((k : ℕ) (q : ClassId) → slice_get qs k ≡ Some q → IsBelow depths (suc d) q.0) → (ks : TableCovers) × AreTableCovers most ks × UnfoldAt g (trees_of ks) (numbers qs) × (greatest_depth ks ≤ d)
pin_covers g most d depths up [] known = (no_covers, tt, tt, omega arith)
pin_covers g most d depths up (q ∷ qs) known =
    let (e, at, lt) = known 0 q refl in
    let (k, is, u, le) = up.attained q.0 e at in
    let (ks, are, us, les) = pin_covers g most d depths up qs (λ i r f. known (suc i) r f) in
    (cover k ks, (is, are), (u, us), omega (arith, le, les, lt))

cut_cover : (g : Graph) (most d : ℕ) (depths : List (Option ℕ)) → AreDepthsUpTo g most depths d → (c : ℕ) (b : Bool) (cut : PlainCut) → IsCutAt g c b cut → length cut.pins ≤ most → ((k : ℕ) (q : ClassId) → slice_get cut.pins k ≡ Some q → IsBelow depths (suc d) q.0) → (k : TableCover) × IsTableCover most k × Unfolds g (tree_of k) c × (depth_of k ≤ suc d)
cut_cover g most d depths up c b cut is few known =
    let (ks, are, us, les) = pin_covers g most d depths up cut.pins known in
    let n : length (trees_of ks) ≡ length cut.pins = length-UnfoldAt g (trees_of ks) (numbers cut.pins) us ∙ long cut.pins in
    let once : HasPinsOnce (length (trees_of ks)) is.tree = subst₂ (λ m xs. IsPermutation (range_with_len 0 m) xs) (sym n) (sym is.pins) (IsPermutation-refl (range_with_len 0 (length cut.pins))) in
    (table is.tree ks, (omega (arith, n, few), once, are), planted_unfolds g is.tree (trees_of ks) (numbers cut.pins) c us is.stands, omega (arith, les))

module _ (g : Graph) (most d : ℕ) (is : IsGraph g) (old new : Search) (lists : AreCounts g most (suc d) old) (bounded : AreBounded g old.counts.items) (up : AreDepthsUpTo g most old.depths.items d) (changed : Bool) (settled : AreSettled most (suc d) old new (length old.counts.items) changed) where
  known_low : (c : ℕ) → IsKnown old.depths.items c → count_at old.counts.items c ≤ 1
  known_low c known = let (q, at) = lists.known c known in (lists.pin (c / 2) q at).low

  new_low : (c e : ℕ) → depth_in new.depths.items c ≡ Some e → e ≤ suc d
  new_low c e at = elim (settled.added c e at) [ inl o ↦ let l = up.low c e o in omega (arith, l) | inr (same, few, in_range) ↦ omega (arith, same) ]

  settled_known : (c : ℕ) → c < length g.pairs → count_at old.counts.items c ≤ most → IsKnown new.depths.items c
  settled_known c lt few = let p = lists.places in settled.all c (omega (arith, p, lt)) few

  next_attained : (c e : ℕ) → depth_in new.depths.items c ≡ Some e → (k : TableCover) × IsTableCover most k × Unfolds g (tree_of k) c × (depth_of k ≤ e)
  next_attained c e at = elim (settled.added c e at) [
    | inl o ↦ up.attained c e o
    | inr (same, few, in_range) ↦
        let l = lists.one_cut in
        let lt : c / 2 < length old.cuts.items = omega (arith, l, in_range) in
        let (cut, here) = slice_get_some old.cuts.items (c / 2) lt in
        let kept = lists.kept (c / 2) cut here few in
        subst (λ n. (k : TableCover) × IsTableCover most k × Unfolds g (tree_of k) c × (depth_of k ≤ n)) (sym same) (cut_cover g most d old.depths.items up c (is_odd c) cut (class_cut g c cut kept.is) kept.few kept.known)
  ]

  next_all : (k : TableCover) (c : ℕ) → IsTableCover most k → Unfolds g (tree_of k) c → depth_of k ≤ suc d → (e : ℕ) × (depth_in new.depths.items c ≡ Some e) × (e ≤ depth_of k)
  next_all k c ok u le = cases k ok u le (dec_le (depth_of k) d)
    where
      shallow : (k : TableCover) → IsTableCover most k → Unfolds g (tree_of k) c → depth_of k ≤ d → (e : ℕ) × (depth_in new.depths.items c ≡ Some e) × (e ≤ depth_of k)
      shallow k ok u low = let (e, at, l) = up.all k c ok u low in (e, settled.kept c e at, l)

      cases : (k : TableCover) → IsTableCover most k → Unfolds g (tree_of k) c → depth_of k ≤ suc d → Dec (depth_of k ≤ d) → (e : ℕ) × (depth_in new.depths.items c ≡ Some e) × (e ≤ depth_of k)
      cases k ok u le (yes low) = shallow k ok u low
      cases (wire i) ok u le (no high) = absurd (high (omega arith))
      cases (table p ks) ok u le (no high) =
          let few = table_count g most is old.counts.items old.depths.items lists.one bounded known_low p ks c ok (shallow_known g most old.depths.items d up ks ok.2 (omega (arith, le))) u in
          let (e, at) = settled_known c (unfolds_in g is (planted p (trees_of ks)) c u) few in
          let l = new_low c e at in
          (e, at, omega (arith, l, high))

  pub next_depths : AreDepthsUpTo g most new.depths.items (suc d)
  next_depths = record { low = new_low; attained = next_attained; all = next_all }

  -- Where nothing has changed, all depths are known, and least.
  pub last_depths : 2 ≤ most → changed ≡ false → (c : ℕ) → IsLeastDepth g most c (depth_in new.depths.items c)
  last_depths two still c = cases (depth_in new.depths.items c) refl
    where
      closed : (c : ℕ) → c < length g.pairs → count_at old.counts.items c ≤ most → IsKnown old.depths.items c
      closed c lt few = let (e, at) = settled_known c lt few in (e, settled.same still c e at)

      inputs : (i c : ℕ) → slice_get g.leaves i ≡ Some c → IsKnown old.depths.items c
      inputs i c at = let (e, f, l) = up.all (wire i) c tt at (omega arith) in (e, f)

      known : (k : TableCover) (c : ℕ) → IsTableCover most k → Unfolds g (tree_of k) c → IsKnown old.depths.items c
      known = cover_known g most is old.counts.items old.depths.items lists.one bounded known_low closed inputs

      least : (e : ℕ) → depth_in old.depths.items c ≡ Some e → (k : TableCover) → IsTableCover most k → Unfolds g (tree_of k) c → e ≤ depth_of k
      least e at k ok u = by_depth (dec_le (depth_of k) d)
        where
          by_depth : Dec (depth_of k ≤ d) → e ≤ depth_of k
          by_depth (yes low) = let (n, f, l) = up.all k c ok u low in let same = same_Some e n (sym at ∙ f) in omega (arith, same, l)
          by_depth (no high) = let l = up.low c e at in omega (arith, l, high)

      cases : (o : Option ℕ) → depth_in new.depths.items c ≡ o → IsLeastDepth g most c o
      cases None at = λ t u.
          let (k, ok, same) = covered most two t in
          let (e, f) = known k c ok (subst (λ r. Unfolds g r c) (sym same) u) in
          none_some (sym at ∙ settled.kept c e f)
      cases (Some e) at =
          let old_at = settled.same still c e at in
          let (k, ok, u, le) = up.attained c e old_at in
          let ge = least e old_at k ok u in
          ((k, ok, u, omega (arith, le, ge)), least e old_at)
