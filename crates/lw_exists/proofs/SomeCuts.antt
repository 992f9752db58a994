-- Least depths of tables, and a cut for each class that has one, cannot fail to be there.
use Rattle.std.proofs.Common.{ℕ, zero, suc, ◌+◌, ◌*◌, ◌/◌, ◌%◌, ◌==◌, ◌<◌, ◌≤◌, ◌≡◌, ◌⊎◌, inl, inr, Bool, true, false, not, List, [], ◌∷◌, ◌++◌, length, Option, Some, None, Contains, slice_get, slice_index_or, refl, ap, sym, ◌∙◌, subst, arith, length-append}
use Rattle.std.specs.List.{range_with_len}
use Rattle.std.proofs.lemmas.List.{get_or_past}
use Rattle.std.proofs.lemmas.List.Elements.{Contains-append_left, Contains-append_right}
use Rattle.std.proofs.lemmas.List.FromFn.{length-range_with_len, get_or-range_with_len}
use Rattle.std.proofs.lemmas.List.Sorted.{IsPermutation-sym, length_permutation, Contains-permutation}
use Rattle.std.proofs.lemmas.Option.{slice_get_within, get_or_from_slice_get}
use native.Mathlib.Decide.{dec_lt}
use Rattle.lw_facts.proofs.Lists.{get_append_cases, some_within}
use Rattle.lw_pool.specs.declared.id.ClassId.{ClassId}
use Rattle.lw_laws.specs.Flip.{flip}
use Rattle.lw_laws.specs.Graphs.{Graph, Unfolds}
use Rattle.lw_laws.specs.Trees.{Tree, leaf, const_one, const_zero, inv, nand, planted}
use Rattle.lw_laws.proofs.Flips.{flip-flip, flip_even, half-flip, even_or_odd}
use Rattle.lw_laws.proofs.Lists.{slice_get_some}
use Rattle.lw_graph.specs.Graphs.{IsGraph}
use Rattle.lw_lut.specs.Covers.{TableCover, TableCovers, tree_of, trees_of, leaves_of, HasPinsOnce, IsTableCover, AreTableCovers, depth_of, greatest_depth, IsLeastDepth}
use Rattle.lw_lut.specs.Covers.TableCover.{wire, table}
use Rattle.lw_lut.specs.Covers.TableCovers.{no_covers, cover}
use Rattle.lw_lut.specs.Cuts.{PlainCut, IsCutAt, is_odd, is_set}
use Rattle.lw_lut.specs.Depths.{DepthLists, IsTableCut, AreLeastDepths}
use Rattle.lw_lut.specs.Packed.{joined_bits}
use Rattle.lw_lut.specs.Searches.{depth_in, IsBelow}
use Rattle.lw_lut.proofs.Deep.{covered, unfolds_in}
use Rattle.lw_lut.proofs.Joining.{joined_cut, place_cut, class_cut}
use Rattle.lw_lut.proofs.Sides.{pin_cut}
use Rattle.lw_lut.proofs.Started.{one_stands}
use Rattle.lw_answers.proofs.MappedChecks.{class_id}
use Rattle.lw_exists.specs.Weakly.{Weakly}
use Rattle.lw_exists.proofs.Weak.{sure, and_then, weaker, either, weak_all, weak_least, some_list}

-- Cuts.

module _ (g : Graph) where
  -- a cut at the other class of a pair, or at the same
  moved_cut : (b c : ℕ) (cut : PlainCut) → b / 2 ≡ c / 2 → IsCutAt g b (is_odd b) cut → IsCutAt g c (is_odd c) cut
  moved_cut b c cut half is = class_cut g c cut (subst (λ h. IsCutAt g (2 * h) false cut) half (place_cut g b cut is))

  pin_at : (c : ℕ) → (cut : PlainCut) × IsCutAt g c (is_odd c) cut × (cut.pins ≡ class_id c ∷ [])
  pin_at c = by_bit (is_odd c) refl
    where
      by_bit : (b : Bool) → is_odd c ≡ b → (cut : PlainCut) × IsCutAt g c (is_odd c) cut × (cut.pins ≡ class_id c ∷ [])
      by_bit true e = (record { pins = class_id c ∷ []; bits = 1 }, pin_cut g (class_id c) 1 (sym e) (ap not (sym e)), refl)
      by_bit false e = (record { pins = class_id c ∷ []; bits = 2 }, pin_cut g (class_id c) 2 (sym e) (ap not (sym e)), refl)

  one_at : (c : ℕ) → c / 2 ≡ g.one / 2 → (cut : PlainCut) × IsCutAt g c (is_odd c) cut × (cut.pins ≡ [])
  one_at c half = by_bit (g.one % 2 == 0) refl
    where
      of_bits : (bits : ℕ) → is_set bits 0 ≡ (g.one % 2 == 0) → (cut : PlainCut) × IsCutAt g c (is_odd c) cut × (cut.pins ≡ [])
      of_bits bits set =
          let cut : PlainCut = record { pins = []; bits = bits } in
          (cut, class_cut g c cut (subst (λ h. IsCutAt g (2 * h) false cut) (sym half) (one_stands g bits set)), refl)

      by_bit : (b : Bool) → (g.one % 2 == 0) ≡ b → (cut : PlainCut) × IsCutAt g c (is_odd c) cut × (cut.pins ≡ [])
      by_bit true e = of_bits 1 (sym e)
      by_bit false e = of_bits 0 (sym e)

  module _ (ts : List Tree) where
    -- each pin is at a class at which the tree of a leaf unfolds
    abbrev ArePinsOf : Tree → List ClassId → Type 0
    ArePinsOf p pins =
        (k : ℕ) (q : ClassId) → slice_get pins k ≡ Some q → (i : ℕ) × Contains (leaves_of p) i × Unfolds g (planted (leaf i) ts) q.0

    abbrev HasCut : Tree → ℕ → Type 0
    HasCut p c = (cut : PlainCut) × IsCutAt g c (is_odd c) cut × (length cut.pins ≡ length (leaves_of p)) × ArePinsOf p cut.pins

    constant_cut : (p : Tree) (c : ℕ) → leaves_of p ≡ [] → c / 2 ≡ g.one / 2 → HasCut p c
    constant_cut p c empty half =
        let (cut, is, none) = one_at c half in
        (cut, is, ap length none ∙ sym (ap length empty), λ k q at. let lt = slice_get_within cut.pins k q at in let count = ap length none in absurd (omega arith))

    some_cut : (p : Tree) (c : ℕ) → Unfolds g (planted p ts) c → HasCut p c
    some_cut (leaf i) c u =
        let (cut, is, one) = pin_at c in
        (cut, is, ap length one, λ k q at. (i, (0, omega arith, refl), by_place k q (subst (λ (pins : List ClassId). slice_get pins k ≡ Some q) one at)))
      where
        by_place : (k : ℕ) (q : ClassId) → slice_get (class_id c ∷ []) k ≡ Some q → Unfolds g (planted (leaf i) ts) q.0
        by_place zero q at = let same : class_id c ≡ q = cc in subst (λ (x : ClassId). Unfolds g (planted (leaf i) ts) x.0) same u
        by_place (suc k) q at = cc
    some_cut const_one c u = constant_cut const_one c refl (ap (λ n. n / 2) u)
    some_cut const_zero c u = constant_cut const_zero c refl (ap (λ n. n / 2) u ∙ half-flip g.one)
    some_cut (inv p) c u =
        let (cut, is, count, pins) = some_cut p (flip c) u in
        (cut, moved_cut (flip c) c cut (half-flip c) is, count, pins)
    some_cut (nand p q) c (x, y, holds, a, b) =
        let (left, left_is, left_count, left_pins) = some_cut p x a in
        let (right, right_is, right_count, right_pins) = some_cut q y b in
        let pins = length-append left.pins right.pins in
        let leaves = length-append (leaves_of p) (leaves_of q) in (
          record { pins = left.pins ++ right.pins; bits = joined_bits left x right y c },
          joined_cut g c x y holds left right left_is right_is,
          omega arith,
          λ k r at. by_side left.pins right.pins left_pins right_pins k r (get_append_cases left.pins right.pins k r at),
        )
      where
        by_side : (xs ys : List ClassId) → ArePinsOf p xs → ArePinsOf q ys → (k : ℕ) (r : ClassId) → (slice_get xs k ≡ Some r) ⊎ ((j : ℕ) × (slice_get ys j ≡ Some r)) → (i : ℕ) × Contains (leaves_of p ++ leaves_of q) i × Unfolds g (planted (leaf i) ts) r.0
        by_side xs ys first second k r (inl at) = let (i, among, u) = first k r at in (i, Contains-append_left (leaves_of p) (leaves_of q) i among, u)
        by_side xs ys first second k r (inr (j, at)) = let (i, among, u) = second j r at in (i, Contains-append_right (leaves_of p) (leaves_of q) i among, u)

-- Depths.

module _ (g : Graph) (graph : IsGraph g) (most : ℕ) (two : 2 ≤ most) where
  abbrev IsCovered : ℕ → ℕ → Type 0
  IsCovered c d = (k : TableCover) × IsTableCover most k × Unfolds g (tree_of k) c × (depth_of k ≡ d)

  abbrev HasDepth : ℕ → Type 0
  HasDepth c = (o : Option ℕ) × IsLeastDepth g most c o

  weak_depth : (c : ℕ) → Weakly (HasDepth c)
  weak_depth c = and_then (either ((d : ℕ) × IsCovered c d)) by_cover
    where
      by_cover : ((d : ℕ) × IsCovered c d) ⊎ ((d : ℕ) × IsCovered c d → ⊥) → Weakly (HasDepth c)
      by_cover (inl (d, is)) =
          weaker (λ (m, attained, least). (Some m, (attained, λ k ok u. least (depth_of k) (k, ok, u, refl)))) (weak_least (IsCovered c) d is)
      by_cover (inr none) =
          sure (None, λ t u. let (k, ok, same) = covered most two t in none (depth_of k, (k, ok, subst (λ (s : Tree). Unfolds g s c) (sym same) u, refl)))

  -- the cover of a pin
  cover_at : (ks : TableCovers) (i : ℕ) (d : Tree) → i < length (trees_of ks) → AreTableCovers most ks → (k : TableCover) × IsTableCover most k × (slice_index_or (trees_of ks) i d ≡ tree_of k) × (depth_of k ≤ greatest_depth ks)
  cover_at no_covers i d lt oks = absurd (omega arith)
  cover_at (cover k ks) zero d lt (ok, oks) = (k, ok, refl, omega arith)
  cover_at (cover k ks) (suc i) d lt (ok, oks) =
      let (l, is, same, le) = cover_at ks i d (omega arith) oks in (l, is, same, omega arith)

  leaf_low : (m : ℕ) (p : Tree) (i : ℕ) → HasPinsOnce m p → Contains (leaves_of p) i → i < m
  leaf_low m p i once among =
      let (j, lt, e) = Contains-permutation (leaves_of p) (range_with_len 0 m) i (IsPermutation-sym (range_with_len 0 m) (leaves_of p) once) among in
      let n = length-range_with_len 0 m in
      let at = get_or-range_with_len 0 m j i (omega arith) in
      omega arith

  module _ (depths : List (Option ℕ)) (one_each : length depths ≡ length g.pairs) (are : (c : ℕ) → IsLeastDepth g most c (depth_in depths c)) where
    -- a class at which the tree of a cover unfolds is no deeper than the cover
    below_cover : (q : ClassId) (e : ℕ) (k : TableCover) → IsTableCover most k → Unfolds g (tree_of k) q.0 → depth_of k ≤ e → IsBelow depths (suc e) q.0
    below_cover q e k ok u le = by_depth (depth_in depths q.0) refl (are q.0)
      where
        by_depth : (o : Option ℕ) → depth_in depths q.0 ≡ o → IsLeastDepth g most q.0 o → IsBelow depths (suc e) q.0
        by_depth None at none = absurd (none (tree_of k) u)
        by_depth (Some d) at (attained, least) = let low = least k ok u in (d, at, omega arith)

    cut_at : (c e : ℕ) → depth_in depths c ≡ Some (suc e) → (cut : PlainCut) × IsTableCut g most depths c (suc e) cut
    cut_at c e at = by_cover (subst (λ o. IsLeastDepth g most c o) at (are c)).0
      where
        by_cover : IsCovered c (suc e) → (cut : PlainCut) × IsTableCut g most depths c (suc e) cut
        by_cover (wire i, ok, u, d) = absurd (omega arith)
        by_cover (table p ks, (few, once, oks), u, d) =
            let (cut, is, count, pins) = some_cut g (trees_of ks) p c u in
            let n = length_permutation (range_with_len 0 (length (trees_of ks))) (leaves_of p) once in
            let m = length-range_with_len 0 (length (trees_of ks)) in (
              cut,
              record {
                is = is;
                few = omega arith;
                below = λ k q here.
                    let (i, among, v) = pins k q here in
                    let (l, ok, same, le) = cover_at ks i (leaf i) (leaf_low (length (trees_of ks)) p i once among) oks in
                    below_cover q e l ok (subst (λ (t : Tree). Unfolds g t q.0) same v) (omega arith);
              },
            )

    -- both classes of a pair are as deep, unless one is an input's
    flip_least : (c e f : ℕ) → depth_in depths c ≡ Some (suc e) → depth_in depths (flip c) ≡ Some (suc f) → f ≤ e
    flip_least c e f at there = by_cover (subst (λ o. IsLeastDepth g most c o) at (are c)).0
      where
        by_cover : IsCovered c (suc e) → f ≤ e
        by_cover (wire i, ok, u, d) = absurd (omega arith)
        by_cover (table p ks, ok, u, d) =
            let le = (subst (λ o. IsLeastDepth g most (flip c) o) there (are (flip c))).1 (table (inv p) ks) ok (subst (λ n. Unfolds g (planted p (trees_of ks)) n) (sym (flip-flip c)) u) in
            omega arith

    flip_same : (c e f : ℕ) → depth_in depths c ≡ Some (suc e) → depth_in depths (flip c) ≡ Some (suc f) → f ≡ e
    flip_same c e f at there =
        let a = flip_least c e f at there in
        let b = flip_least (flip c) f e there (ap (depth_in depths) (flip-flip c) ∙ at) in
        omega arith

    -- the cut of a pair of classes
    abbrev IsCutOf : ℕ → PlainCut → Type 0
    IsCutOf p cut = (c e : ℕ) → c / 2 ≡ p → depth_in depths c ≡ Some (suc e) → IsTableCut g most depths c (suc e) cut

    at_flip : (c e f : ℕ) (cut : PlainCut) → depth_in depths c ≡ Some (suc e) → depth_in depths (flip c) ≡ Some (suc f) → IsTableCut g most depths c (suc e) cut → IsTableCut g most depths (flip c) (suc f) cut
    at_flip c e f cut at there is =
        let same = flip_same c e f at there in
        record { is = moved_cut g c (flip c) cut (sym (half-flip c)) is.is; few = is.few; below = subst (λ n. (k : ℕ) (q : ClassId) → slice_get cut.pins k ≡ Some q → IsBelow depths (suc n) q.0) (sym same) is.below }

    same_depth : (c e f : ℕ) (cut : PlainCut) → depth_in depths c ≡ Some (suc e) → depth_in depths c ≡ Some (suc f) → IsTableCut g most depths c (suc e) cut → IsTableCut g most depths c (suc f) cut
    same_depth c e f cut at there is = let same : suc e ≡ suc f = cc in subst (λ n. IsTableCut g most depths c n cut) same is

    both_classes : (p b e : ℕ) (cut : PlainCut) → b / 2 ≡ p → depth_in depths b ≡ Some (suc e) → IsTableCut g most depths b (suc e) cut → IsCutOf p cut
    both_classes p b e cut half at is c f own there = by_class (pair_of b c p half own)
      where
        pair_of : (b c p : ℕ) → b / 2 ≡ p → c / 2 ≡ p → (b ≡ c) ⊎ (flip b ≡ c)
        pair_of b c p h k = by_bits (even_or_odd b p h) (even_or_odd c p k)
          where
            by_bits : (b ≡ 2 * p) ⊎ (b ≡ 2 * p + 1) → (c ≡ 2 * p) ⊎ (c ≡ 2 * p + 1) → (b ≡ c) ⊎ (flip b ≡ c)
            by_bits (inl d) (inl e) = inl (d ∙ sym e)
            by_bits (inl d) (inr e) = inr (ap flip d ∙ (flip_even (2 * p) p refl ∙ sym e))
            by_bits (inr d) (inl e) = inr (ap flip (d ∙ sym (flip_even (2 * p) p refl)) ∙ (flip-flip (2 * p) ∙ sym e))
            by_bits (inr d) (inr e) = inl (d ∙ sym e)

        by_class : (b ≡ c) ⊎ (flip b ≡ c) → IsTableCut g most depths c (suc f) cut
        by_class (inl same) = same_depth c e f cut (ap (depth_in depths) (sym same) ∙ at) there (subst (λ n. IsTableCut g most depths n (suc e) cut) same is)
        by_class (inr same) =
            subst (λ n. IsTableCut g most depths n (suc f) cut) same (at_flip b e f cut at (ap (depth_in depths) same ∙ there) is)

    -- the class has a depth other than 0, or it has not
    abbrev IsDeep : ℕ → Type 0
    IsDeep c = (e : ℕ) × (depth_in depths c ≡ Some (suc e))

    deep_or_not : (c : ℕ) → IsDeep c ⊎ (IsDeep c → ⊥)
    deep_or_not c = by_depth (depth_in depths c) refl
      where
        by_depth : (o : Option ℕ) → depth_in depths c ≡ o → IsDeep c ⊎ (IsDeep c → ⊥)
        by_depth None at = inr (λ (e, deep). cc)
        by_depth (Some zero) at = inr (λ (e, deep). let no : zero ≡ suc e = cc in omega arith)
        by_depth (Some (suc e)) at = inl (e, at)

    some_place : (p : ℕ) → (cut : PlainCut) × IsCutOf p cut
    some_place p = by_classes (deep_or_not (2 * p)) (deep_or_not (2 * p + 1))
      where
        of_class : (b : ℕ) → b / 2 ≡ p → IsDeep b → (cut : PlainCut) × IsCutOf p cut
        of_class b half (e, at) = let (cut, is) = cut_at b e at in (cut, both_classes p b e cut half at is)

        neither : (IsDeep (2 * p) → ⊥) → (IsDeep (2 * p + 1) → ⊥) → (c : ℕ) → (c ≡ 2 * p) ⊎ (c ≡ 2 * p + 1) → IsDeep c → ⊥
        neither first second c (inl same) deep = first (subst IsDeep same deep)
        neither first second c (inr same) deep = second (subst IsDeep same deep)

        by_classes : IsDeep (2 * p) ⊎ (IsDeep (2 * p) → ⊥) → IsDeep (2 * p + 1) ⊎ (IsDeep (2 * p + 1) → ⊥) → (cut : PlainCut) × IsCutOf p cut
        by_classes (inl deep) other = of_class (2 * p) (omega arith) deep
        by_classes (inr not) (inl deep) = of_class (2 * p + 1) (omega arith) deep
        by_classes (inr not) (inr none) =
            (record { pins = []; bits = 0 }, λ c e half at. absurd (neither not none c (even_or_odd c p half) (e, at)))

    least_depths : (lists : DepthLists) × AreLeastDepths g most lists
    least_depths =
        let (cuts, count, cuts_are) = some_list IsCutOf (length g.pairs) (λ p lt. some_place p) in (
          record { depths = depths; cuts = cuts },
          record {
            one_each = one_each;
            least = are;
            tables = λ c e at.
                let lt = some_within depths c (suc e) at in
                let (cut, here) = slice_get_some cuts (c / 2) (omega arith) in
                (cut, here, cuts_are (c / 2) cut here c e refl at);
          },
        )

  by_depths : ((c : ℕ) → c < length g.pairs → HasDepth c) → (lists : DepthLists) × AreLeastDepths g most lists
  by_depths each =
      let (depths, count, depths_are) = some_list (IsLeastDepth g most) (length g.pairs) each in
      least_depths depths count (λ c. by_place depths count depths_are c (dec_lt c (length g.pairs)))
    where
      by_place : (depths : List (Option ℕ)) → length depths ≡ length g.pairs → ((c : ℕ) (o : Option ℕ) → slice_get depths c ≡ Some o → IsLeastDepth g most c o) → (c : ℕ) → Dec (c < length g.pairs) → IsLeastDepth g most c (depth_in depths c)
      by_place depths count depths_are c (yes lt) =
          let (o, at) = slice_get_some depths c (omega arith) in
          subst (λ (x : Option ℕ). IsLeastDepth g most c x) (sym (get_or_from_slice_get depths c o None at)) (depths_are c o at)
      by_place depths count depths_are c (no ge) =
          subst (λ (x : Option ℕ). IsLeastDepth g most c x) (sym (get_or_past depths c None (omega arith))) (λ t u. let lt = unfolds_in g graph t c u in omega arith)

  pub some_least_depths : Weakly ((lists : DepthLists) × AreLeastDepths g most lists)
  some_least_depths = weaker by_depths (weak_all HasDepth (length g.pairs) (λ c lt. weak_depth c))
