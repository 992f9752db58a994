-- The start of a search: the inputs' classes have depth 0.
use Rattle.std.proofs.Common.{◌≡◌, ◌≢◌, ◌+◌, ◌*◌, ◌/◌, ◌%◌, ◌<◌, ◌≤◌, ◌==◌, inl, inr, ℕ, zero, suc, true, false, List, [], ◌∷◌, length, Option, Some, None, slice_get, slice_index, slice_set, refl, ap, sym, ◌∙◌, subst, arith, if◌then◌else◌}
use Rattle.std.specs.Prelude.{replicate}
use Rattle.std.proofs.lemmas.Bool.{cases_eq}
use Rattle.std.proofs.lemmas.Option.{same_Some, slice_get_within}
use Rattle.std.proofs.lemmas.List.{length-set, get_or-set_same, get_or-set_other, get_or_past, length-replicate, get_or-replicate}
use Rattle.lw_laws.proofs.Lists.{slice_get_some}
use Rattle.std.proofs.Math.Decide.{dec_le}
use Rattle.lw_pool.specs.declared.id.ClassId.{ClassId}
use Rattle.lw_laws.specs.Trees.{const_one, const_zero}
use Rattle.lw_laws.specs.Graphs.{Graph, Unfolds}
use Rattle.lw_lut.specs.Covers.{TableCover, IsTableCover, tree_of, depth_of}
use Rattle.lw_lut.specs.Covers.TableCover.{wire, table}
use Rattle.lw_lut.specs.Cuts.{PlainCut, IsCutAt, is_odd, is_set}
use Rattle.lw_lut.specs.Searches.{AreLists, AreDepthsUpTo, IsKept, IsBelow, IsStarted, IsGiven, depth_in}
use Rattle.lw_lut.proofs.Places.{get_set, number_set, none_some, set_here, set_there}
use Rattle.lw_lut.proofs.Joining.{place_cut, by_parity}

module _ (g : Graph) (most seen : ℕ) (counts : List ℕ) (cuts : List PlainCut) (pins : List (Option ClassId)) (depths : List (Option ℕ)) (is : IsStarted g most seen counts cuts pins depths) (q : ClassId) (leaf : slice_get g.leaves seen ≡ Some q.0) (within : q.0 < length g.pairs) (cut : PlainCut) (alone : cut.pins ≡ q ∷ []) (stands : IsCutAt g q.0 (is_odd q.0) cut) where
  abbrev p : ℕ
  p = q.0 / 2

  here : p < length counts
  here = let l = is.places in omega (arith, l, within)

  in_depths : q.0 < length depths
  in_depths = let l = is.one_depth in omega (arith, l, within)

  now : depth_in (slice_set depths q.0 (Some 0)) q.0 ≡ Some 0
  now = get_or-set_same depths q.0 (Some 0) None in_depths

  zero_kept : (c : ℕ) → depth_in depths c ≡ Some 0 → depth_in (slice_set depths q.0 (Some 0)) c ≡ Some 0
  zero_kept c at = elim (cases_eq c q.0) [
    | inl same ↦ ap (depth_in (slice_set depths q.0 (Some 0))) same ∙ now
    | inr ne ↦ get_or-set_other depths q.0 c (Some 0) None ne ∙ at
  ]

  pub started_more : IsStarted g most (seen + 1) (slice_set counts p 1) (slice_set cuts p cut) (slice_set pins p (Some q)) (slice_set depths q.0 (Some 0))
  started_more = record {
    places = is.places ∙ ap (λ m. 2 * m) (sym (length-set counts p 1));
    one_cut = length-set cuts p cut ∙ (is.one_cut ∙ sym (length-set counts p 1));
    one_pin = length-set pins p (Some q) ∙ (is.one_pin ∙ sym (length-set counts p 1));
    one_depth = length-set depths q.0 (Some 0) ∙ is.one_depth;
    free = λ k at. elim (get_set pins p (Some q) k None at) [
      | inl (s, e) ↦ none_some (sym e)
      | inr (ne, e) ↦ elim (number_set counts p 1 k here) [ inl (s, n) ↦ absurd (ne s) | inr (o, n) ↦ n ∙ is.free k e ]
    ];
    given = λ k r at. elim (get_set pins p (Some q) k (Some r) at) [
      | inl (s, e) ↦ let l = is.one_cut in given_here k r s (same_Some q r e) (set_here cuts p cut (omega (arith, l, here)))
      | inr (ne, e) ↦
          let old = is.given k r e in
          record {
            of_place = old.of_place;
            depth = zero_kept r.0 old.depth;
            count = elim (number_set counts p 1 k here) [ inl (s, n) ↦ absurd (ne s) | inr (o, n) ↦ n ∙ old.count ];
            cut = old.cut;
            at = set_there cuts p cut k old.cut ne old.at;
            pins = old.pins;
            stands = old.stands;
          }
    ];
    known = λ c e at. elim (cases_eq c q.0) [
      | inl same ↦ (same_Some e 0 (sym at ∙ (ap (depth_in (slice_set depths q.0 (Some 0))) same ∙ now)), (seen, leaf ∙ ap Some (sym same)), (q, let l = is.one_pin in subst (λ k. slice_get (slice_set pins p (Some q)) k ≡ Some (Some q)) (ap (λ n. n / 2) (sym same)) (set_here pins p (Some q) (omega (arith, l, here)))))
      | inr ne ↦
          let (z, i, (r, f)) = is.known c e (sym (get_or-set_other depths q.0 c (Some 0) None ne) ∙ at) in (
            z,
            i,
            elim (cases_eq (c / 2) p) [
              | inl s ↦ (q, let l = is.one_pin in subst (λ k. slice_get (slice_set pins p (Some q)) k ≡ Some (Some q)) (sym s) (set_here pins p (Some q) (omega (arith, l, here))))
              | inr m ↦ (r, set_there pins p (Some q) (c / 2) (Some r) m f)
            ],
          )
    ];
    inputs = λ i c lt at. elim (cases_eq i seen) [
      | inl same ↦ let c_is : q.0 ≡ c = same_Some q.0 c (sym leaf ∙ (ap (slice_get g.leaves) (sym same) ∙ at)) in subst (λ n. depth_in (slice_set depths q.0 (Some 0)) n ≡ Some 0) c_is now
      | inr ne ↦ zero_kept c (is.inputs i c (omega (arith, lt, ne)) at)
    ];
  }
    where
      given_here : (k : ℕ) (r : ClassId) → k ≡ p → q ≡ r → slice_get (slice_set cuts p cut) p ≡ Some cut → IsGiven g (slice_set counts p 1) (slice_set cuts p cut) (slice_set depths q.0 (Some 0)) k r
      given_here k r s same at = record {
        of_place = subst (λ (t : ClassId). t.0 / 2 ≡ k) same (sym s);
        depth = subst (λ (t : ClassId). depth_in (slice_set depths q.0 (Some 0)) t.0 ≡ Some 0) same now;
        count = ap (slice_index (slice_set counts p 1)) s ∙ get_or-set_same counts p 1 0 here;
        cut = cut;
        at = ap (slice_get (slice_set cuts p cut)) s ∙ at;
        pins = subst (λ (t : ClassId). cut.pins ≡ t ∷ []) same alone;
        stands = subst (λ (t : ClassId). IsCutAt g t.0 (is_odd t.0) cut) same stands;
      }

-- The constants.

even_is : (n : ℕ) → (n % 2 == 0) ≡ (if is_odd n then false else true)
even_is n = elim (cases_eq (n % 2) 0) [
  | inl e ↦ rw e refl
  | inr ne ↦ let e : n % 2 ≡ 1 = omega (arith, ne) in rw e refl
]

pub one_stands : (g : Graph) (bits : ℕ) → is_set bits 0 ≡ (g.one % 2 == 0) → IsCutAt g (2 * (g.one / 2)) false (record { pins = []; bits = bits })
one_stands g bits set = elim (by_parity g.one) [
  | inl (same, odd) ↦ record {
    tree = const_one;
    pins = refl;
    stands = sym same;
    values = λ v. set ∙ (even_is g.one ∙ ap (λ b. if b then false else true) odd);
  }
  | inr (same, odd) ↦ record {
    tree = const_zero;
    pins = refl;
    stands = sym same;
    values = λ v. set ∙ (even_is g.one ∙ ap (λ b. if b then false else true) odd);
  }
]

module _ (g : Graph) (most : ℕ) (some : 1 ≤ most) (counts : List ℕ) (cuts : List PlainCut) (pins : List (Option ClassId)) (depths : List (Option ℕ)) (is : IsStarted g most (length g.leaves) counts cuts pins depths) (within : g.one < length g.pairs) (cut : PlainCut) (none : cut.pins ≡ []) (stands : IsCutAt g (2 * (g.one / 2)) false cut) where
  abbrev o : ℕ
  o = g.one / 2

  one_here : o < length counts
  one_here = let l = is.places in omega (arith, l, within)

  new_zero : slice_index (slice_set counts o 0) o ≡ 0
  new_zero = get_or-set_same counts o 0 0 one_here

  lower : (k : ℕ) → slice_index (slice_set counts o 0) k ≤ slice_index counts k
  lower k = elim (number_set counts o 0 k one_here) [ inl (s, e) ↦ omega (arith, e) | inr (ne, e) ↦ omega (arith, e) ]

  other : (k : ℕ) → k ≢ o → slice_index (slice_set counts o 0) k ≡ slice_index counts k
  other k ne = elim (number_set counts o 0 k one_here) [ inl (s, e) ↦ absurd (ne s) | inr (m, e) ↦ e ]

  no_pins : (k : ℕ) (q : ClassId) → slice_get cut.pins k ≡ Some q → {A : Type 0} → A
  no_pins k q at = none_some (subst (λ ps. slice_get ps k ≡ Some q) none at)

  pins_in : (k : ℕ) (c : PlainCut) → slice_get cuts k ≡ Some c → (m : Option ClassId) × (slice_get pins k ≡ Some m)
  pins_in k c at = let l = is.one_cut in let m = is.one_pin in let lt = slice_get_within cuts k c at in slice_get_some pins k (omega (arith, l, m, lt))

  count_in : (k : ℕ) → slice_index counts k ≤ suc most
  count_in k = by_place (dec_le (length counts) k)
    where
      by_pin : (m : Option ClassId) × (slice_get pins k ≡ Some m) → slice_index counts k ≤ suc most
      by_pin (None, at) = let e = is.free k at in omega (arith, e)
      by_pin (Some q, at) = let e = (is.given k q at).count in omega (arith, e)

      by_place : Dec (length counts ≤ k) → slice_index counts k ≤ suc most
      by_place (yes ge) = let e = get_or_past counts k 0 ge in omega (arith, e)
      by_place (no lt) = by_pin (slice_get_some pins k (let m = is.one_pin in omega (arith, m, lt)))

  old_kept : (k : ℕ) (c : PlainCut) → slice_get cuts k ≡ Some c → slice_index counts k ≤ most → (m : Option ClassId) → slice_get pins k ≡ Some m → IsKept g most 1 depths k c × (length c.pins ≡ 1) × (slice_index counts k ≡ 1)
  old_kept k c at low None here = let e = is.free k here in absurd (omega (arith, e, low))
  old_kept k c at low (Some q) here =
      let give = is.given k q here in
      let same : give.cut ≡ c = same_Some give.cut c (sym give.at ∙ at) in
      let ps : c.pins ≡ q ∷ [] = ap (λ (d : PlainCut). d.pins) (sym same) ∙ give.pins in
      let one : length c.pins ≡ 1 = ap length ps in (
        record {
          is = subst (λ n. IsCutAt g (2 * n) false c) give.of_place (place_cut g q.0 c (subst (λ d. IsCutAt g q.0 (is_odd q.0) d) same give.stands));
          few = omega (arith, one, some);
          known = λ i r e. only i r (subst (λ xs. slice_get xs i ≡ Some r) ps e);
          below = λ d e place deep i r f. let (z, rest, more) = is.known d (suc e) deep in absurd (omega (arith, z));
        },
        one,
        give.count,
      )
    where
      only : (i : ℕ) (r : ClassId) → slice_get (q ∷ []) i ≡ Some r → IsBelow depths 1 r.0
      only zero r e = subst (λ (t : ClassId). IsBelow depths 1 t.0) (same_Some q r e) (0, (is.given k q here).depth, omega arith)
      only (suc i) r e = none_some e

  pub started_lists : AreLists g most 1 1 (slice_set counts o 0) (slice_set cuts o cut) pins depths
  started_lists = record {
    places = is.places ∙ ap (λ m. 2 * m) (sym (length-set counts o 0));
    one_cut = length-set cuts o cut ∙ (is.one_cut ∙ sym (length-set counts o 0));
    one_pin = is.one_pin ∙ sym (length-set counts o 0);
    one_depth = is.one_depth;
    low = λ k. let l = lower k in let c = count_in k in omega (arith, l, c);
    one = new_zero;
    kept = λ k c at le. elim (get_set cuts o cut k c at) [
      | inl (s, e) ↦ subst (λ n. IsKept g most 1 depths n c) (sym s) (subst (λ d. IsKept g most 1 depths o d) e (record {
        is = stands;
        few = let n = ap length none in omega (arith, n);
        known = λ i r f. no_pins i r f;
        below = λ d e place deep i r f. no_pins i r f;
      }))
      | inr (ne, e) ↦ let (m, here) = pins_in k c e in (old_kept k c e (subst (λ n. n ≤ most) (other k ne) le) m here).0
    ];
    sized = λ k c at le free. elim (get_set cuts o cut k c at) [
      | inl (s, e) ↦ ap (λ (d : PlainCut). length d.pins) (sym e) ∙ (ap length none ∙ (sym new_zero ∙ ap (slice_index (slice_set counts o 0)) (sym s)))
      | inr (ne, e) ↦ let (m, here) = pins_in k c e in let old = old_kept k c e (subst (λ n. n ≤ most) (other k ne) le) m here in old.1 ∙ (sym old.2 ∙ sym (other k ne))
    ];
    pin = λ k q at. let give = is.given k q at in record { of_place = give.of_place; known = (0, give.depth, omega arith); low = let l = lower k in let c = give.count in omega (arith, l, c) };
    known = λ c known. let (e, at) = known in (is.known c e at).2;
  }

  pub started_depths : AreDepthsUpTo g most depths 0
  started_depths = record {
    low = λ c e at. let (z, rest, more) = is.known c e at in omega (arith, z);
    attained = λ c e at. let (z, (i, leaf), more) = is.known c e at in (wire i, tt, leaf, omega arith);
    all = shallow;
  }
    where
      shallow : (k : TableCover) (c : ℕ) → IsTableCover most k → Unfolds g (tree_of k) c → depth_of k ≤ 0 → (e : ℕ) × (depth_in depths c ≡ Some e) × (e ≤ depth_of k)
      shallow (wire i) c ok u le = (0, is.inputs i c (slice_get_within g.leaves i c u) u, omega arith)
      shallow (table p ks) c ok u le = absurd (omega (arith, le))

-- Nothing is known before the first input.
pub started_none : (g : Graph) (most n m : ℕ) (cuts : List PlainCut) → length g.pairs ≡ 2 * n → length cuts ≡ n → m ≡ length g.pairs → IsStarted g most 0 (replicate n (suc most)) cuts (replicate n None) (replicate m None)
started_none g most n m cuts places one_cut one_depth = record {
  places = places ∙ ap (λ k. 2 * k) (sym (length-replicate n (suc most)));
  one_cut = one_cut ∙ sym (length-replicate n (suc most));
  one_pin = length-replicate n None ∙ sym (length-replicate n (suc most));
  one_depth = length-replicate m None ∙ one_depth;
  free = λ k at. get_or-replicate n k (suc most) 0 (let l = length-replicate {A = Option ClassId} n None in let lt = slice_get_within (replicate n None) k None at in omega (arith, l, lt));
  given = λ k q at. none_in n k q at;
  known = λ c e at. no_depth m c e at;
  inputs = λ i c lt at. absurd (omega (arith, lt));
}
  where
    none_in : (n k : ℕ) (q : ClassId) → slice_get (replicate n None) k ≡ Some (Some q) → {A : Type 0} → A
    none_in zero k q e = none_some e
    none_in (suc n) zero q e = none_some (same_Some None (Some q) e)
    none_in (suc n) (suc k) q e = none_in n k q e

    no_depth : (n k e : ℕ) → depth_in (replicate n None) k ≡ Some e → {A : Type 0} → A
    no_depth zero k e at = none_some at
    no_depth (suc n) zero e at = none_some at
    no_depth (suc n) (suc k) e at = no_depth n k e at
