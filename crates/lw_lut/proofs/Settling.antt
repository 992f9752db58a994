-- A place that gets a depth and a pin.
use Rattle.std.proofs.Common.{◌≡◌, ◌≢◌, ◌*◌, ◌/◌, ◌<◌, ◌≤◌, min, inl, inr, ℕ, suc, Bool, List, length, Option, Some, None, slice_get, slice_index, slice_set, refl, ap, sym, ◌∙◌, subst, arith}
use Rattle.std.proofs.lemmas.Bool.{cases_eq}
use Rattle.std.proofs.lemmas.Option.{same_Some}
use Rattle.std.proofs.lemmas.List.{length-set}
use Rattle.lw_pool.specs.declared.id.ClassId.{ClassId}
use Rattle.lw_laws.specs.Graphs.{Graph}
use Rattle.lw_laws.proofs.Lists.{slice_get_some}
use Rattle.lw_lut.specs.Cuts.{PlainCut}
use Rattle.lw_lut.specs.Searches.{AreLists, IsBelow, IsKept, IsDeepened, depth_in}
use Rattle.lw_lut.proofs.Places.{get_set, number_set, none_some, set_here, set_there}

module _ (g : Graph) (most d : ℕ) (counts : List ℕ) (cuts : List PlainCut) (pins : List (Option ClassId)) (depths new : List (Option ℕ)) (p : ℕ) (changed : Bool) (q : ClassId) (n : ℕ) (lists : AreLists g most d (suc d) counts cuts pins depths) (low : (c e : ℕ) → depth_in depths c ≡ Some e → e ≤ d) (within : p < length counts) (few : slice_index counts p ≤ most) (deep : IsDeepened depths p d new changed) (some : (r : ClassId) → slice_get pins p ≡ Some (Some r) → q ≡ r) (none : slice_get pins p ≡ Some None → q.0 ≡ 2 * p) (is : n ≡ min (slice_index counts p) 1) where
  below : (l c : ℕ) → IsBelow depths l c → IsBelow new l c
  below l c (e, at, lt) = (e, deep.kept c e at, lt)

  pub deep_low : (c e : ℕ) → depth_in new c ≡ Some e → e ≤ d
  deep_low c e at = elim (deep.added c e at) [ inl o ↦ low c e o | inr (same, here, none) ↦ omega (arith, same) ]

  same_count : (k : ℕ) → k ≢ p → slice_index (slice_set counts p n) k ≡ slice_index counts k
  same_count k ne = elim (number_set counts p n k within) [ inl (same, e) ↦ absurd (ne same) | inr (o, e) ↦ e ]

  new_count : slice_index (slice_set counts p n) p ≡ n
  new_count = elim (number_set counts p n p within) [ inl (same, e) ↦ e | inr (o, e) ↦ absurd (o refl) ]

  lower_count : (k : ℕ) → slice_index (slice_set counts p n) k ≤ slice_index counts k
  lower_count k = elim (number_set counts p n k within) [
    | inl (same, e) ↦ let at : slice_index counts k ≡ slice_index counts p = ap (slice_index counts) same in omega (arith, e, is, at)
    | inr (o, e) ↦ omega (arith, e)
  ]

  old_few : (k : ℕ) → slice_index (slice_set counts p n) k ≤ most → slice_index counts k ≤ most
  old_few k le = elim (cases_eq k p) [
    | inl same ↦ let at : slice_index counts k ≡ slice_index counts p = ap (slice_index counts) same in omega (arith, at, few)
    | inr ne ↦ let e = same_count k ne in omega (arith, e, le)
  ]

  kept_there : (k : ℕ) (cut : PlainCut) → IsKept g most d depths k cut → IsKept g most d new k cut
  kept_there k cut old = record {
    is = old.is;
    few = old.few;
    known = λ i r at. below d r.0 (old.known i r at);
    below = λ c e here at i r f. elim (deep.added c (suc e) at) [
      | inl o ↦ below (suc e) r.0 (old.below c e here o i r f)
      | inr (same, place, was) ↦ below (suc e) r.0 (subst (λ m. IsBelow depths m r.0) (sym same) (old.known i r f))
    ];
  }

  q_place : (o : Option ClassId) → slice_get pins p ≡ Some o → (q.0 / 2 ≡ p) × IsBelow new (suc d) q.0
  q_place None at =
      let two = none at in
      let here : q.0 / 2 ≡ p = omega (arith, two) in
      let (e, f) = deep.all q.0 here in
      let l = deep_low q.0 e f in
      (here, (e, f, omega (arith, l)))
  q_place (Some r) at =
      let pin = lists.pin p r at in
      let same = some r at in
      (subst (λ (s : ClassId). s.0 / 2 ≡ p) (sym same) pin.of_place, subst (λ (s : ClassId). IsBelow new (suc d) s.0) (sym same) (below (suc d) r.0 pin.known))

  q_there : (q.0 / 2 ≡ p) × IsBelow new (suc d) q.0
  q_there = let l = lists.one_pin in let (o, at) = slice_get_some pins p (omega (arith, l, within)) in q_place o at

  pub deep_lists : AreLists g most d (suc d) (slice_set counts p n) cuts (slice_set pins p (Some q)) new
  deep_lists = record {
    places = lists.places ∙ ap (λ m. 2 * m) (sym (length-set counts p n));
    one_cut = lists.one_cut ∙ sym (length-set counts p n);
    one_pin = length-set pins p (Some q) ∙ (lists.one_pin ∙ sym (length-set counts p n));
    one_depth = deep.one_each ∙ lists.one_depth;
    low = λ k. let l = lower_count k in let o = lists.low k in omega (arith, l, o);
    one = let l = lower_count (g.one / 2) in let o = lists.one in omega (arith, l, o);
    kept = λ k cut at le. kept_there k cut (lists.kept k cut at (old_few k le));
    sized = λ k cut at le free. elim (cases_eq k p) [
      | inl same ↦
          let here : slice_index counts k ≡ slice_index counts p = ap (slice_index counts) same in
          let now : slice_index (slice_set counts p n) k ≡ n = ap (slice_index (slice_set counts p n)) same ∙ new_count in
          let zero_now : slice_index (slice_set counts p n) k ≡ 0 = elim free [
            | inl o ↦ elim (get_set pins p (Some q) k None o) [ inl (s, e) ↦ none_some (sym e) | inr (ne, e) ↦ absurd (ne same) ]
            | inr z ↦ z
          ] in
          let zero_was : slice_index counts k ≡ 0 = omega (arith, zero_now, now, is, here) in
          lists.sized k cut at (old_few k le) (inr zero_was) ∙ (zero_was ∙ sym zero_now)
      | inr ne ↦
          lists.sized k cut at (old_few k le) (elim free [
            | inl o ↦ elim (get_set pins p (Some q) k None o) [ inl (s, e) ↦ absurd (ne s) | inr (m, e) ↦ inl e ]
            | inr z ↦ inr (sym (same_count k ne) ∙ z)
          ]) ∙ sym (same_count k ne)
    ];
    pin = λ k r at. elim (get_set pins p (Some q) k (Some r) at) [
      | inl (s, e) ↦
          let same : q ≡ r = same_Some q r e in
          let (here, known) = q_there in
          let now : slice_index (slice_set counts p n) k ≡ n = ap (slice_index (slice_set counts p n)) s ∙ new_count in
          record {
            of_place = subst (λ (t : ClassId). t.0 / 2 ≡ k) same (here ∙ sym s);
            known = subst (λ (t : ClassId). IsBelow new (suc d) t.0) same known;
            low = omega (arith, now, is);
          }
      | inr (ne, e) ↦
          let pin = lists.pin k r e in
          record { of_place = pin.of_place; known = below (suc d) r.0 pin.known; low = let l = lower_count k in let o = pin.low in omega (arith, l, o) }
    ];
    known = λ c known. elim (cases_eq (c / 2) p) [
      | inl here ↦ let l = lists.one_pin in (q, subst (λ k. slice_get (slice_set pins p (Some q)) k ≡ Some (Some q)) (sym here) (set_here pins p (Some q) (omega (arith, l, within))))
      | inr ne ↦
          let (e, at) = known in
          elim (deep.added c e at) [
            | inl o ↦ let (r, f) = lists.known c (e, o) in (r, set_there pins p (Some q) (c / 2) (Some r) ne f)
            | inr (same, here, was) ↦ absurd (ne here)
          ]
    ];
  }
