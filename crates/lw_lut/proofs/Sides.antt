-- The cut of a place, as a search has it.
use Rattle.std.proofs.Common.{◌≡◌, ◌+◌, ◌*◌, ◌/◌, ◌≤◌, ◌⊎◌, inl, inr, ℕ, zero, suc, Bool, true, false, not, [], ◌∷◌, length, Option, Some, None, slice_get, refl, ap, sym, ◌∙◌, subst, arith, if◌then◌else◌}
use Rattle.std.proofs.lemmas.Option.{same_Some}
use Rattle.lw_pool.specs.declared.id.ClassId.{ClassId}
use Rattle.lw_laws.specs.Trees.{leaf}
use Rattle.lw_laws.specs.Graphs.{Graph}
use Rattle.lw_lut.specs.Cuts.{PlainCut, IsCutAt, is_set, is_odd, turned}
use Rattle.lw_lut.specs.Searches.{AreCounts, IsBelow, count_at, IsSide}
use Rattle.lw_lut.specs.declared.search.Search.{Search}
use Rattle.lw_lut.proofs.Places.{none_some}
use Rattle.lw_lut.proofs.Joining.{place_cut, class_cut}

pin_values : (b o low high : Bool) → low ≡ o → high ≡ not o → turned o (if b then high else low) ≡ b
pin_values true true low high l h = rw h refl
pin_values true false low high l h = rw h refl
pin_values false true low high l h = rw l refl
pin_values false false low high l h = rw l refl

pin_bit : (b : Bool) (bits : ℕ) → is_set bits ((if b then 1 else 0) + 0) ≡ (if b then is_set bits 1 else is_set bits 0)
pin_bit true bits = refl
pin_bit false bits = refl

-- one pin at its class
pub pin_cut : (g : Graph) (q : ClassId) (bits : ℕ) → is_set bits 0 ≡ is_odd q.0 → is_set bits 1 ≡ not (is_odd q.0) → IsCutAt g q.0 (is_odd q.0) (record { pins = q ∷ []; bits = bits })
pin_cut g q bits low high = record {
  tree = leaf 0;
  pins = refl;
  stands = refl;
  values = λ v. ap (turned (is_odd q.0)) (pin_bit (v q.0) bits) ∙ pin_values (v q.0) (is_odd q.0) (is_set bits 0) (is_set bits 1) low high;
}

module _ (g : Graph) (most d : ℕ) (s : Search) (are : AreCounts g most d s) (c : ℕ) where
  pub side_pin : (q : ClassId) (cut : PlainCut) → slice_get s.pins.items (c / 2) ≡ Some (Some q) → count_at s.counts.items c ≡ 1 → cut.pins ≡ q ∷ [] → is_set cut.bits 0 ≡ is_odd q.0 → is_set cut.bits 1 ≡ not (is_odd q.0) → IsSide g d s c cut
  side_pin q cut at one pins low high =
      let pin = are.pin (c / 2) q at in
      let k = place_cut g q.0 (record { pins = q ∷ []; bits = cut.bits }) (pin_cut g q cut.bits low high) in
      let h = class_cut g c (record { pins = q ∷ []; bits = cut.bits }) (subst (λ p. IsCutAt g (2 * p) false (record { pins = q ∷ []; bits = cut.bits })) pin.of_place k) in (
        subst (λ ps. IsCutAt g c (is_odd c) (record { pins = ps; bits = cut.bits })) (sym pins) h,
        ap length pins ∙ sym one,
        known,
      )
    where
      known : (k : ℕ) (p : ClassId) → slice_get cut.pins k ≡ Some p → IsBelow s.depths.items d p.0
      known k p e = at_first k (subst (λ ps. slice_get ps k ≡ Some p) pins e)
        where
          at_first : (k : ℕ) → slice_get (q ∷ []) k ≡ Some p → IsBelow s.depths.items d p.0
          at_first zero f = subst (λ (r : ClassId). IsBelow s.depths.items d r.0) (same_Some q p f) (are.pin (c / 2) q at).known
          at_first (suc k) f = none_some f

  pub side_cut : count_at s.counts.items c ≤ most → (cut : PlainCut) → slice_get s.cuts.items (c / 2) ≡ Some cut → (slice_get s.pins.items (c / 2) ≡ Some None) ⊎ (count_at s.counts.items c ≡ 0) → IsSide g d s c cut
  side_cut low cut at free =
      let kept = are.kept (c / 2) cut at low in
      (class_cut g c cut kept.is, are.sized (c / 2) cut at low free, kept.known)

  -- a place that has a pin has one leaf, or none
  pub open_else : (o : Option ClassId) → slice_get s.pins.items (c / 2) ≡ Some o → (count_at s.counts.items c ≡ 1 → ⊥) → (slice_get s.pins.items (c / 2) ≡ Some None) ⊎ (count_at s.counts.items c ≡ 0)
  open_else None at not_one = inl at
  open_else (Some q) at not_one = let low = (are.pin (c / 2) q at).low in inr (omega (arith, low, not_one))
