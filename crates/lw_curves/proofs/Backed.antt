-- Points stay backed when one is gained.
use Rattle.std.proofs.Common.{◌≡◌, ℕ, zero, suc, ◌+◌, ◌<◌, ◌≤◌, ◌⊎◌, inl, inr, min, map, length, List, [], ◌∷◌, Some, slice_get, refl, ap, sym, ◌∙◌, subst, arith}
use Rattle.std.specs.List.{AllZip}
use Rattle.std.proofs.lemmas.Option.{same_Some}
use Rattle.lw_laws.specs.Covers.{latest, delays_of}
use Rattle.lw_laws.proofs.Delays.{length-delays_of}
use Rattle.lw_choices.specs.Areas.{most_area, area_at, total}
use Rattle.lw_curves.specs.Backing.{Held, IsHeld, spot_in, IsBefore, IsPinOf, held_times, held_areas, IsGivenBy, IsBacked, AreBacked, IsHeldGained}
use Rattle.lw_choices.specs.Choices.{Part, Choice, AreListedChoices}
use Rattle.lw_choices.specs.Choices.Part.{input, gate}
use Rattle.lw_choices.specs.Tasks.{Task, timing}
use Rattle.lw_curves.specs.Settling.{Spot, Has, IsSpotOf, times, areas, Gives, IsBest, IsReached}
use Rattle.lw_curves.proofs.Stepping.{zip_length}

pub map_has : (xs : List Held) (i : ℕ) (k : Spot) → slice_get (map spot_in xs) i ≡ Some k → (g : Held) × IsHeld xs g × (g.spot ≡ k)
map_has [] i k at = cc
map_has (x ∷ xs) zero k at = (x, (0, refl), same_Some x.spot k at)
map_has (x ∷ xs) (suc i) k at = let (g, (j, bt), e) = map_has xs i k at in (g, (suc j, bt), e)

-- an area that some cover has is told
pub reached_low : (s : Task) (k : Spot) → IsReached s k → k.area ≤ most_area
reached_low s k (d, has, le, e) = omega (arith, e)

module _ (old new : List Held) (h : Held) (gained : IsHeldGained old new h) where
  -- of points with other pins
  before_less : (p l : Held) → IsBefore l p → l.spot.time ≡ h.spot.time → h.spot.area < l.spot.area → IsBefore h p
  before_less p l is time less = record { no_later = let le = is.no_later in omega (arith, le, time); less = by_case is.less }
    where
      by_case : (l.spot.time < p.spot.time) ⊎ ((l.spot.area < p.spot.area) ⊎ ((l.spot.area ≤ p.spot.area) × (l.order < p.order))) → (h.spot.time < p.spot.time) ⊎ ((h.spot.area < p.spot.area) ⊎ ((h.spot.area ≤ p.spot.area) × (h.order < p.order)))
      by_case (inl lt) = inl (omega (arith, lt, time))
      by_case (inr (inl lt)) = inr (inl (omega (arith, lt, less)))
      by_case (inr (inr (le, o))) = inr (inl (omega (arith, le, less)))

  pin_kept : (p : Held) (c : ℕ) (l : Held) → IsPinOf old p c l → (j : Held) × IsPinOf new p c j × (j.spot.time ≡ l.spot.time) × (j.spot.area ≤ l.spot.area)
  pin_kept p c l (has, e, is) = by_case (gained.kept l has)
    where
      by_case : IsHeld new l ⊎ ((l.spot.class ≡ h.spot.class) × (l.spot.time ≡ h.spot.time) × (h.spot.area < l.spot.area)) → (j : Held) × IsPinOf new p c j × (j.spot.time ≡ l.spot.time) × (j.spot.area ≤ l.spot.area)
      by_case (inl in') = (l, (in', e, is), refl, omega arith)
      by_case (inr (class, time, less)) = (h, (gained.has, sym class ∙ e, before_less p l is time less), sym time, omega arith)

  pins_kept : (p : Held) (ps : List ℕ) (ks : List Held) → AllZip (IsPinOf old p) ps ks → (js : List Held) × AllZip (IsPinOf new p) ps js × (held_times js ≡ held_times ks) × (total (held_areas js) ≤ total (held_areas ks))
  pins_kept p [] [] zip = ([], tt, refl, omega arith)
  pins_kept p [] (k ∷ ks) zip = absurd zip
  pins_kept p (c ∷ ps) [] zip = absurd zip
  pins_kept p (c ∷ ps) (k ∷ ks) (first, zip) =
      let (j, pin, t, a) = pin_kept p c k first in
      let (js, rest, ts, as') = pins_kept p ps ks zip in
      (j ∷ js, (pin, rest), (λ i. t i ∷ ts i), omega arith)

  module _ (s : Task) (choices : List Choice) where
    given_kept : (p : Held) (part : Part) → IsGivenBy s old p part → IsGivenBy s new p part
    given_kept p (input i) given = given
    given_kept p (gate cell ps) (ks, zip, in_time, in_area) =
        let (js, rest, ts, as') = pins_kept p ps ks zip in
        (js, rest, subst (λ xs. latest (delays_of (timing s).delays cell) xs ≤ p.spot.time) (sym ts) in_time, omega arith)

    backed_kept : (p : Held) → IsBacked s choices old p → IsBacked s choices new p
    backed_kept p is = record { by = is.by; listed = is.listed; class_is = is.class_is; given = given_kept p is.by.part is.given }

    -- the new point
    module _ (spots : List Spot) (same : map spot_in old ≡ spots) (low : (k : Spot) → Has spots k → k.area ≤ most_area) where
      pin_new : (c : ℕ) (k : Spot) → IsSpotOf spots c k → k.time ≤ h.spot.time → k.area ≤ h.spot.area → (j : Held) × IsPinOf new h c j × (j.spot ≡ k)
      pin_new c k ((i, at), e) in_time in_area =
          let (g, has, f) = map_has old i k (ap (λ xs. slice_get xs i) same ∙ at) in
          let t = ap (λ (x : Spot). x.time) f in
          let a = ap (λ (x : Spot). x.area) f in
          let is : IsBefore g h = record { no_later = omega (arith, t, in_time); less = inr (inr (omega (arith, a, in_area), gained.fresh g has)) } in
          by_case g f is (gained.kept g has)
        where
          by_case : (g : Held) → g.spot ≡ k → IsBefore g h → IsHeld new g ⊎ ((g.spot.class ≡ h.spot.class) × (g.spot.time ≡ h.spot.time) × (h.spot.area < g.spot.area)) → (j : Held) × IsPinOf new h c j × (j.spot ≡ k)
          by_case g f is (inl in') = (g, (in', ap (λ (x : Spot). x.class) f ∙ e, is), f)
          by_case g f is (inr (class, time, less)) = absurd (let a = ap (λ (x : Spot). x.area) f in omega (arith, a, less, in_area))

      pins_new : (most : ℕ) (ds ps : List ℕ) (ks : List Spot) → AllZip (IsSpotOf spots) ps ks → length ds ≡ length ks → latest ds (times ks) ≤ h.spot.time → total (areas ks) ≤ most → min most_area most ≤ h.spot.area → (js : List Held) × AllZip (IsPinOf new h) ps js × (held_times js ≡ times ks) × (held_areas js ≡ areas ks)
      pins_new most ds [] [] zip size in_time in_most in_area = ([], tt, refl, refl)
      pins_new most ds [] (k ∷ ks) zip size in_time in_most in_area = absurd zip
      pins_new most ds (c ∷ ps) [] zip size in_time in_most in_area = absurd zip
      pins_new most [] (c ∷ ps) (k ∷ ks) zip size in_time in_most in_area = absurd (omega arith)
      pins_new most (d ∷ ds) (c ∷ ps) (k ∷ ks) (first, zip) size in_time in_most in_area =
          let a = low k first.0 in
          let (j, pin, e) = pin_new c k first (omega (arith, in_time)) (omega (arith, a, in_most, in_area)) in
          let (js, rest, ts, as') = pins_new most ds ps ks zip (omega (arith, size)) (omega (arith, in_time)) (omega (arith, in_most)) in_area in
          (j ∷ js, (pin, rest), (λ i. (e i).time ∷ ts i), (λ i. (e i).area ∷ as' i))

      given_new : (c : ℕ) (part : Part) (n t : ℕ) → AreListedChoices s choices → slice_get choices n ≡ Some (record { class = c; part = part }) → Gives s spots part t h.spot.area → t ≤ h.spot.time → IsGivenBy s new h part
      given_new c (input i) n t are at (et, ea) le = omega (arith, et, le)
      given_new c (gate cell ps) n t are at (ks, zip, et, ea) le =
          let ds = delays_of (timing s).delays cell in
          let size : length ds ≡ length ks = length-delays_of (timing s).delays cell (length ps) (are.each n (record { class = c; part = gate cell ps }) at).pins ∙ zip_length spots ps ks zip in
          let (js, rest, ts, as') = pins_new (area_at s.cells cell + total (areas ks)) ds ps ks zip size (omega (arith, et, le)) (omega arith) (omega (arith, ea)) in
          (js, rest, subst (λ xs. latest ds xs ≤ h.spot.time) (sym ts) (omega (arith, et, le)), subst (λ xs. min most_area (area_at s.cells cell + total xs) ≤ h.spot.area) (sym as') (omega (arith, ea)))

      backed_new : (x : Choice) → AreListedChoices s choices → slice_get choices h.choice ≡ Some x → x.class ≡ h.spot.class → IsBest s spots x.part h.spot.time (Some h.spot.area) → IsBacked s choices new h
      backed_new x are at e ((t, le, gives), least) = record { by = x; listed = at; class_is = e; given = given_new x.class x.part h.choice t are at gives le }

      pub backed_gained : (x : Choice) → AreListedChoices s choices → slice_get choices h.choice ≡ Some x → x.class ≡ h.spot.class → IsBest s spots x.part h.spot.time (Some h.spot.area) → AreBacked s choices old → AreBacked s choices new
      backed_gained x are at e best backed l has = by_case (gained.only l has)
        where
          by_case : IsHeld old l ⊎ (l ≡ h) → IsBacked s choices new l
          by_case (inl in') = backed_kept l (backed l in')
          by_case (inr f) = subst (IsBacked s choices new) (sym f) (backed_new x are at e best)

pub none_backed : (s : Task) (choices : List Choice) → AreBacked s choices []
none_backed s choices h (i, at) = cc
