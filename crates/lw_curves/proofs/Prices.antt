-- The least area that pins and choices give by a time.
use Rattle.std.proofs.Common.{◌≡◌, ℕ, zero, suc, ◌+◌, ◌-◌, ◌<◌, ◌≤◌, min, List, [], ◌∷◌, length, map, drop, Option, Some, None, option_map, slice_get, slice_index_or, refl, ap, sym, ◌∙◌, subst₂, arith}
use Rattle.std.proofs.lemmas.List.{length-map}
use Rattle.std.proofs.lemmas.Option.{same_Some, slice_get-map}
use Rattle.lw_pool.specs.declared.id.ClassId.{ClassId}
use Rattle.lw_genlib.specs.Tables.{millionths}
use Rattle.lw_choices.proofs.Lists.{got}
use Rattle.lw_fixed.specs.declared.micro.Micro.{Micro}
use Rattle.lw_laws.specs.Covers.{latest, delays_of}
use Rattle.lw_choices.specs.Areas.{most_area, total, area_at}
use Rattle.lw_choices.specs.Tasks.{Task, timing}
use Rattle.lw_choices.specs.Choices.Part.{gate}
use Rattle.lw_curves.specs.Fronts.{IsLeastSpot}
use Rattle.lw_curves.specs.Pricing.{ArePinSpots, IsBestOfPins}
use Rattle.lw_curves.specs.Settling.{Spot, times, areas, IsBest}
use Rattle.lw_pool.specs.Numbers.{numbers}

module _ (spots : List Spot) (time : ℕ) where
  pub best_empty : IsBestOfPins spots [] [] time (Some 0)
  best_empty = (([], record { each = tt; in_time = omega arith }, omega arith), λ ks are. omega arith)

  module _ (d p : ℕ) (ds ps : List ℕ) where
    pub best_late : time < d → IsBestOfPins spots (d ∷ ds) (p ∷ ps) time None
    best_late lt [] are = absurd are.each
    best_late lt (k ∷ ks) are = let l = are.in_time in absurd (omega arith)

    pub best_no_first : d ≤ time → IsLeastSpot spots p (time - d) None → IsBestOfPins spots (d ∷ ds) (p ∷ ps) time None
    best_no_first le none [] are = absurd are.each
    best_no_first le none (k ∷ ks) are = let l = are.in_time in let ((has, e), rest) = are.each in none k has e (omega arith)

    pub best_no_rest : IsBestOfPins spots ds ps time None → IsBestOfPins spots (d ∷ ds) (p ∷ ps) time None
    best_no_rest none [] are = absurd are.each
    best_no_rest none (k ∷ ks) are =
        let l = are.in_time in
        let ((has, e), rest) = are.each in
        none ks (record { each = rest; in_time = omega arith })

    pub best_some : (a b v : ℕ) → d ≤ time → IsLeastSpot spots p (time - d) (Some a) → IsBestOfPins spots ds ps time (Some b) → v ≡ min most_area (a + b) → IsBestOfPins spots (d ∷ ds) (p ∷ ps) time (Some v)
    best_some a b v le ((k, has, e, kt, ka), least) ((ks, are, eb), low) ev =
        let l = are.in_time in
        ((k ∷ ks, record { each = ((has, e), are.each); in_time = omega arith }, omega arith), lower)
      where
        lower : (js : List Spot) → ArePinSpots spots (d ∷ ds) (p ∷ ps) time js → v ≤ total (areas js)
        lower [] other = absurd other.each
        lower (j ∷ js) other =
            let l = other.in_time in
            let ((has, e), rest) = other.each in
            let first = least j has e (omega arith) in
            let more = low js (record { each = rest; in_time = omega arith }) in
            omega arith

  pub best_drop : (k : ℕ) (ds ps : List ℕ) → length ds ≡ length ps → IsBestOfPins spots (drop k ds) (drop k ps) time None → IsBestOfPins spots ds ps time None
  best_drop zero ds ps e none = none
  best_drop (suc k) [] [] e none = none
  best_drop (suc k) [] (p ∷ ps) e none = absurd (omega arith)
  best_drop (suc k) (d ∷ ds) [] e none = absurd (omega arith)
  best_drop (suc k) (d ∷ ds) (p ∷ ps) e none = best_no_rest d p ds ps (best_drop k ds ps (omega arith) none)

drop_at : (xs : List ℕ) (k x : ℕ) → slice_get xs k ≡ Some x → drop k xs ≡ x ∷ drop (suc k) xs
drop_at [] k x e = cc
drop_at (y ∷ xs) zero x e = ap (λ z. z ∷ xs) (same_Some y x e)
drop_at (y ∷ xs) (suc k) x e = drop_at xs k x e

drop_all : (xs : List ℕ) (n : ℕ) → n ≡ length xs → drop n xs ≡ []
drop_all [] zero e = refl
drop_all [] (suc n) e = refl
drop_all (x ∷ xs) zero e = absurd (omega arith)
drop_all (x ∷ xs) (suc n) e = drop_all xs n (omega arith)

-- the pins from a number on
module _ (spots : List Spot) (time : ℕ) (delays : List Micro) (pins : List ClassId) (one_each : length delays ≡ length pins) where
  abbrev Ds : List ℕ
  Ds = map millionths delays

  abbrev Ps : List ℕ
  Ps = numbers pins

  abbrev pub IsBestFrom : ℕ → Option ℕ → Type 0
  IsBestFrom k best = IsBestOfPins spots (drop k Ds) (drop k Ps) time best

  sizes : length Ds ≡ length Ps
  sizes = length-map delays millionths ∙ (one_each ∙ sym (length-map pins (λ (c : ClassId). c.0)))

  pub from_last : (n : ℕ) → n ≡ length pins → IsBestFrom n (Some 0)
  from_last n e =
      let d = drop_all Ds n (e ∙ (sym one_each ∙ sym (length-map delays millionths))) in
      let p = drop_all Ps n (e ∙ sym (length-map pins (λ (c : ClassId). c.0))) in
      subst₂ (λ ds ps. IsBestOfPins spots ds ps time (Some 0)) (sym d) (sym p) (best_empty spots time)

  module _ (k : ℕ) (lt : k < length pins) (z : Micro) (y : ClassId) where
    abbrev D : ℕ
    D = (slice_index_or delays k z).0

    abbrev P : ℕ
    P = (slice_index_or pins k y).0

    at_d : drop k Ds ≡ D ∷ drop (suc k) Ds
    at_d = drop_at Ds k D (slice_get-map millionths delays k ∙ ap (option_map millionths) (got delays k z (omega (arith, lt, one_each))))

    at_p : drop k Ps ≡ P ∷ drop (suc k) Ps
    at_p = drop_at Ps k P (slice_get-map (λ (c : ClassId). c.0) pins k ∙ ap (option_map (λ (c : ClassId). c.0)) (got pins k y lt))

    none_of : IsBestOfPins spots (D ∷ drop (suc k) Ds) (P ∷ drop (suc k) Ps) time None → IsBestOfPins spots Ds Ps time None
    none_of none = best_drop spots time k Ds Ps sizes (subst₂ (λ ds ps. IsBestOfPins spots ds ps time None) (sym at_d) (sym at_p) none)

    pub from_late : time < D → IsBestOfPins spots Ds Ps time None
    from_late late = none_of (best_late spots time D P (drop (suc k) Ds) (drop (suc k) Ps) late)

    pub from_none : D ≤ time → IsLeastSpot spots P (time - D) None → IsBestOfPins spots Ds Ps time None
    from_none le none = none_of (best_no_first spots time D P (drop (suc k) Ds) (drop (suc k) Ps) le none)

    pub from_some : (a b v : ℕ) → D ≤ time → IsLeastSpot spots P (time - D) (Some a) → IsBestFrom (suc k) (Some b) → v ≡ min most_area (a + b) → IsBestFrom k (Some v)
    from_some a b v le least best e = subst₂ (λ ds ps. IsBestOfPins spots ds ps time (Some v)) (sym at_d) (sym at_p) (best_some spots time D P (drop (suc k) Ds) (drop (suc k) Ps) a b v le least best e)

module _ (s : Task) (spots : List Spot) (time cell : ℕ) (ps : List ℕ) where
  pub gate_none : IsBestOfPins spots (delays_of (timing s).delays cell) ps time None → IsBest s spots (gate cell ps) time None
  gate_none none t a (ks, zip, et, ea) le = none ks (record { each = zip; in_time = omega arith })

  pub gate_some : (b v : ℕ) → IsBestOfPins spots (delays_of (timing s).delays cell) ps time (Some b) → v ≡ min most_area (area_at s.cells cell + b) → IsBest s spots (gate cell ps) time (Some v)
  gate_some b v ((ks, are, eb), low) ev = (
    (latest (delays_of (timing s).delays cell) (times ks), are.in_time, (ks, are.each, refl, omega arith)),
    λ t a (js, zip, et, ea) le.
        let l = low js (record { each = zip; in_time = omega arith }) in
        omega arith,
  )
