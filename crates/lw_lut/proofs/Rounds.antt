-- One depth after the other.
use Rattle.std.proofs.Common.{◌≡◌, ◌/◌, ◌≤◌, ℕ, suc, List, [], ◌∷◌, length, Option, Some, None, slice_get, refl, arith}
use Rattle.std.proofs.lemmas.Option.{slice_get_within}
use Rattle.lw_laws.proofs.Lists.{slice_get_some}
use Rattle.lw_lut.specs.Depths.{IsTableCut}
use Rattle.lw_lut.proofs.Joining.{class_cut}
use Rattle.lw_pool.specs.declared.id.ClassId.{ClassId}
use Rattle.lw_laws.specs.Graphs.{Graph}
use Rattle.lw_lut.specs.Cuts.{PlainCut}
use Rattle.lw_lut.specs.Searches.{AreLists, IsBelow, depth_in, unknown_count, is_unknown}
use Rattle.std.proofs.lemmas.List.Sums.{sum_by-cons}

further : (depths : List (Option ℕ)) (l : ℕ) (c : ℕ) → IsBelow depths l c → IsBelow depths (suc l) c
further depths l c (e, at, lt) = (e, at, omega (arith, lt))

pub further_pins : (g : Graph) (most d l : ℕ) (counts : List ℕ) (cuts : List PlainCut) (pins : List (Option ClassId)) (depths : List (Option ℕ)) → AreLists g most d l counts cuts pins depths → AreLists g most d (suc l) counts cuts pins depths
further_pins g most d l counts cuts pins depths is = record {
  places = is.places;
  one_cut = is.one_cut;
  one_pin = is.one_pin;
  one_depth = is.one_depth;
  low = is.low;
  one = is.one;
  kept = is.kept;
  sized = is.sized;
  pin = λ k q at. let p = is.pin k q at in record { of_place = p.of_place; known = further depths l q.0 p.known; low = p.low };
  known = is.known;
}

pub further_cuts : (g : Graph) (most d l : ℕ) (counts : List ℕ) (cuts : List PlainCut) (pins : List (Option ClassId)) (depths : List (Option ℕ)) → AreLists g most d l counts cuts pins depths → AreLists g most (suc d) l counts cuts pins depths
further_cuts g most d l counts cuts pins depths is = record {
  places = is.places;
  one_cut = is.one_cut;
  one_pin = is.one_pin;
  one_depth = is.one_depth;
  low = is.low;
  one = is.one;
  kept = λ k cut at le. let p = is.kept k cut at le in record { is = p.is; few = p.few; known = λ i q e. further depths d q.0 (p.known i q e); below = p.below };
  sized = is.sized;
  pin = is.pin;
  known = is.known;
}

is_low : (o : Option ℕ) → is_unknown o ≤ 1
is_low None = omega arith
is_low (Some e) = omega arith

pub few_unknown : (depths : List (Option ℕ)) → unknown_count depths ≤ length depths
few_unknown [] = omega arith
few_unknown (o ∷ depths) =
    let ih = few_unknown depths in
    let e = sum_by-cons is_unknown o depths in
    let l = is_low o in
    omega (arith, ih, e, l)

-- The tables of the classes that have a depth.
pub found_tables : (g : Graph) (most d : ℕ) → 1 ≤ most → (counts : List ℕ) (cuts : List PlainCut) (pins : List (Option ClassId)) (depths : List (Option ℕ)) → AreLists g most d d counts cuts pins depths → (c e : ℕ) → depth_in depths c ≡ Some (suc e) → (cut : PlainCut) × (slice_get cuts (c / 2) ≡ Some cut) × IsTableCut g most depths c (suc e) cut
found_tables g most d some counts cuts pins depths is c e at =
    let (q, pin) = is.known c (suc e, at) in
    let low = (is.pin (c / 2) q pin).low in
    let l = is.one_pin in
    let m = is.one_cut in
    let lt = slice_get_within pins (c / 2) (Some q) pin in
    let (cut, here) = slice_get_some cuts (c / 2) (omega (arith, l, m, lt)) in
    let kept = is.kept (c / 2) cut here (omega (arith, low, some)) in
    (cut, here, record { is = class_cut g c cut kept.is; few = kept.few; below = kept.below c e refl at })
