-- The time and the area of a cover as one number.
use Rattle.std.proofs.Common.{◌≡◌, ℕ, ◌+◌, ◌≤◌, min, map, refl, ap, ap₂, ◌∙◌, ◌∷◌, arith}
use Rattle.lw_laws.specs.Costs.{cost_of, costs_of}
use Rattle.lw_laws.specs.Covers.{Cover, Covers, latest, delays_of, time_of, times_of}
use Rattle.lw_laws.specs.Covers.Cover.{wire, gate}
use Rattle.lw_laws.specs.Covers.Covers.{no_covers, cover}
use Rattle.lw_choices.specs.Areas.{most_area, area_at, total, area_cost}
use Rattle.lw_choices.specs.Tasks.{Task, timing}
use Rattle.lw_curves.specs.Settling.{joint, time_in, area_in, joint_cost}

pub joint_time : (t a : ℕ) → a ≤ most_area → time_in (joint t a) ≡ t
joint_time t a le = omega arith

pub joint_area : (t a : ℕ) → a ≤ most_area → area_in (joint t a) ≡ a
joint_area t a le = omega arith

module _ (s : Task) where
  pub area_low : (k : Cover) → cost_of (area_cost s.cells) k ≤ most_area
  area_low (wire i) = omega arith
  area_low (gate p ks) = omega arith

  mutual
    pub cover_joint : (k : Cover) → cost_of (joint_cost s) k ≡ joint (time_of (timing s) k) (cost_of (area_cost s.cells) k)
    cover_joint (wire i) = refl
    cover_joint (gate p ks) =
        ap₂ (λ ts bs. joint (latest (delays_of (timing s).delays p.cell) ts) (min most_area (area_at s.cells p.cell + total bs))) (joint_times ks) (joint_areas ks)

    joint_times : (ks : Covers) → map time_in (costs_of (joint_cost s) ks) ≡ times_of (timing s) ks
    joint_times no_covers = refl
    joint_times (cover k ks) =
        ap₂ (λ t ts. t ∷ ts) (ap time_in (cover_joint k) ∙ joint_time (time_of (timing s) k) (cost_of (area_cost s.cells) k) (area_low k)) (joint_times ks)

    joint_areas : (ks : Covers) → map area_in (costs_of (joint_cost s) ks) ≡ costs_of (area_cost s.cells) ks
    joint_areas no_covers = refl
    joint_areas (cover k ks) =
        ap₂ (λ a bs. a ∷ bs) (ap area_in (cover_joint k) ∙ joint_area (time_of (timing s) k) (cost_of (area_cost s.cells) k) (area_low k)) (joint_areas ks)

  pub joint_cover_time : (k : Cover) → time_in (cost_of (joint_cost s) k) ≡ time_of (timing s) k
  joint_cover_time k = ap time_in (cover_joint k) ∙ joint_time (time_of (timing s) k) (cost_of (area_cost s.cells) k) (area_low k)

  pub joint_cover_area : (k : Cover) → area_in (cost_of (joint_cost s) k) ≡ cost_of (area_cost s.cells) k
  joint_cover_area k = ap area_in (cover_joint k) ∙ joint_area (time_of (timing s) k) (cost_of (area_cost s.cells) k) (area_low k)
