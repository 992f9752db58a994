-- Cuts of numbers and of forms.
use Rattle.std.proofs.Common.{ℕ, ◌≡◌, List, [], ◌∷◌, map, refl, ap₂}
use Rattle.lw_laws.specs.Forms.{Form}
use Rattle.lw_laws.specs.Decompositions.{AreParts, AreOverlapping}
use Rattle.lw_laws.specs.Decompositions.AreParts.{parts_none, parts_left, parts_right}
use Rattle.lw_laws.specs.Decompositions.AreOverlapping.{over_none, over_left, over_right, over_both}
use Rattle.lw_laws.specs.NumberedForms.{IsCut, IsCovering}
use Rattle.lw_laws.specs.NumberedForms.IsCut.{cut_none, cut_left, cut_right}
use Rattle.lw_laws.specs.NumberedForms.IsCovering.{in_none, in_left, in_right, in_both}

-- a cut of numbers is one of forms, and back
pub cut_of_parts : (h : Form → ℕ) {fs ls rs : List Form} → AreParts fs ls rs → IsCut (map h fs) (map h ls) (map h rs)
cut_of_parts h parts_none = cut_none
cut_of_parts h (parts_left p) = cut_left (cut_of_parts h p)
cut_of_parts h (parts_right p) = cut_right (cut_of_parts h p)

pub covering_of_overlapping : (h : Form → ℕ) {fs ls rs : List Form} → AreOverlapping fs ls rs → IsCovering (map h fs) (map h ls) (map h rs)
covering_of_overlapping h over_none = in_none
covering_of_overlapping h (over_left p) = in_left (covering_of_overlapping h p)
covering_of_overlapping h (over_right p) = in_right (covering_of_overlapping h p)
covering_of_overlapping h (over_both p) = in_both (covering_of_overlapping h p)

pub record HasParts (h : Form → ℕ) (fs : List Form) (ls rs : List ℕ) : Type 0 where
  pub left : List Form
  pub right : List Form
  pub parts : AreParts fs left right
  pub left_is : map h left ≡ ls
  pub right_is : map h right ≡ rs

pub parts_of_cut : (h : Form → ℕ) {ns ls rs : List ℕ} → IsCut ns ls rs → (fs : List Form) → map h fs ≡ ns → HasParts h fs ls rs
parts_of_cut h cut_none [] e = record { left = []; right = []; parts = parts_none; left_is = refl; right_is = refl }
parts_of_cut h cut_none (f ∷ fs) e = cc
parts_of_cut h (cut_left c) [] e = cc
parts_of_cut h (cut_left {f = n} {fs = ns} c) (f ∷ fs) e =
    let first : h f ≡ n = cc in
    let rest : map h fs ≡ ns = cc in
    let r = parts_of_cut h c fs rest in
    record { left = f ∷ r.left; right = r.right; parts = parts_left r.parts; left_is = ap₂ (λ x xs. x ∷ xs) first r.left_is; right_is = r.right_is }
parts_of_cut h (cut_right c) [] e = cc
parts_of_cut h (cut_right {f = n} {fs = ns} c) (f ∷ fs) e =
    let first : h f ≡ n = cc in
    let rest : map h fs ≡ ns = cc in
    let r = parts_of_cut h c fs rest in
    record { left = r.left; right = f ∷ r.right; parts = parts_right r.parts; left_is = r.left_is; right_is = ap₂ (λ x xs. x ∷ xs) first r.right_is }

pub record HasOverlap (h : Form → ℕ) (fs : List Form) (ls rs : List ℕ) : Type 0 where
  pub left : List Form
  pub right : List Form
  pub parts : AreOverlapping fs left right
  pub left_is : map h left ≡ ls
  pub right_is : map h right ≡ rs

pub overlap_of_covering : (h : Form → ℕ) {ns ls rs : List ℕ} → IsCovering ns ls rs → (fs : List Form) → map h fs ≡ ns → HasOverlap h fs ls rs
overlap_of_covering h in_none [] e = record { left = []; right = []; parts = over_none; left_is = refl; right_is = refl }
overlap_of_covering h in_none (f ∷ fs) e = cc
overlap_of_covering h (in_left c) [] e = cc
overlap_of_covering h (in_left {f = n} {fs = ns} c) (f ∷ fs) e =
    let first : h f ≡ n = cc in
    let rest : map h fs ≡ ns = cc in
    let r = overlap_of_covering h c fs rest in
    record { left = f ∷ r.left; right = r.right; parts = over_left r.parts; left_is = ap₂ (λ x xs. x ∷ xs) first r.left_is; right_is = r.right_is }
overlap_of_covering h (in_right c) [] e = cc
overlap_of_covering h (in_right {f = n} {fs = ns} c) (f ∷ fs) e =
    let first : h f ≡ n = cc in
    let rest : map h fs ≡ ns = cc in
    let r = overlap_of_covering h c fs rest in
    record { left = r.left; right = f ∷ r.right; parts = over_right r.parts; left_is = r.left_is; right_is = ap₂ (λ x xs. x ∷ xs) first r.right_is }
overlap_of_covering h (in_both c) [] e = cc
overlap_of_covering h (in_both {f = n} {fs = ns} c) (f ∷ fs) e =
    let first : h f ≡ n = cc in
    let rest : map h fs ≡ ns = cc in
    let r = overlap_of_covering h c fs rest in
    record { left = f ∷ r.left; right = f ∷ r.right; parts = over_both r.parts; left_is = ap₂ (λ x xs. x ∷ xs) first r.left_is; right_is = ap₂ (λ x xs. x ∷ xs) first r.right_is }
