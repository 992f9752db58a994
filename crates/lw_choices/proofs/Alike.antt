-- Pins of matches that are alike.
use Rattle.std.proofs.Common.{◌≡◌, ℕ, zero, suc, ◌+◌, ◌<◌, ◌≤◌, inr, length, map, min, take, zip, List, [], ◌∷◌, ◌++◌, Some, slice_get, refl, ap, sym, ◌∙◌, subst, subst₂, arith}
use Rattle.std.specs.List.Sorted.{IsPermutation}
use Rattle.std.proofs.lemmas.List.Sorted.{IsPermutation-sym, IsPermutation-trans}
use Rattle.lw_fixed.specs.declared.micro.Micro.{Micro}
use Rattle.lw_pool.specs.declared.id.ClassId.{ClassId}
use Rattle.lw_pool.specs.Numbers.{numbers}
use Rattle.lw_genlib.specs.Cells.{CellParts}
use Rattle.lw_genlib.specs.Tables.{delays_of_cells, millionths}
use Rattle.lw_laws.specs.Covers.{delays_of}
use Rattle.lw_choices.specs.declared.pin_uses.PinUse.{PinUse}
use Rattle.lw_choices.specs.Choices.{Choice, IsListedLike, uses_of}
use Rattle.lw_choices.specs.Choices.Part.{gate}
use Rattle.lw_choices.specs.PinUses.{plain_use, plain_uses, AreUsesIn, HasLikeRow}
use Rattle.lw_choices.specs.Rows.{IsGateAdded}
use Rattle.lw_choices.proofs.Lists.{get_last}
use Rattle.lw_choices.proofs.Growing.{alike_itself}

pub plain_push : (us : List PinUse) (u : PinUse) → plain_uses (us ++ u ∷ []) ≡ plain_uses us ++ plain_use u ∷ []
plain_push [] u = refl
plain_push (v ∷ us) u = ap (λ xs. plain_use v ∷ xs) (plain_push us u)

-- one pin more
pub uses_next : (ds : List Micro) (ps : List ClassId) (k : ℕ) (d : Micro) (p : ClassId) → slice_get ds k ≡ Some d → slice_get ps k ≡ Some p → take (suc k) (zip (map millionths ds) (numbers ps)) ≡ take k (zip (map millionths ds) (numbers ps)) ++ (d.0, p.0) ∷ []
uses_next [] ps k d p dt pt = cc
uses_next (e ∷ ds) [] k d p dt pt = cc
uses_next (e ∷ ds) (q ∷ ps) zero d p dt pt =
    let f : e ≡ d = cc in
    let g : q ≡ p = cc in
    λ i. ((f i).0, (g i).0) ∷ []
uses_next (e ∷ ds) (q ∷ ps) (suc k) d p dt pt = ap (λ us. (e.0, q.0) ∷ us) (uses_next ds ps k d p dt pt)

-- all of them
pub uses_over : (ds : List Micro) (ps : List ClassId) (k : ℕ) → min (length ds) (length ps) ≤ k → take k (zip (map millionths ds) (numbers ps)) ≡ zip (map millionths ds) (numbers ps)
uses_over [] ps zero le = refl
uses_over [] ps (suc k) le = refl
uses_over (e ∷ ds) [] zero le = refl
uses_over (e ∷ ds) [] (suc k) le = refl
uses_over (e ∷ ds) (q ∷ ps) zero le = absurd (omega arith)
uses_over (e ∷ ds) (q ∷ ps) (suc k) le = ap (λ us. (e.0, q.0) ∷ us) (uses_over ds ps k (omega arith))

-- lists that are the same place by place
pub same_uses : (xs ys : List PinUse) → length xs ≡ length ys → ((i : ℕ) (x y : PinUse) → i < length xs → slice_get xs i ≡ Some x → slice_get ys i ≡ Some y → plain_use x ≡ plain_use y) → plain_uses xs ≡ plain_uses ys
same_uses [] [] e each = refl
same_uses [] (y ∷ ys) e each = absurd (omega arith)
same_uses (x ∷ xs) [] e each = absurd (omega arith)
same_uses (x ∷ xs) (y ∷ ys) e each =
    let first = each 0 x y (omega arith) refl refl in
    let rest = same_uses xs ys (omega arith) (λ i a b lt at bt. each (suc i) a b (omega arith) at bt) in
    λ j. first j ∷ rest j

-- the pins of a match, as they are listed
pub pins_are : (cells : List CellParts) (cell : ℕ) (delays : List Micro) (pins qs : List ClassId) (us vs : List PinUse) → map millionths delays ≡ delays_of (delays_of_cells cells) cell → pins ≡ qs → vs ≡ us → AreUsesIn delays pins us → IsPermutation (uses_of cells cell (numbers qs)) (plain_uses vs)
pins_are cells cell delays pins qs us vs from same e perm =
    let one = subst (λ ds. IsPermutation (zip ds (numbers pins)) (plain_uses us)) from perm in
    subst₂ (λ ps ws. IsPermutation (uses_of cells cell (numbers ps)) (plain_uses ws)) same (sym e) one

-- one that is like the match is listed
pub like_found : (cells : List CellParts) (xs : List Choice) (c cell : ℕ) (ps : List ℕ) (uses : List (ℕ × ℕ)) → IsPermutation (uses_of cells cell ps) uses → HasLikeRow cells xs c cell uses → IsListedLike cells xs c (gate cell ps)
like_found cells xs c cell ps uses mine has = record {
  number = has.number;
  other = gate cell has.like.pins;
  at = has.at ∙ ap Some (λ j. record { class = has.like.class_is j; part = has.like.part_is j });
  alike = (refl, IsPermutation-trans (uses_of cells cell ps) uses (uses_of cells cell has.like.pins) mine (IsPermutation-sym (uses_of cells cell has.like.pins) uses has.like.alike));
}

-- or it is listed itself
pub like_pushed : (cells : List CellParts) (xs ys : List Choice) (x : Choice) → ys ≡ xs ++ x ∷ [] → IsGateAdded cells xs ys x
like_pushed cells xs ys x e = record {
  only = inr e;
  like = record { number = length xs; other = x.part; at = ap (λ zs. slice_get zs (length xs)) e ∙ get_last xs x; alike = alike_itself cells x.part };
}
