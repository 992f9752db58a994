-- Lists of words, place by place.
use Rattle.std.proofs.Common.{ℕ, suc, ◌≡◌, ◌≤◌, ◌<◌, ◌+◌, ◌-◌, List, [], ◌∷◌, length, take, drop, Some, refl, ap, ◌∙◌, arith, length-drop}
use Rattle.std.specs.Prelude.{slice_get}
use Rattle.std.specs.List.{slice_range}
use Rattle.std.proofs.lemmas.List.{take_all}
use Rattle.lw_facts.proofs.Lists.{drop_get}

-- the first word of a part
pub range-first : {A : Type 0} (xs : List A) (i end : ℕ) (x : A) → i < end → slice_get xs i ≡ Some x → slice_range xs i end ≡ x ∷ slice_range xs (i + 1) end
range-first xs i end x below e =
    let count : end - i ≡ suc (end - (i + 1)) = omega arith in
    ap (λ l. take (end - i) l) (drop_get xs i x e) ∙ ap (λ n. take n (x ∷ drop (i + 1) xs)) count

pub range-none : {A : Type 0} (xs : List A) (from end : ℕ) → end ≤ from → slice_range xs from end ≡ []
range-none xs from end past = let none : end - from ≡ 0 = omega arith in ap (λ n. take n (drop from xs)) none ∙ take-zero (drop from xs)
  where
    take-zero : {B : Type 0} (ys : List B) → take 0 ys ≡ []
    take-zero [] = refl
    take-zero (y ∷ ys) = refl

-- all words from a place on
pub range-all : {A : Type 0} (xs : List A) (from end : ℕ) → from ≤ end → length xs ≤ end → slice_range xs from end ≡ drop from xs
range-all xs from end within far = take_all (end - from) (drop from xs) (omega (arith, length-drop from xs))
