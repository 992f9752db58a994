-- Two lists side by side, from a place on.
use Rattle.std.proofs.Common.{ℕ, zero, suc, ◌+◌, ◌≡◌, ◌<◌, ◌≤◌, Bool, true, false, ◌||◌, ◌&&◌, List, [], ◌∷◌, length, drop, get_or, min, refl, ap, ap₂, sym, ◌∙◌, arith}
use Rattle.std.specs.List.{list_any, list_all, zip}

module _ {A B : Type 0} where
  zip-at : (xs : List A) (ys : List B) (i : ℕ) (x : A) (y : B) → i < length xs → i < length ys → x ≡ get_or xs i x → y ≡ get_or ys i y → zip (drop i xs) (drop i ys) ≡ (x, y) ∷ zip (drop (suc i) xs) (drop (suc i) ys)
  zip-at [] ys i x y lx ly ex ey = absurd (omega arith)
  zip-at (a ∷ xs) [] i x y lx ly ex ey = absurd (omega arith)
  zip-at (a ∷ xs) (b ∷ ys) zero x y lx ly ex ey = ap₂ (λ (p : A) (q : B). (p, q) ∷ zip xs ys) (sym ex) (sym ey)
  zip-at (a ∷ xs) (b ∷ ys) (suc i) x y lx ly ex ey = zip-at xs ys i x y (omega arith) (omega arith) ex ey

  zip-end : (xs : List A) (ys : List B) (i : ℕ) → min (length xs) (length ys) ≤ i → zip (drop i xs) (drop i ys) ≡ []
  zip-end [] ys zero le = refl
  zip-end [] ys (suc i) le = refl
  zip-end (a ∷ xs) [] zero le = refl
  zip-end (a ∷ xs) (b ∷ ys) zero le = absurd (omega arith)
  zip-end (a ∷ xs) [] (suc i) le = none (drop i xs)
    where
      none : (zs : List A) → zip {K = A} {X = B} zs [] ≡ []
      none [] = refl
      none (z ∷ zs) = refl
  zip-end (a ∷ xs) (b ∷ ys) (suc i) le = zip-end xs ys i (omega arith)

  pub any-end : (t : A × B → Bool) (xs : List A) (ys : List B) (i : ℕ) → min (length xs) (length ys) ≤ i → list_any t (zip (drop i xs) (drop i ys)) ≡ list_any t (zip xs ys) → false ≡ list_any t (zip xs ys)
  any-end t xs ys i le is = sym (ap (list_any t) (zip-end xs ys i le)) ∙ is

  pub all-fails : (t : A × B → Bool) (xs : List A) (ys : List B) (i : ℕ) (x : A) (y : B) → i < length xs → i < length ys → x ≡ get_or xs i x → y ≡ get_or ys i y → t (x, y) ≡ false
      → list_all t (zip (drop i xs) (drop i ys)) ≡ list_all t (zip xs ys) → false ≡ list_all t (zip xs ys)
  all-fails t xs ys i x y lx ly ex ey here is =
      sym (sym is ∙ (ap (list_all t) (zip-at xs ys i x y lx ly ex ey) ∙ ap (λ b. b && list_all t (zip (drop (suc i) xs) (drop (suc i) ys))) here))

  pub all-end : (t : A × B → Bool) (xs : List A) (ys : List B) (i : ℕ) → min (length xs) (length ys) ≤ i → list_all t (zip (drop i xs) (drop i ys)) ≡ list_all t (zip xs ys) → true ≡ list_all t (zip xs ys)
  all-end t xs ys i le is = sym (ap (list_all t) (zip-end xs ys i le)) ∙ is
