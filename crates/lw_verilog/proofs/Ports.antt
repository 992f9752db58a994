-- The ports of a header, one by one.
use Rattle.std.proofs.Common.{ℕ, suc, ◌≡◌, ◌≢◌, ◌≤◌, ◌<◌, ◌+◌, ◌⊎◌, inl, inr, Bool, true, false, ◌&&◌, ◌||◌, cond, List, [], ◌∷◌, ◌++◌, length, take, drop, set, get_or, Some, refl, ap, ap₂, sym, ◌∙◌, arith}
use Rattle.std.specs.Prelude.{is_none, slice_get}
use Rattle.std.specs.List.{list_all}
use Rattle.std.proofs.lemmas.List.{take_more, drop_more, drop-append-le, get_or-set_other, length-take-le, take-append-drop, take_all}
use Rattle.std.proofs.lemmas.Option.{slice_get_within, get_or_from_slice_get}
use Rattle.std.specs.List.{IsDistinct}
use Rattle.std.specs.Str.{bytes_eq}
use Rattle.std.proofs.Math.Bool.{or-false, or-true}
use Rattle.std.proofs.lemmas.Grind.{get_or-set_at}
use Rattle.std.proofs.lemmas.Bool.{and_right, cases_eq}
use Rattle.lw_facts.proofs.Lists.{bytes_eq_is, bytes_eq_same}
use Rattle.std.proofs.lemmas.List.Folds.{list_any-append}
use Rattle.lw_named_netlist.specs.Chains.{name_at}
use Rattle.lw_named_netlist.specs.Closing.{is_among, twice_after}
use Rattle.lw_named_netlist.proofs.Found.{found-number}

module _ (header : List (List ℕ)) (place : ℕ) (name : List ℕ) (from : 1 ≤ place) (here : slice_get header place ≡ Some name) where
  abbrev seen : List (List ℕ)
  seen = drop 1 (take place header)

  abbrev rest : List (List ℕ)
  rest = drop (place + 1) header

  within : place < length header
  within = slice_get_within header place name here

  named : get_or header place [] ≡ name
  named = get_or_from_slice_get header place name [] here

  some_taken : 1 ≤ length (take place header)
  some_taken = omega (arith, from, length-take-le place header (omega (arith, within)))

  -- one more port is seen
  pub seen-more : drop 1 (take (place + 1) header) ≡ seen ++ name ∷ []
  seen-more =
      ap (drop 1) (take_more header place [] within)
      ∙ (drop-append-le 1 (take place header) (get_or header place [] ∷ []) some_taken ∙ ap (λ n. seen ++ n ∷ []) named)

  rest-from : drop place header ≡ name ∷ rest
  rest-from = drop_more header place [] within ∙ ap (λ n. n ∷ rest) named

  ports-are : drop 1 header ≡ seen ++ name ∷ rest
  ports-are =
      ap (drop 1) (sym (take-append-drop place header))
      ∙ (drop-append-le 1 (take place header) (drop place header) some_taken ∙ ap (λ l. seen ++ l) rest-from)

  once-by : (b : Bool) → is_among seen name ≡ b → twice_after seen (drop place header) ≡ cond b (Some name) (twice_after (seen ++ name ∷ []) rest)
  once-by b e = ap (twice_after seen) rest-from ∙ ap (λ t. cond t (Some name) (twice_after (seen ++ name ∷ []) rest)) e

  pub once-more : is_among seen name ≡ false → twice_after seen (drop place header) ≡ twice_after [] (drop 1 header) → twice_after (drop 1 (take (place + 1) header)) rest ≡ twice_after [] (drop 1 header)
  once-more miss was = ap (λ l. twice_after l rest) seen-more ∙ (sym (once-by false miss) ∙ was)

  all-both : (p : List ℕ → Bool) (xs ys : List (List ℕ)) → list_all p (xs ++ ys) ≡ (list_all p xs && list_all p ys)
  all-both p [] ys = refl
  all-both p (x ∷ xs) ys = by_case (p x) (all-both p xs ys)
    where
      by_case : (b : Bool) → list_all p (xs ++ ys) ≡ (list_all p xs && list_all p ys) → (b && list_all p (xs ++ ys)) ≡ ((b && list_all p xs) && list_all p ys)
      by_case true e = e
      by_case false e = refl

  pub all-more : (p : List ℕ → Bool) → p name ≡ true → list_all p seen ≡ true → list_all p (drop 1 (take (place + 1) header)) ≡ true
  all-more p hit was = ap (list_all p) seen-more ∙ (all-both p seen (name ∷ []) ∙ (ap (λ b. b && (p name && true)) was ∙ ap (λ b. b && true) hit))

  -- a port that was not declared
  pub none-declared : (p : List ℕ → Bool) → p name ≡ false → (is_none (twice_after [] (drop 1 header)) && list_all p (drop 1 header)) ≡ false
  none-declared p miss =
      and_right (is_none (twice_after [] (drop 1 header))) (list_all p (drop 1 header))
      (ap (list_all p) ports-are ∙ (all-both p seen (name ∷ rest) ∙ and_right (list_all p seen) (list_all p (name ∷ rest)) (ap (λ b. b && list_all p rest) miss)))

  -- a port that was listed before
  pub none-once : (p : List ℕ → Bool) → is_among seen name ≡ true → twice_after seen (drop place header) ≡ twice_after [] (drop 1 header) → (is_none (twice_after [] (drop 1 header)) && list_all p (drop 1 header)) ≡ false
  none-once p hit was = ap (λ o. is_none o && list_all p (drop 1 header)) (sym was ∙ once-by true hit)

-- Flags of the names that were seen, and one more name.
module _ (declared seen : List (List ℕ)) (flags : List Bool) (k : ℕ) (name : List ℕ) (distinct : IsDistinct bytes_eq declared) (within_flags : k < length flags) (named : name_at declared k ≡ name) (inside : k < length declared) (were : (i : ℕ) → i < length declared → get_or flags i false ≡ is_among seen (name_at declared i)) where
  behind-seen : (other : List ℕ) → is_among (seen ++ name ∷ []) other ≡ (is_among seen other || (bytes_eq other name || false))
  behind-seen other = list_any-append (bytes_eq other) seen (name ∷ [])

  at-place : (i : ℕ) → i ≡ k → get_or (set flags k true) i false ≡ is_among (seen ++ name ∷ []) (name_at declared i)
  at-place i same =
      let hit : bytes_eq (name_at declared i) name ≡ true = bytes_eq_same (name_at declared i) name (ap (name_at declared) same ∙ named) in
      get_or-set_at flags k i true false same within_flags
      ∙ (sym (or-true (is_among seen (name_at declared i)))
      ∙ (ap (λ b. is_among seen (name_at declared i) || (b || false)) (sym hit) ∙ sym (behind-seen (name_at declared i))))

  off-place : (i : ℕ) → i < length declared → i ≢ k → (b : Bool) → bytes_eq (name_at declared i) name ≡ b → get_or (set flags k true) i false ≡ is_among (seen ++ name ∷ []) (name_at declared i)
  off-place i lt apart true e =
      absurd (apart (sym (found-number declared name i distinct lt (bytes_eq_is (name_at declared i) name e)) ∙ found-number declared name k distinct inside named))
  off-place i lt apart false e =
      get_or-set_other flags k i true false apart
      ∙ (were i lt ∙ (sym (or-false (is_among seen (name_at declared i)))
      ∙ (ap (λ b. is_among seen (name_at declared i) || (b || false)) (sym e) ∙ sym (behind-seen (name_at declared i)))))

  pub flags-more : (i : ℕ) → i < length declared → get_or (set flags k true) i false ≡ is_among (seen ++ name ∷ []) (name_at declared i)
  flags-more i lt = by_place (cases_eq i k)
    where
      by_place : (i ≡ k) ⊎ (i ≢ k) → get_or (set flags k true) i false ≡ is_among (seen ++ name ∷ []) (name_at declared i)
      by_place (inl same) = at-place i same
      by_place (inr apart) = off-place i lt apart (bytes_eq (name_at declared i) name) refl

-- flags that are all raised where each name passes
pub all-raised : (p : List ℕ → Bool) (flags : List Bool) (names : List (List ℕ)) → length flags ≡ length names → ((i : ℕ) → i < length names → get_or flags i false ≡ p (get_or names i [])) → list_all (λ flag. flag) flags ≡ list_all p names
all-raised p [] [] many each = refl
all-raised p [] (name ∷ names) many each = absurd (omega (arith, many))
all-raised p (flag ∷ flags) [] many each = absurd (omega (arith, many))
all-raised p (flag ∷ flags) (name ∷ names) many each =
    ap₂ (λ a b. a && b) (each 0 (omega arith)) (all-raised p flags names (omega (arith, many)) (λ i lt. each (suc i) (omega (arith, lt))))

-- no port is seen yet
pub none-seen : (header : List (List ℕ)) → drop 1 (take 1 header) ≡ []
none-seen [] = refl
none-seen (name ∷ header) = refl

pub once-first : (header : List (List ℕ)) → twice_after (drop 1 (take 1 header)) (drop 1 header) ≡ twice_after [] (drop 1 header)
once-first header = ap (λ seen. twice_after seen (drop 1 header)) (none-seen header)

-- all ports are seen
pub seen-all : (header : List (List ℕ)) (place : ℕ) → length header ≤ place → drop 1 (take place header) ≡ drop 1 header
seen-all header place all = ap (drop 1) (take_all place header all)
