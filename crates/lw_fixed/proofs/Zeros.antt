-- The elements at the end of a list that pass a test.
use Rattle.std.proofs.Common.{ℕ, ◌+◌, ◌-◌, ◌<◌, ◌≤◌, ◌≡◌, Bool, true, false, List, length, drop, get_or, replicate, reverse, sym, ap, ◌∙◌, arith, length-drop, eqb}
use Rattle.std.specs.List.{suffix_len}
use Rattle.std.proofs.lemmas.List.{length-reverse, get_or-reverse, get_or-drop, get_or-replicate, ext_get_or, length-replicate}
use Rattle.std.proofs.lemmas.List.Sums.{prefix_len_passes, prefix_len_stops, suffix_len-le-length}
use Rattle.std.proofs.lemmas.Bool.{eqb-true}

module _ (p : ℕ → Bool) (xs : List ℕ) where
  -- each element from there on passes
  pub passes_behind : (k : ℕ) → length xs - suffix_len p xs ≤ k → k < length xs → p (get_or xs k 0) ≡ true
  passes_behind k le lt =
      let most : suffix_len p xs ≤ length xs = suffix_len-le-length p xs in
      let near : length xs - 1 - k < suffix_len p xs = omega arith in
      let same : length xs - 1 - (length xs - 1 - k) ≡ k = omega arith in
      let there : get_or (reverse xs) (length xs - 1 - k) 0 ≡ get_or xs (length xs - 1 - (length xs - 1 - k)) 0 = get_or-reverse xs (length xs - 1 - k) 0 (omega arith) in
      ap p (sym (there ∙ ap (λ i. get_or xs i 0) same)) ∙ prefix_len_passes p (reverse xs) (length xs - 1 - k) 0 near

  -- the one before does not
  pub stops_before : 0 < length xs - suffix_len p xs → p (get_or xs (length xs - suffix_len p xs - 1) 0) ≡ false
  stops_before some =
      let there : get_or (reverse xs) (suffix_len p xs) 0 ≡ get_or xs (length xs - 1 - suffix_len p xs) 0 = get_or-reverse xs (suffix_len p xs) 0 (omega arith) in
      let same : length xs - 1 - suffix_len p xs ≡ length xs - suffix_len p xs - 1 = omega arith in
      let shorter : suffix_len p xs < length (reverse xs) = omega (arith, length-reverse xs) in
      ap p (sym (there ∙ ap (λ i. get_or xs i 0) same)) ∙ prefix_len_stops p (reverse xs) 0 shorter

-- what is dropped are zeros
pub dropped_zeros : (xs : List ℕ) → drop (length xs - suffix_len (λ d. eqb d 48) xs) xs ≡ replicate (suffix_len (λ d. eqb d 48) xs) 48
dropped_zeros xs =
    let n : ℕ = suffix_len (λ d. eqb d 48) xs in
    let most : suffix_len (λ d. eqb d 48) xs ≤ length xs = suffix_len-le-length (λ d. eqb d 48) xs in
    let long : length (drop (length xs - n) xs) ≡ n = omega (arith, length-drop (length xs - n) xs) in
    ext_get_or 0 (drop (length xs - n) xs) (replicate n 48) (long ∙ sym (length-replicate n 48))
    (λ i lt. get_or-drop (length xs - n) xs i 0
    ∙ (eqb-true _ _ (passes_behind (λ d. eqb d 48) xs (length xs - n + i) (omega arith) (omega arith))
    ∙ sym (get_or-replicate n i 48 0 (omega arith))))
