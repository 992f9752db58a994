-- Words that name files, one after another.
use Rattle.std.proofs.Common.{◌≡◌, ◌<◌, ◌+◌, ◌∙◌, ℕ, true, false, cond, List, ◌∷◌, length, get_or, drop, map, Option, Some, ap}
use Rattle.std.proofs.lemmas.List.{at_drop_more}
use Rattle.lw_equal_top.specs.Words.{is_file_word, first_dashed}

module _ {S : Type 0} (bytes : S → List ℕ) (words : List S) (i : ℕ) (d : S) (within : i < length words) where
  abbrev rest : ℕ → Option (List ℕ)
  rest k = first_dashed (map bytes (drop k words))

  here : rest i ≡ cond (is_file_word (bytes (get_or words i d))) (rest (i + 1)) (Some (bytes (get_or words i d)))
  here = at_drop_more (λ (ws : List S). first_dashed (map bytes ws)) words i d within

  -- one more names a file
  pub one_more : is_file_word (bytes (get_or words i d)) ≡ true → rest i ≡ rest (i + 1)
  one_more is = here ∙ ap (λ b. cond b (rest (i + 1)) (Some (bytes (get_or words i d)))) is

  -- this one does not
  pub found : is_file_word (bytes (get_or words i d)) ≡ false → rest i ≡ Some (bytes (get_or words i d))
  found is = here ∙ ap (λ b. cond b (rest (i + 1)) (Some (bytes (get_or words i d)))) is
