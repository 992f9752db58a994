-- Names that a set holds by its keys.
use Rattle.std.proofs.Common.{◌≡◌, ℕ, ◌==◌, Bool, true, false, cond, ◌&&◌, ◌||◌, List, [], ◌∷◌, ◌++◌, map, refl, sym, ap, ◌∙◌}
use Rattle.std.proofs.Math.Bool.{or_assoc}
use Rattle.std.proofs.lemmas.List.{map-append}
use Rattle.std.specs.List.{list_any}
use Rattle.std.specs.Str.{bytes_eq}
use Rattle.indexmap.specs.IndexSet.{insert_key}
use Rattle.lw_laws.specs.Names.{same_name, is_name_among}
use Rattle.lw_laws.proofs.Facts.{same_name_eq}
use Rattle.lw_naming.specs.Naming.{HoldsAlso}

-- std's test of bytes is that of names
bytes_same : (a b : List ℕ) → bytes_eq a b ≡ same_name a b
bytes_same [] [] = refl
bytes_same [] (y ∷ ys) = refl
bytes_same (x ∷ xs) [] = refl
bytes_same (x ∷ xs) (y ∷ ys) = ap (λ t. (x == y) && t) (bytes_same xs ys)

-- the names of two lists
pub among-append : (name : List ℕ) (xs ys : List (List ℕ)) → is_name_among name (xs ++ ys) ≡ (is_name_among name xs || is_name_among name ys)
among-append name [] ys = refl
among-append name (x ∷ xs) ys =
    ap (λ b. same_name name x || b) (among-append name xs ys) ∙ sym (or_assoc (same_name name x) (is_name_among name xs) (is_name_among name ys))

-- a name that is there already adds none
there-already : (names : List (List ℕ)) (added name : List ℕ) → is_name_among added names ≡ true → is_name_among name names ≡ (is_name_among name names || is_name_among name (added ∷ []))
there-already names added name there = by_tests (same_name name added) refl (is_name_among name names) refl
  where
    by_tests : (t : Bool) → same_name name added ≡ t → (b : Bool) → is_name_among name names ≡ b → b ≡ (b || (t || false))
    by_tests t e true held = refl
    by_tests false e false held = refl
    by_tests true e false held =
        let same = same_name_eq name added e in
        let other : true ≡ false = sym there ∙ (ap (λ n. is_name_among n names) (sym same) ∙ held) in
        cc

module _ {X : Type 0} (name_of : X → List ℕ) where
  abbrev same_key : X → X → Bool
  same_key x y = bytes_eq (name_of x) (name_of y)

  pub held : (keys : List X) (name : List ℕ) → list_any (λ k. bytes_eq name (name_of k)) keys ≡ is_name_among name (map name_of keys)
  held [] name = refl
  held (k ∷ keys) name =
      ap (λ b. b || list_any (λ k. bytes_eq name (name_of k)) keys) (bytes_same name (name_of k)) ∙ ap (λ b. same_name name (name_of k) || b) (held keys name)

  -- one more key
  key_added : (keys : List X) (key : X) → HoldsAlso (map name_of keys) (map name_of (insert_key same_key keys key)) (name_of key ∷ [])
  key_added keys key name = by_test (list_any (same_key key) keys) (held keys (name_of key))
    where
      by_test : (t : Bool) → t ≡ is_name_among (name_of key) (map name_of keys) → is_name_among name (map name_of (cond t keys (keys ++ key ∷ []))) ≡ (is_name_among name (map name_of keys) || is_name_among name (name_of key ∷ []))
      by_test true e = there-already (map name_of keys) (name_of key) name (sym e)
      by_test false e = ap (is_name_among name) (map-append name_of keys (key ∷ [])) ∙ among-append name (map name_of keys) (name_of key ∷ [])

  pub added : (keys grown : List X) (old new : List (List ℕ)) (key : X) (name : List ℕ) → map name_of keys ≡ old → map name_of grown ≡ new → grown ≡ insert_key same_key keys key → name_of key ≡ name → HoldsAlso old new (name ∷ [])
  added keys grown old new key name was is grew same other =
      ap (is_name_among other) (sym is ∙ ap (map name_of) grew)
      ∙ key_added keys key other
      ∙ ap (λ ns. is_name_among other ns || is_name_among other (name_of key ∷ [])) was
      ∙ ap (λ n. is_name_among other old || is_name_among other (n ∷ [])) same
