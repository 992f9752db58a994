-- The first that passes a test.
use Rattle.std.proofs.Common.{ℕ, ◌≡◌, ◌<◌, ◌+◌, Bool, true, false, ◌||◌, cond, List, [], ◌∷◌, ◌++◌, length, drop, get_or, Option, Some, None, refl, ap, sym, ◌∙◌, subst}
use Rattle.std.specs.Prelude.{find, is_some, option_map}
use Rattle.std.specs.Str.{bytes_eq}
use Rattle.std.specs.Cmp.Lexicographic.{bytes_decides}
use Rattle.std.proofs.Math.Bool.{or-true}
use Rattle.std.proofs.lemmas.List.Folds.{list_any-append, find-append}
use Rattle.indexmap.specs.IndexSet.{insert_key}
use Rattle.lw_named_netlist.specs.Closing.{is_among}
use Rattle.std.specs.List.{flat_map}
use Rattle.std.specs.Option.{option_or}
use Rattle.std.proofs.lemmas.List.{drop_more}
use Rattle.std.proofs.lemmas.List.{length-map}
use Rattle.std.proofs.lemmas.List.Quantifiers.{position-Some}
use Rattle.lw_genlib.specs.Cells.{CellParts, names_of}
use Rattle.lw_verilog.specs.Sayable.{first_or_none}
use Rattle.lw_verilog.specs.Statements.{first_name, number_of}

-- the first in the lists of a list
pub find-flat : {A B : Type 0} (p : B → Bool) (f : A → List B) (xs : List A) (i : ℕ) (d : A) → i < length xs → find p (flat_map f (drop i xs)) ≡ option_or (find p (f (get_or xs i d))) (find p (flat_map f (drop (i + 1) xs)))
find-flat p f xs i d lt = ap (λ l. find p (flat_map f l)) (drop_more xs i d lt) ∙ find-append p (f (get_or xs i d)) (flat_map f (drop (i + 1) xs))

first-append : (xs ys : List (List ℕ)) → first_or_none (xs ++ ys) ≡ option_or (first_or_none xs) (first_or_none ys)
first-append [] ys = refl
first-append (x ∷ xs) ys = refl

pub first-flat : {A : Type 0} (f : A → List (List ℕ)) (xs : List A) (i : ℕ) (d : A) → i < length xs → first_or_none (flat_map f (drop i xs)) ≡ option_or (first_or_none (f (get_or xs i d))) (first_or_none (flat_map f (drop (i + 1) xs)))
first-flat f xs i d lt = ap (λ l. first_or_none (flat_map f l)) (drop_more xs i d lt) ∙ first-append (f (get_or xs i d)) (flat_map f (drop (i + 1) xs))

pub or-some : {A B : Type 0} (o : Option A) (f : A → B) (a b : Option B) → is_some o ≡ true → option_map f o ≡ a → option_map f o ≡ option_or a b
or-some (Some x) f a b e is = ap (λ o. option_or o b) is
or-some None f a b e is = cc

pub or-none : {A B : Type 0} (o : Option A) (f : A → B) (a b : Option B) → is_some o ≡ false → option_map f o ≡ a → option_or a b ≡ b
or-none (Some x) f a b e is = cc
or-none None f a b e is = ap (λ o. option_or o b) (sym is)

-- One name more in a set.

or-false : (b : Bool) → (b || (false || false)) ≡ b
or-false true = refl
or-false false = refl

pub among-insert : (keys names : List (List ℕ)) (name x : List ℕ) → is_among keys x ≡ is_among names x → is_among keys name ≡ is_among names name → is_among (insert_key bytes_eq keys name) x ≡ is_among (names ++ name ∷ []) x
among-insert keys names name x same own = by_test (is_among keys name) refl
  where
    by_test : (b : Bool) → is_among keys name ≡ b → is_among (cond b keys (keys ++ name ∷ [])) x ≡ is_among (names ++ name ∷ []) x
    by_test false e = list_any-append (bytes_eq x) keys (name ∷ []) ∙ (ap (λ b. b || is_among (name ∷ []) x) same ∙ sym (list_any-append (bytes_eq x) names (name ∷ [])))
    by_test true e = by_same (bytes_eq x name) refl
      where
        by_same : (m : Bool) → bytes_eq x name ≡ m → is_among keys x ≡ is_among (names ++ name ∷ []) x
        by_same true em =
            let one : x ≡ name = (bytes_decides x name).0 em in
            ap (is_among keys) one ∙ (e ∙ sym (list_any-append (bytes_eq x) names (name ∷ []) ∙ (ap (λ b. is_among names x || (b || false)) em ∙ or-true (is_among names x))))
        by_same false em = same ∙ sym (list_any-append (bytes_eq x) names (name ∷ []) ∙ (ap (λ b. is_among names x || (b || false)) em ∙ or-false (is_among names x)))

-- the cell of an instance is one of the library
pub cell_within : (cells : List CellParts) (names : List (List ℕ)) (number : ℕ) → number_of cells names ≡ Some number → number < length cells
cell_within cells names number is =
    subst (λ n. number < n) (length-map cells (λ (cell : CellParts). cell.name)) (position-Some (bytes_eq (first_name names)) (names_of cells) number [] is).0
