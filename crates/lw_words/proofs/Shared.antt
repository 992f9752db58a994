-- Lemmas that the proofs of several crates above cite.
use Rattle.lw_words.specs.Gathering.{IsInk, IsNoHash}
use Rattle.lw_words.specs.Lines.{before_hash, has_some, is_line_feed, lines_among}
use Rattle.lw_words.specs.Texts.{line}
use Rattle.lw_words.specs.Words.{first_word, front}
use Rattle.std.proofs.Common.{Bool, List, Some, [], ap, arith, cond, false, length, not, refl, sym, true, ℕ, ◌++◌, ◌<◌, ◌==◌, ◌||◌, ◌∙◌, ◌∷◌, ◌≡◌, ◌≢◌}
use Rattle.std.proofs.lemmas.Bool.Decides.{nat_tests}
use Rattle.std.specs.Prelude.{slice_get}
use Rattle.std.specs.List.{AllByRecursion as Each, list_any, onto_first, slice_split}

pub front_none : {A : Type 0} (p q : A → Bool) → ((x : A) → p x ≡ not (q x)) → (xs : List A) → list_any q xs ≡ false → front p xs ≡ xs
front_none p q same [] none = refl
front_none p q same (x ∷ xs) none = at_first (q x) refl none (front_none p q same xs)
  where
    at_first : (b : Bool) → q x ≡ b → (q x || list_any q xs) ≡ false → (list_any q xs ≡ false → front p xs ≡ xs) → front p (x ∷ xs) ≡ x ∷ xs
    at_first true e n others = let wrong : true ≡ false = sym (ap (λ b. b || list_any q xs) e) ∙ n in cc
    at_first false e n others = ap (λ c. cond c (x ∷ front p xs) []) (same x ∙ ap not e) ∙ ap (λ r. x ∷ r) (others (sym (ap (λ b. b || list_any q xs) e) ∙ n))

pub front_stop : {A : Type 0} (p q : A → Bool) → ((x : A) → p x ≡ not (q x)) → (xs ys : List A) → list_any q xs ≡ true → front p (xs ++ ys) ≡ front p xs
front_stop p q same [] ys some = cc
front_stop p q same (x ∷ xs) ys some = at_first (q x) refl some (front_stop p q same xs ys)
  where
    at_first : (b : Bool) → q x ≡ b → (q x || list_any q xs) ≡ true → (list_any q xs ≡ true → front p (xs ++ ys) ≡ front p xs) → front p (x ∷ xs ++ ys) ≡ front p (x ∷ xs)
    at_first true e s others =
        let fails : p x ≡ false = same x ∙ ap not e in
        ap (λ c. cond c (x ∷ front p (xs ++ ys)) []) fails ∙ sym (ap (λ c. cond c (x ∷ front p xs) []) fails)
    at_first false e s others = ap (λ r. cond (p x) (x ∷ r) []) (others (sym (ap (λ b. b || list_any q xs) e) ∙ s))

pub front_end : {A : Type 0} (p q : A → Bool) → ((x : A) → p x ≡ not (q x)) → (xs : List A) (y : A) → q y ≡ true → front p (xs ++ y ∷ []) ≡ front p xs
front_end p q same [] y holds = ap (λ c. cond c (y ∷ []) []) (same y ∙ ap not holds)
front_end p q same (x ∷ xs) y holds = ap (λ r. cond (p x) (x ∷ r) []) (front_end p q same xs y holds)

pub no_feed : (b : ℕ) → IsInk b → is_line_feed b ≡ false
no_feed b ink = let other : b ≢ 10 = ink.1 in grind (arith, nat_tests)

pub before_hash_all : (bytes : List ℕ) → Each IsNoHash bytes → before_hash bytes ≡ bytes
before_hash_all [] each = refl
before_hash_all (b ∷ bytes) each = ap (λ t. cond t [] (b ∷ before_hash bytes)) other ∙ ap (λ l. b ∷ l) (before_hash_all bytes each.1)
  where
    other : (b == 35) ≡ false
    other = let differs : b ≢ 35 = each.0 in grind (arith, nat_tests)

pub word_some : (word : List ℕ) → 0 < length word → has_some word ≡ true
word_some [] some = absurd (omega arith)
word_some (b ∷ word) some = refl

pub among_more : (line bytes : List ℕ) → lines_among true (line ∷ slice_split is_line_feed bytes) ≡ line ∷ lines_among true (slice_split is_line_feed bytes)
among_more line [] = refl
among_more line (b ∷ bytes) = by_kind (is_line_feed b) (slice_split is_line_feed bytes)
  where
    by_kind : (t : Bool) (parts : List (List ℕ)) → lines_among true (line ∷ cond t ([] ∷ parts) (onto_first b parts)) ≡ line ∷ lines_among true (cond t ([] ∷ parts) (onto_first b parts))
    by_kind true parts = refl
    by_kind false [] = refl
    by_kind false (part ∷ parts) = refl

pub first_word-get : (words : List (List ℕ)) (word : List ℕ) → slice_get words 0 ≡ Some word → word ≡ first_word words
first_word-get [] word e = cc
first_word-get (w ∷ words) word e = cc
