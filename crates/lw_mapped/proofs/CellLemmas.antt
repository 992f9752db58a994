-- The cell that a name finds, and what a line of a gate says by it.
use Rattle.std.proofs.Common.{ℕ, zero, suc, ◌≡◌, ◌<◌, ◌≤◌, Bool, true, false, cond, nat_lt, List, [], ◌∷◌, length, drop, get_or, Option, Some, None, Err, Contains, refl, ap, sym, ◌∙◌, arith}
use Rattle.std.specs.Prelude.{position, slice_get}
use Rattle.std.specs.List.{IsDistinct, position_or_len}
use Rattle.std.specs.Str.{bytes_eq}
use Rattle.std.specs.Cmp.Lexicographic.{bytes_decides}
use Rattle.std.proofs.lemmas.Bool.Decides.{nat_tests}
use Rattle.std.proofs.lemmas.List.Sums.{position_or_len_is}
use Rattle.lw_facts.proofs.Lists.{first_place}
use Rattle.lw_genlib.specs.Cells.{CellParts, names_of}
use Rattle.lw_mapped.specs.declared.fault.MappedKind.TheVariants as kind
use Rattle.lw_mapped.specs.declared.saying.Saying.TheVariants as saying
use Rattle.lw_mapped.specs.GateLines.{ties_fault, gate_of}
use Rattle.lw_mapped.specs.Sayings.{said, gate_says, gate_says_in, gate_says_at}
use Rattle.lw_words.specs.Words.{first_word}

get-parts : (names : List (List ℕ)) (k : ℕ) (name d : List ℕ) → slice_get names k ≡ Some name → (k < length names) × (get_or names k d ≡ name)
get-parts [] k name d e = cc
get-parts (x ∷ xs) zero name d e = let same : x ≡ name = cc in (omega arith, same)
get-parts (x ∷ xs) (suc k) name d e = let rest = get-parts xs k name d e in (omega (arith, rest.0), rest.1)

pub found-at : (names : List (List ℕ)) (k : ℕ) (name : List ℕ) → IsDistinct bytes_eq names → slice_get names k ≡ Some name → position (bytes_eq name) names ≡ Some k
found-at names k name distinct e =
    let parts = get-parts names k name name e in
    let place : position_or_len (bytes_eq name) names ≡ k = sym (ap (λ n. position_or_len (bytes_eq n) names) parts.1) ∙ first_place names k name distinct parts.0 in
    let inside : nat_lt k (length names) ≡ true = grind (arith, nat_tests, parts.0) in
    ap (λ p. cond (nat_lt p (length names)) (Some p) None) place ∙ ap (λ b. cond b (Some k) None) inside

pub found-none : (names : List (List ℕ)) (name : List ℕ) → ¬ Contains names name → position (bytes_eq name) names ≡ None
found-none names name none =
    let place : position_or_len (bytes_eq name) names ≡ length names = position_or_len_is (bytes_eq name) names (length names) name (omega arith) (λ k below. misses k below (bytes_eq name (get_or names k name)) refl) (λ below. absurd (omega arith)) in
    let outside : nat_lt (length names) (length names) ≡ false = grind (arith, nat_tests) in
    ap (λ p. cond (nat_lt p (length names)) (Some p) None) place ∙ ap (λ b. cond b (Some (length names)) None) outside
  where
    misses : (k : ℕ) → k < length names → (b : Bool) → bytes_eq name (get_or names k name) ≡ b → bytes_eq name (get_or names k name) ≡ false
    misses k below true e = absurd (none (k, below, sym ((bytes_decides name (get_or names k name)).0 e)))
    misses k below false e = e

pub below-names : (cells : List CellParts) (k : ℕ) (name : List ℕ) → slice_get (names_of cells) k ≡ Some name → k < length cells
below-names [] k name e = cc
below-names (x ∷ xs) zero name e = omega arith
below-names (x ∷ xs) (suc k) name e = let rest = below-names xs k name e in omega (arith, rest)

-- What the line says.

second : (words : List (List ℕ)) (name : List ℕ) → slice_get words 1 ≡ Some name → first_word (drop 1 words) ≡ name
second [] name e = cc
second (x ∷ []) name e = cc
second (x ∷ y ∷ words) name e = let same : y ≡ name = cc in same

behind : (words : List (List ℕ)) → drop 1 (drop 1 words) ≡ drop 2 words
behind [] = refl
behind (x ∷ []) = refl
behind (x ∷ y ∷ words) = refl

enough : (words : List (List ℕ)) → 3 ≤ length words → nat_lt (length (drop 1 words)) 2 ≡ false
enough [] some = absurd (omega arith)
enough (x ∷ words) some = grind (arith, nat_tests, some)

says-in : (cells : List CellParts) (words : List (List ℕ)) (name : List ℕ) (o : Option ℕ) → 3 ≤ length words → slice_get words 1 ≡ Some name → position (bytes_eq name) (names_of cells) ≡ o → gate_says cells (drop 1 words) ≡ gate_says_in cells (drop 2 words) o
says-in cells words name o some there found =
    ap (λ b. cond b (Err kind.Shape) (gate_says_in cells (drop 1 (drop 1 words)) (position (bytes_eq (first_word (drop 1 words))) (names_of cells)))) (enough words some)
    ∙ (ap (λ l. gate_says_in cells l (position (bytes_eq (first_word (drop 1 words))) (names_of cells))) (behind words)
    ∙ (ap (λ n. gate_says_in cells (drop 2 words) (position (bytes_eq n) (names_of cells))) (second words name there)
    ∙ ap (gate_says_in cells (drop 2 words)) found))

pub says-no_cell : (cells : List CellParts) (words : List (List ℕ)) (name : List ℕ) → 3 ≤ length words → slice_get words 1 ≡ Some name → ¬ Contains (names_of cells) name → gate_says cells (drop 1 words) ≡ Err kind.NoCell
says-no_cell cells words name some there none = says-in cells words name None some there (found-none (names_of cells) name none)

pub says-cell : (cells : List CellParts) (words : List (List ℕ)) (name : List ℕ) (number : ℕ) (cell : CellParts) → IsDistinct bytes_eq (names_of cells) → 3 ≤ length words → slice_get words 1 ≡ Some name → slice_get (names_of cells) number ≡ Some name → slice_get cells number ≡ Some cell →
    gate_says cells (drop 1 words) ≡ said (ties_fault cell (drop 2 words)) (saying.Gate (gate_of number cell (drop 2 words)))
says-cell cells words name number cell distinct some there found at =
    says-in cells words name (Some number) some there (found-at (names_of cells) number name distinct found) ∙ ap (gate_says_at cells number (drop 2 words)) at
