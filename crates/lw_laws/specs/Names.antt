-- Names of the nets of a mapped netlist. A name is a list of bytes.
use Rattle.std.specs.Prelude.{ℕ, zero, suc, ◌+◌, ◌^◌, ◌<◌, ◌≡◌, ◌==◌, Bool, true, false, not, ◌&&◌, if◌then◌else◌}
use Rattle.std.specs.Prelude.{Option, Some, None, List, [], ◌∷◌, ◌++◌, length, filter, drop, slice_get, slice_index_or}
use Rattle.std.specs.List.{list_any}
use Rattle.std.specs.Fmt.{decimal}
pub use Rattle.lw_laws.specs.Headline.{AreDifferent}

-- two names are one, byte for byte
abbrev pub same_name : List ℕ → List ℕ → Bool
same_name [] [] = true
same_name [] (b ∷ bs) = false
same_name (a ∷ rest) [] = false
same_name (a ∷ rest) (b ∷ bs) = (a == b) && same_name rest bs

abbrev pub is_name_among : List ℕ → List (List ℕ) → Bool
is_name_among name names = list_any (same_name name) names

-- the letter n and a number in decimal
abbrev pub numbered_name : ℕ → List ℕ
numbered_name k = 110 ∷ decimal k

-- so many of these names in a row
abbrev pub numbered_names : ℕ → ℕ → List (List ℕ)
numbered_names first zero = []
numbered_names first (suc count) = numbered_name first ∷ numbered_names (suc first) count

-- n1, n2, n3 and so on without the names that are taken, enough of them for the count
abbrev pub free_names : List (List ℕ) → ℕ → List (List ℕ)
free_names taken count = filter (λ name. not (is_name_among name taken)) (numbered_names 1 (count + length taken))

-- the name of the first output whose class it is, by the outputs' names and classes
abbrev pub output_name : List (List ℕ) → List ℕ → ℕ → Option (List ℕ)
output_name (name ∷ outputs) (root ∷ roots) c = if root == c then Some name else output_name outputs roots c
output_name _ _ c = None

-- The names of the gates of some classes, in order: that of the first output of the class, or else the next free name.
abbrev pub gate_names : List (List ℕ) → List ℕ → List (List ℕ) → List ℕ → List (List ℕ)
gate_names outputs roots free [] = []
gate_names outputs roots free (c ∷ gates) =
    elim (output_name outputs roots c) [
      | Some name ↦ name ∷
          gate_names outputs roots free gates
      | None ↦ slice_index_or free 0 [] ∷ gate_names outputs roots
          (drop 1 free) gates
    ]

-- The names of the nets: the inputs' names, and then the gates'.
abbrev pub net_names : List (List ℕ) → List (List ℕ) → List ℕ → List ℕ → List (List ℕ)
net_names inputs outputs roots gates =
    inputs ++ gate_names outputs roots (free_names (inputs ++ outputs) (length gates)) gates

-- What names the nets apart: the inputs' names differ, and the outputs'; an output with an input's name has the input's
-- class; a class of a gate stands once, and is no input's.
pub record AreNameable (inputs outputs : List (List ℕ)) (leaves roots gates : List ℕ) : Type 0 where
  pub few : 1 + (length gates + length (inputs ++ outputs)) < 2 ^ 64
  pub inputs_differ : AreDifferent inputs
  pub outputs_differ : AreDifferent outputs
  pub tied : (i k : ℕ) (name : List ℕ) → slice_get inputs i ≡ Some name → slice_get outputs k ≡ Some name
      → slice_get roots k ≡ slice_get leaves i
  pub once : (i j c : ℕ) → slice_get gates i ≡ Some c → slice_get gates j ≡ Some c → i ≡ j
  pub no_leaf : (i j c : ℕ) → slice_get gates i ≡ Some c → slice_get leaves j ≡ Some c → ⊥
