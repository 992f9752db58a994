-- Lists of pairs as parts of one array.
use Rattle.std.specs.Prelude.{ℕ, zero, suc, ◌≤◌, ◌≡◌, List, [], ◌∷◌, slice_index}
use Rattle.std.specs.List.{slice_range}
use Rattle.std.proofs.Props.{props}
use mathlib.Core.HLevel.{×_prop}
use Rattle.lw_graph.specs.declared.pair.Pair.{Pair}

-- the ends never fall, from the first start on, and the last one is n
abbrev pub AreEnds : ℕ → ℕ → List ℕ → Type 0
AreEnds n start [] = start ≡ n
AreEnds n start (end ∷ ends) = (start ≤ end) × AreEnds n end ends

-- it is one fact
pub one_cut : (n start : ℕ) (ends : List ℕ) → IsProp (AreEnds n start ends)
one_cut n start [] = hlevel props
one_cut n start (end ∷ ends) = ×_prop (hlevel props) (one_cut n end ends)

-- the parts of the pairs that end there, each from where the one before it ends
abbrev pub rows_from : List Pair → ℕ → List ℕ → List (List Pair)
rows_from pairs start [] = []
rows_from pairs start (end ∷ ends) = slice_range pairs start end ∷ rows_from pairs end ends

-- where the part at a place starts: where the one before it ends
abbrev pub start_at : ℕ → List ℕ → ℕ → ℕ
start_at start ends zero = start
start_at start ends (suc place) = slice_index ends place
