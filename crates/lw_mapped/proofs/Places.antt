-- Elements by their places.
use Rattle.std.proofs.Common.{ℕ, ◌≡◌, List, Some, ap, sym, ◌∙◌}
use Rattle.std.specs.Prelude.{slice_get}
use Rattle.std.specs.List.{IsDistinct}
use Rattle.std.specs.Str.{bytes_eq}
use Rattle.std.proofs.lemmas.Option.{slice_get_within, get_or_from_slice_get}
use Rattle.lw_named_netlist.specs.Numbered.{number_in}
use Rattle.lw_dag.proofs.Numbering.{number_at}

-- the place of a name among names that differ
number-is : (names : List (List ℕ)) (i : ℕ) (name : List ℕ) → IsDistinct bytes_eq names → slice_get names i ≡ Some name → number_in names name ≡ i
number-is names i name distinct e =
    ap (number_in names) (sym (get_or_from_slice_get names i name name e)) ∙ number_at names i name distinct (slice_get_within names i name e)

pub one-place : (names : List (List ℕ)) (i j : ℕ) (name : List ℕ) → IsDistinct bytes_eq names → slice_get names i ≡ Some name → slice_get names j ≡ Some name → i ≡ j
one-place names i j name distinct e f = sym (number-is names i name distinct e) ∙ number-is names j name distinct f
