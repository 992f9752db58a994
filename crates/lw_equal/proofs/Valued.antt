-- Values by number and by name.
use Rattle.std.proofs.Common.{ℕ, ◌+◌, ◌<◌, ◌≡◌, Bool, true, false, not, Some, List, [], length, map, get_or, slice_get, refl, ap, sym, ◌∙◌, arith}
use mathlib.Core.Bool.{beq}
use Rattle.std.proofs.lemmas.Bool.{false≢true}
use Rattle.std.specs.List.{IsDistinct, position_or_len}
use Rattle.std.specs.Str.{bytes_eq}
use Rattle.std.proofs.lemmas.List.{get_or-map}
use Rattle.std.proofs.lemmas.Option.{slice_get-get_or}
use Rattle.lw_genlib.specs.Tables.{truth_of_cells}
use Rattle.lw_laws.specs.Networks.{given}
use Rattle.lw_equal.specs.declared.side.Logic.{Logic}
use Rattle.lw_equal.specs.declared.side.Logic.TheVariants.{Rows, Cells}
use Rattle.lw_equal.specs.declared.side.Side.{Side}
use Rattle.lw_equal.specs.Answers.{named_value}
use Rattle.lw_equal.specs.Laid.{ArePlaces}
use Rattle.lw_equal.specs.Sides.{AreValuesOf, AreValuesUnder, input_count, inputs_of}
use Rattle.lw_equal.proofs.Names.{own_place}

-- the values of nets are by those of the inputs
pub by_inputs : (logic : Logic) (x y : ℕ → Bool) (values : List Bool) → ((i : ℕ) → i < input_count logic → x i ≡ y i) → AreValuesOf logic x values → AreValuesOf logic y values
by_inputs (Rows net) x y values same are = record { one_each = are.one_each; inputs = λ i lt. are.inputs i lt ∙ ap Some (same i lt); nodes = are.nodes }
by_inputs (Cells n lib) x y values same are = record { one_each = are.one_each; inputs = λ i lt. are.inputs i lt ∙ ap Some (same i lt); gates = are.gates }

-- values that were told apart differ
pub told_apart : (a b : Bool) → not (beq a b) ≡ true → a ≡ b → ⊥
told_apart true true told e = false≢true told
told_apart true false told e = false≢true (sym e)
told_apart false true told e = false≢true e
told_apart false false told e = false≢true told

-- the value of a name at its place
value_at : (all : List (List ℕ)) (values : List Bool) (k : ℕ) (name : List ℕ) → IsDistinct bytes_eq all → slice_get all k ≡ Some name → get_or values k false ≡ named_value all values name
value_at all values k name distinct at = ap (λ n. get_or values n false) (sym (own_place all k name distinct at))

-- values of the inputs by their own names
pub own_values : (side : Side) (inputs values : List Bool) → IsDistinct bytes_eq (inputs_of side.logic) → length (inputs_of side.logic) ≡ input_count side.logic → AreValuesOf side.logic (given inputs) values → AreValuesUnder side (named_value (inputs_of side.logic) inputs) values
own_values side inputs values distinct count are =
    let names = inputs_of side.logic in
    by_inputs side.logic (given inputs) (λ i. named_value names inputs (get_or names i [])) values
    (λ i lt. value_at names inputs i (get_or names i []) distinct (slice_get-get_or names i [] (omega arith))) are

-- values of the inputs by names of another side
pub other_values : (all : List (List ℕ)) (side : Side) (inputs values : List Bool) (places : List ℕ) → IsDistinct bytes_eq all → length (inputs_of side.logic) ≡ input_count side.logic → ArePlaces all (inputs_of side.logic) places
    → AreValuesOf side.logic (given (map (λ place. get_or inputs place false) places)) values → AreValuesUnder side (named_value all inputs) values
other_values all side inputs values places distinct count are of =
    let names = inputs_of side.logic in
    let one = are.one_each in
    by_inputs side.logic (given (map (λ place. get_or inputs place false) places)) (λ i. named_value all inputs (get_or names i [])) values
    (λ i lt.
    get_or-map (λ place. get_or inputs place false) places i 0 false (omega arith)
    ∙ value_at all inputs (get_or places i 0) (get_or names i []) distinct (are.each i (omega arith))) of
