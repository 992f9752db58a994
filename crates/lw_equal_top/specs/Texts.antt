-- The texts for out.
use Rattle.std.specs.Prelude.{◌≡◌, ℕ, Bool, true, false, ⊤, List, [], ◌∷◌, ◌++◌, length, codes, if◌then◌else◌}
use Rattle.std.specs.List.{flat_map}
use Rattle.lw_equal.specs.declared.answer.Answer.{Answer}
use Rattle.lw_equal.specs.declared.answer.Answer.TheVariants.{Equal, Differ, Undecided}
use Rattle.lw_equal.specs.declared.answer.Difference.{Difference}
use Rattle.lw_equal.specs.declared.point.Kind.{Kind}
use Rattle.lw_equal.specs.declared.point.Kind.TheVariants.{Output, Data, Control}
use Rattle.lw_equal.specs.declared.point.Point.{Point}
use Rattle.lw_shown.specs.Shown.{shown}

-- what stands before the name of a point: a latch is named by its output
abbrev pub kind_text : Kind → List ℕ
kind_text Output = []
kind_text Data = codes "latch "
kind_text Control = codes "control "

abbrev pub point_text : Point → List ℕ
point_text point = kind_text point.kind ++ shown point.name

abbrev pub point_line : List ℕ → Point → List ℕ
point_line before point = before ++ (point_text point ++ codes "\n")

abbrev pub value_text : Bool → List ℕ
value_text value = if value then codes " 1\n" else codes " 0\n"

abbrev pub value_line : List ℕ → Bool → List ℕ
value_line name value = shown name ++ value_text value

-- a line for each input
abbrev pub values_text : List (List ℕ) → List Bool → List ℕ
values_text (name ∷ names) (value ∷ values) = value_line name value ++ values_text names values
values_text names values = []

abbrev pub difference_text : List (List ℕ) → Difference → List ℕ
difference_text names d = point_line (codes "differ ") d.point ++ values_text names d.inputs.items

abbrev pub undecided_text : List Point → List ℕ
undecided_text points = flat_map (point_line (codes "undecided ")) points

-- the text of an answer, where these are the names of the first side's inputs
abbrev pub answer_text : List (List ℕ) → Answer → List ℕ
answer_text names Equal = codes "equal\n"
answer_text names (Differ d) = difference_text names d
answer_text names (Undecided points) = undecided_text points

-- each input has a value
abbrev pub HasValues : List (List ℕ) → Answer → Type 0
HasValues names (Differ d) = length d.inputs.items ≡ length names
HasValues names other = ⊤
