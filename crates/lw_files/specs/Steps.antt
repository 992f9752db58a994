-- Steps from files to what they come to: the first that refuses decides.
use Rattle.std.specs.Prelude.{◌≡◌, ◌⊎◌, ℕ, List, Option, Result, Ok, Err}

-- the bytes of each name that a file has
abbrev pub Files : Type 0
Files = List ℕ → Option (List ℕ)

-- what a step says of files and of what it comes to: a value for the next step, or why there is none
abbrev pub StepTo : Type 0 → Type 0 → Type 1
StepTo E A = Files → Result A E → Type 0

-- a step that computes
abbrev pub gives : {E A : Type 0} → (Files → Result A E) → StepTo E A
gives f files r = f files ≡ r

-- A step and then the next one: the first hands a value on, or it refuses.
abbrev pub followed_by : {E A B : Type 0} → StepTo E A → (A → StepTo E B) → StepTo E B
followed_by {E} {A} first next files r =
    ((x : A) × first files (Ok x) × next x files r) ⊎ ((e : E) × first files (Err e) × (Err e ≡ r))
