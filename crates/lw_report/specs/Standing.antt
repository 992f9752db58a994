-- What a list of vectors stands for: the lines that it was given.
use Rattle.std.specs.Prelude.{ℕ, ◌≡◌, ◌++◌, [], ◌∷◌, true, false, List, map, Option, Some, None, IfSome, IsSome, Result}
use Rattle.std.specs.Prelude.{Ok, Err, ⊤}
use Rattle.lw_words.specs.Lines.{LogicalLine}
use Rattle.lw_report.specs.declared.block.Block.{Block}
use Rattle.lw_report.specs.declared.fault.VectorFault.{VectorFault}
use Rattle.lw_report.specs.declared.fault.VectorFault.TheVariants.{Line, Memory}
use Rattle.lw_report.specs.declared.vectors.Vectors.{Vectors}
use Rattle.lw_report.specs.Blocks.{vectors_in}
use Rattle.lw_report.specs.Vectors.{is_vector, first_fault, vector_of}

-- how many values each vector has
abbrev pub inputs_of : Vectors → ℕ
inputs_of vectors = vectors.inputs

-- what is answered from then on
abbrev pub stop_of : Vectors → Option VectorFault
stop_of vectors = vectors.stop

-- The answer tells the first line that is no vector. Running out of memory is always allowed.
abbrev pub Tells : Result (Unit {0}) VectorFault → Option ℕ → Type 0
Tells (Ok u) first = first ≡ None
Tells (Err (Line number)) first = first ≡ Some number
Tells (Err Memory) first = ⊤

-- The answer is that of each later line too, or nothing is kept where it is good.
abbrev pub Stopped : Result (Unit {0}) VectorFault → Option VectorFault → Type 0
Stopped (Ok u) stopped = stopped ≡ None
Stopped (Err fault) stopped = stopped ≡ Some fault

-- No more is taken behind this first line that is no vector. Running out of memory is always
-- allowed.
abbrev pub Stops : Option VectorFault → Option ℕ → Type 0
Stops None first = first ≡ None
Stops (Some (Line number)) first = first ≡ Some number
Stops (Some Memory) first = ⊤

-- The line is no vector, and is told. Running out of memory is always allowed.
abbrev pub Refuses : ℕ → LogicalLine → VectorFault → Type 0
Refuses inputs line (Line number) = (is_vector inputs line ≡ false) × (number ≡ line.number)
Refuses inputs line Memory = ⊤

-- The lines were given.
pub record StandsFor (vectors : Vectors) (lines : List LogicalLine) : Type 0 where
  pub stop : Stops vectors.stop (first_fault vectors.inputs lines)
  pub kept : vectors.stop ≡ None → vectors_in vectors.blocks.items ≡ map vector_of lines

-- One more line was a vector, and is kept.
pub record AddsVector (inputs : ℕ) (old new : List Block) (line : LogicalLine) : Type 0 where
  pub vector : is_vector inputs line ≡ true
  pub more : vectors_in new ≡ vectors_in old ++ vector_of line ∷ []

-- The answer is that of each later line too. Where there was one before it is the same, and nothing changes.
pub record KeepsStop (old new : Vectors) (result : Result (Unit {0}) VectorFault) : Type 0 where
  pub stopped : Stopped result (stop_of new)
  pub again : IfSome (stop_of old) (λ stop. result ≡ Err stop)
  pub unchanged : IsSome (stop_of old) → new ≡ old
