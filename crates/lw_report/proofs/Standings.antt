-- What lists of vectors stand for.
use Rattle.std.proofs.Common.{ℕ, ◌+◌, ◌<◌, ◌≡◌, Bool, true, false, List, [], ◌∷◌, ◌++◌, Option, Some, None, Result, Ok, Err, cond, length, map, take, get_or, append-nil, refl, sym, ap, subst, ◌∙◌}
use Rattle.std.specs.List.{flat_map}
use Rattle.std.proofs.lemmas.Grind.{flat_map-append}
use Rattle.std.proofs.lemmas.List.{map-append, take_more}
use Rattle.std.specs.Prelude.{OnOk, IfErr, IsErrAnd}
use Rattle.std.specs.Option.{option_or}
use Rattle.std.specs.Result.{result_err}
use Rattle.std.proofs.lemmas.Option.{none-some}
use Rattle.lw_words.specs.Lines.{LogicalLine}
use Rattle.lw_report.specs.declared.fault.VectorFault.{VectorFault}
use Rattle.lw_report.specs.declared.fault.VectorFault.TheVariants.{Line, Memory}
use Rattle.lw_report.specs.declared.vectors.Vectors.{Vectors}
use Rattle.lw_report.specs.Blocks.{vectors_in}
use Rattle.lw_report.specs.Standing.{Tells, Stops, Refuses, StandsFor, AddsVector}
use Rattle.lw_report.specs.Vectors.{is_vector, vector_of, first_fault}

-- the number of a line that is no vector
abbrev fault_at : Bool → ℕ → Option ℕ
fault_at true number = None
fault_at false number = Some number

first_by : (b : Bool) (number : ℕ) → cond b (first_fault 0 []) (Some number) ≡ fault_at b number
first_by true number = refl
first_by false number = refl

more_by : (b : Bool) (number : ℕ) (rest last whole : Option ℕ) → whole ≡ option_or rest last → cond b whole (Some number) ≡ option_or (cond b rest (Some number)) last
more_by true number rest last whole is = is
more_by false number rest last whole is = refl

-- one more line
pub fault_more : (inputs : ℕ) (lines : List LogicalLine) (line : LogicalLine) → first_fault inputs (lines ++ line ∷ []) ≡ option_or (first_fault inputs lines) (fault_at (is_vector inputs line) line.number)
fault_more inputs [] line = first_by (is_vector inputs line) line.number
fault_more inputs (other ∷ lines) line = more_by (is_vector inputs other) other.number (first_fault inputs lines) (fault_at (is_vector inputs line) line.number) (first_fault inputs (lines ++ line ∷ [])) (fault_more inputs lines line)

-- the first fault stays
pub stops_more : (stop : VectorFault) (inputs : ℕ) (lines : List LogicalLine) (line : LogicalLine) → Stops (Some stop) (first_fault inputs lines) → Stops (Some stop) (first_fault inputs (lines ++ line ∷ []))
stops_more (Line number) inputs lines line is = fault_more inputs lines line ∙ ap (λ o. option_or o (fault_at (is_vector inputs line) line.number)) is
stops_more Memory inputs lines line is = is

-- what is answered from then on tells it
pub tells_stop : (stop : VectorFault) (first : Option ℕ) → Stops (Some stop) first → Tells (Err stop) first
tells_stop (Line number) first is = is
tells_stop Memory first is = is

-- behind good lines a line that is a vector
pub good_more : (inputs : ℕ) (lines : List LogicalLine) (line : LogicalLine) → first_fault inputs lines ≡ None → is_vector inputs line ≡ true → first_fault inputs (lines ++ line ∷ []) ≡ None
good_more inputs lines line good is = fault_more inputs lines line ∙ (ap (λ o. option_or o (fault_at (is_vector inputs line) line.number)) good ∙ ap (λ b. fault_at b line.number) is)

-- behind good lines a line that is refused
pub bad_more : (fault : VectorFault) (inputs : ℕ) (lines : List LogicalLine) (line : LogicalLine) → first_fault inputs lines ≡ None → Refuses inputs line fault → Stops (Some fault) (first_fault inputs (lines ++ line ∷ []))
bad_more (Line number) inputs lines line good refuses = fault_more inputs lines line ∙ (ap (λ o. option_or o (fault_at (is_vector inputs line) line.number)) good ∙ (ap (λ b. fault_at b line.number) refuses.0 ∙ ap (λ n. Some n) (sym refuses.1)))
bad_more Memory inputs lines line good refuses = refuses

-- out of memory has no line
pub memory_refuses : (inputs : ℕ) (line : LogicalLine) (result : Result (Unit {0}) VectorFault) → IsErrAnd result (λ e. e ≡ Memory) → IfErr result (Refuses inputs line)
memory_refuses inputs line (Ok u) is = tt
memory_refuses inputs line (Err e) is = subst (Refuses inputs line) (sym is) tt

-- one more vector
pub vectors_more : (lines : List LogicalLine) (line : LogicalLine) (old new : List (List Bool)) → new ≡ old ++ vector_of line ∷ [] → old ≡ map vector_of lines → new ≡ map vector_of (lines ++ line ∷ [])
vectors_more lines line old new more is = more ∙ (ap (λ vs. vs ++ vector_of line ∷ []) is ∙ sym (map-append vector_of lines (line ∷ [])))

-- one more word of a line
pub gathered_more : (words : List (List ℕ)) (i : ℕ) (d : List ℕ) → i < length words → flat_map (λ (word : List ℕ). word) (take (i + 1) words) ≡ flat_map (λ (word : List ℕ). word) (take i words) ++ get_or words i d
gathered_more words i d below =
    ap (flat_map (λ (word : List ℕ). word)) (take_more words i d below) ∙ (flat_map-append (λ (word : List ℕ). word) (take i words) (get_or words i d ∷ []) ∙ ap (λ l. flat_map (λ (word : List ℕ). word) (take i words) ++ l) (append-nil (get_or words i d)))

-- A list of vectors that stopped.

pub stops_at : (vectors : Vectors) (lines : List LogicalLine) (stop : VectorFault) → vectors.stop ≡ Some stop → StandsFor vectors lines → Stops (Some stop) (first_fault vectors.inputs lines)
stops_at vectors lines stop is stands = subst (λ o. Stops o (first_fault vectors.inputs lines)) is stands.stop

some_none : {X : Type 0} {A : Type 0} (x : A) (o : Option A) → o ≡ Some x → o ≡ None → X
some_none x o some none = absurd (none-some x (sym none ∙ some))

pub stands_still : (vectors : Vectors) (lines : List LogicalLine) (line : LogicalLine) (stop : VectorFault) → vectors.stop ≡ Some stop → StandsFor vectors lines → StandsFor vectors (lines ++ line ∷ [])
stands_still vectors lines line stop is stands = record {
  stop = subst (λ o. Stops o (first_fault vectors.inputs (lines ++ line ∷ []))) (sym is) (stops_more stop vectors.inputs lines line (stops_at vectors lines stop is stands));
  kept = λ none. some_none stop vectors.stop is none;
}

-- A line that is taken, or refused.

stop_by : (old new : Vectors) (result : Result (Unit {0}) VectorFault) (lines : List LogicalLine) (line : LogicalLine) → first_fault old.inputs lines ≡ None → OnOk result (AddsVector old.inputs old.blocks.items new.blocks.items line) → IfErr result (Refuses old.inputs line) → Stops (result_err result) (first_fault old.inputs (lines ++ line ∷ []))
stop_by old new (Ok u) lines line good adds refuses = good_more old.inputs lines line good adds.vector
stop_by old new (Err fault) lines line good adds refuses = bad_more fault old.inputs lines line good refuses

pub taken_stands : (old new : Vectors) (lines : List LogicalLine) (line : LogicalLine) (result : Result (Unit {0}) VectorFault) → old.stop ≡ None → new.stop ≡ result_err result → new.inputs ≡ old.inputs → OnOk result (AddsVector old.inputs old.blocks.items new.blocks.items line) → IfErr result (Refuses old.inputs line) → StandsFor old lines → StandsFor new (lines ++ line ∷ [])
taken_stands old new lines line result open_still stop inputs adds refuses stands =
    let good : first_fault old.inputs lines ≡ None = subst (λ o. Stops o (first_fault old.inputs lines)) open_still stands.stop in
    record {
      stop = subst (λ o. Stops o (first_fault new.inputs (lines ++ line ∷ []))) (sym stop) (subst (λ n. Stops (result_err result) (first_fault n (lines ++ line ∷ []))) (sym inputs) (stop_by old new result lines line good adds refuses));
      kept = λ none. kept_by result (sym stop ∙ none) adds;
    }
  where
    kept_by : (r : Result (Unit {0}) VectorFault) → result_err r ≡ None → OnOk r (AddsVector old.inputs old.blocks.items new.blocks.items line) → vectors_in new.blocks.items ≡ map vector_of (lines ++ line ∷ [])
    kept_by (Ok u) none adds = vectors_more lines line (vectors_in old.blocks.items) (vectors_in new.blocks.items) adds.more (stands.kept open_still)
    kept_by (Err fault) none adds = some_none fault (Some fault) refl none

pub taken_tells : (old new : Vectors) (lines : List LogicalLine) (line : LogicalLine) (result : Result (Unit {0}) VectorFault) → old.stop ≡ None → OnOk result (AddsVector old.inputs old.blocks.items new.blocks.items line) → IfErr result (Refuses old.inputs line) → StandsFor old lines → Tells result (first_fault old.inputs (lines ++ line ∷ []))
taken_tells old new lines line result open_still adds refuses stands =
    let good : first_fault old.inputs lines ≡ None = subst (λ o. Stops o (first_fault old.inputs lines)) open_still stands.stop in
    by_result result good adds refuses
  where
    by_result : (r : Result (Unit {0}) VectorFault) → first_fault old.inputs lines ≡ None → OnOk r (AddsVector old.inputs old.blocks.items new.blocks.items line) → IfErr r (Refuses old.inputs line) → Tells r (first_fault old.inputs (lines ++ line ∷ []))
    by_result (Ok u) good adds refuses = good_more old.inputs lines line good adds.vector
    by_result (Err fault) good adds refuses = tells_stop fault (first_fault old.inputs (lines ++ line ∷ [])) (bad_more fault old.inputs lines line good refuses)
