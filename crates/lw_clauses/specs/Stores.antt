-- What the store of clauses keeps, and what it takes in.
use Rattle.std.specs.Prelude.{ℕ, ◌≡◌, ◌≤◌, Option, MatchOption, List, [], ◌∷◌, ◌++◌}
use Rattle.std.specs.List.{slice_range}
use Rattle.lw_aig.specs.declared.literal.Literal.{Literal}
use Rattle.lw_clauses.specs.declared.store.Span.{Span}

-- the literals of a span
abbrev pub literals_at : List Literal → Span → List Literal
literals_at lits span = slice_range lits span.start span.end

-- The span is one of so many literals.
pub record IsSpan (count : ℕ) (span : Span) : Type 0 where
  pub rising : span.start ≤ span.end
  pub within : span.end ≤ count

-- With a number the clause was appended, and else nothing was changed.
abbrev pub Takes : List (List Literal) → List (List Literal) → List Literal → Option ℕ → Type 0
Takes old new clause number = MatchOption number (new ≡ old) (λ _. new ≡ old ++ clause ∷ [])
