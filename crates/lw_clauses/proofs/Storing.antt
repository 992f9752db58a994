-- The clauses of a store, where one is appended or some are forgotten.
use Rattle.std.proofs.Common.{ℕ, ◌+◌, ◌-◌, ◌≡◌, Option, Some, None, All, Contains, List, [], ◌∷◌, ◌++◌, length, map, take, drop, refl, ap, ap₂, sym, ◌∙◌, subst, arith}
use Rattle.std.proofs.lemmas.List.{drop-append-le, length-drop, take-append-le, take_all}
use Rattle.std.proofs.lemmas.List.Elements.{All-contains, All-head, All-push, All-tail, All-weaker}
use Rattle.lw_aig.specs.declared.literal.Literal.{Literal}
use Rattle.lw_clauses.specs.declared.store.Span.{Span}
use Rattle.lw_clauses.specs.Stores.{IsSpan, Takes, literals_at}

range_kept : (lits more : List Literal) (span : Span) → IsSpan (length lits) span → literals_at (lits ++ more) span ≡ literals_at lits span
range_kept lits more span is =
    let rising = is.rising in
    let within = is.within in
    ap (take (span.end - span.start)) (drop-append-le span.start lits more (omega arith))
    ∙ take-append-le (span.end - span.start) (drop span.start lits) more (omega (arith, length-drop span.start lits))

drop_length : (lits more : List Literal) → drop (length lits) (lits ++ more) ≡ more
drop_length [] more = refl
drop_length (l ∷ lits) more = drop_length lits more

range_last : (lits more : List Literal) (span : Span) → span.start ≡ length lits → span.end ≡ length lits + length more → literals_at (lits ++ more) span ≡ more
range_last lits more span start end =
    ap (λ n. take (span.end - span.start) (drop n (lits ++ more))) start
    ∙ (ap (take (span.end - span.start)) (drop_length lits more) ∙ take_all (span.end - span.start) more (omega arith))

ranges : (lits more : List Literal) (spans : List Span) (span : Span) → All (IsSpan (length lits)) spans → span.start ≡ length lits → span.end ≡ length lits + length more → map (literals_at (lits ++ more)) (spans ++ span ∷ []) ≡ map (literals_at lits) spans ++ more ∷ []
ranges lits more [] span all start end = ap (λ l. l ∷ []) (range_last lits more span start end)
ranges lits more (first ∷ spans) span all start end =
    ap₂ (λ l ls. l ∷ ls) (range_kept lits more first (All-head (IsSpan (length lits)) first spans all)) (ranges lits more spans span (All-tail (IsSpan (length lits)) first spans all) start end)

-- the clauses after one is appended
pub clauses_pushed : (lits lits' more : List Literal) (spans spans' : List Span) (span : Span) (clauses : List (List Literal)) → map (literals_at lits) spans ≡ clauses → All (IsSpan (length lits)) spans → lits' ≡ lits ++ more → spans' ≡ spans ++ span ∷ [] → span.start ≡ length lits → span.end ≡ length lits + length more → map (literals_at lits') spans' ≡ clauses ++ more ∷ []
clauses_pushed lits lits' more spans spans' span clauses view all longer also start end =
    ap₂ (λ ls ss. map (literals_at ls) ss) longer also ∙ (ranges lits more spans span all start end ∙ ap (λ cs. cs ++ more ∷ []) view)

-- what holds of all clauses, and of the one that is taken in
pub all_taken : (P : List Literal → Type 0) (old new : List (List Literal)) (clause : List Literal) (number : Option ℕ) → Takes old new clause number → All P old → P clause → All P new
all_taken P old new clause None takes all here = subst (All P) (sym takes) all
all_taken P old new clause (Some n) takes all here = subst (All P) (sym takes) (All-push P old clause all here)

-- what holds of all clauses holds of those that are kept
pub all_kept : (P : List Literal → Type 0) (old new : List (List Literal)) → All (Contains old) new → All P old → All P new
all_kept P old new kept all = All-weaker (Contains old) P (λ c inside. All-contains P old c all inside) new kept
