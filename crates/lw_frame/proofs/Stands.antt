-- One more arrival line.
use Rattle.std.proofs.Common.{ℕ, ◌≡◌, Bool, true, false, cond, List, [], ◌∷◌, ◌++◌, map, filter, reverse, Option, Some, None, refl, ap, sym, ◌∙◌, append-nil}
use Rattle.std.specs.Prelude.{unwrap_or}
use Rattle.std.specs.Str.{bytes_eq}
use Rattle.std.proofs.lemmas.List.{reverse-append}
use Rattle.std.proofs.lemmas.List.Elements.{filter-append}
use Rattle.indexmap.specs.IndexMap.{get}
use Rattle.lw_fixed.specs.declared.micro.Micro.{Micro}
use Rattle.lw_frame.specs.declared.arrivals.Arrivals.{Arrivals}
use Rattle.lw_frame.specs.Starts.{Arrival, first_start, last_start, is_named, is_for_all, at_once, start_of}
use Rattle.lw_frame.specs.Standing.{StandsFor}
use Rattle.lw_frame.specs.Kept.{start_kept}

pub last_start-more : (is : Option (List ℕ) → Bool) (lines : List Arrival) (line : Arrival) → last_start is (lines ++ line ∷ []) ≡ cond (is line.named) (Some line.start) (last_start is lines)
last_start-more is lines line =
    ap (λ l. first_start (reverse l)) (filter-append (λ (a : Arrival). is a.named) lines (line ∷ [])) ∙ by_case (is line.named)
  where
    kept : List Arrival
    kept = filter (λ (a : Arrival). is a.named) lines

    by_case : (b : Bool) → first_start (reverse (kept ++ cond b (line ∷ []) [])) ≡ cond b (Some line.start) (first_start (reverse kept))
    by_case true = ap first_start (reverse-append kept (line ∷ []))
    by_case false = ap (λ l. first_start (reverse l)) (append-nil kept)

-- a line for one input
pub stands-set : (old new : Arrivals) (name : List ℕ) (start : Micro) (lines : List Arrival) → ((q : List ℕ) → get bytes_eq new.own q ≡ cond (bytes_eq name q) (Some start) (get bytes_eq old.own q)) → new.every ≡ old.every → StandsFor old lines →
    StandsFor new (lines ++ record { named = Some name; start = start } ∷ [])
stands-set old new name start lines own every h = record {
  own = λ q. own q ∙ (ap (λ o. cond (bytes_eq name q) (Some start) o) (h.own q) ∙ sym (last_start-more (is_named q) lines (record { named = Some name; start = start })));
  every = every ∙ (h.every ∙ sym (last_start-more is_for_all lines (record { named = Some name; start = start })));
}

-- a line for all inputs
pub stands-every : (old new : Arrivals) (start : Micro) (lines : List Arrival) → ((q : List ℕ) → get bytes_eq new.own q ≡ get bytes_eq old.own q) → new.every ≡ Some start → StandsFor old lines →
    StandsFor new (lines ++ record { named = None; start = start } ∷ [])
stands-every old new start lines own every h = record {
  own = λ q. own q ∙ (h.own q ∙ sym (last_start-more (is_named q) lines (record { named = None; start = start })));
  every = every ∙ sym (last_start-more is_for_all lines (record { named = None; start = start }));
}

-- the starts that are kept are those of the lines
pub starts-are : (arrivals : Arrivals) (lines : List Arrival) (names : List (List ℕ)) → StandsFor arrivals lines → map (start_kept arrivals) names ≡ map (start_of lines) names
starts-are arrivals lines [] h = refl
starts-are arrivals lines (name ∷ names) h =
    ap (λ (s : Micro). s ∷ map (start_kept arrivals) names) (ap (λ o. unwrap_or o (unwrap_or arrivals.every at_once)) (h.own name) ∙ ap (λ e. unwrap_or (last_start (is_named name) lines) (unwrap_or e at_once)) h.every)
    ∙ ap (λ r. start_of lines name ∷ r) (starts-are arrivals lines names h)
