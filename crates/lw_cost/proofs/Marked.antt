-- Marks of the pins of a match.
use Rattle.std.proofs.Common.{ℕ, zero, suc, max, ◌<◌, ◌≤◌, ◌≡◌, List, [], ◌∷◌, ◌++◌, length, map, Some, unwrap_or, slice_get, get_or, refl, sym, ap, subst, arith}
use Rattle.std.specs.List.{AllByRecursion}
use Rattle.lw_laws.specs.Marks.{Mark, Marks, HaveMarks, costs_in, greatest_height}
use Rattle.lw_laws.specs.Costs.{AreAtMost}

-- the mark at a class that has one
abbrev pub mark_at : Marks → ℕ → Mark
mark_at marks c = unwrap_or (marks c) (record { cost = 0; height = 0 })

pub have_at : (marks : Marks) (ps : List ℕ) (ms : List Mark) → HaveMarks marks ps ms → (k c : ℕ) → slice_get ps k ≡ Some c → (m : Mark) × (slice_get ms k ≡ Some m) × (marks c ≡ Some m)
have_at marks [] [] h k c e = cc
have_at marks [] (m ∷ ms) h k c e = absurd h
have_at marks (p ∷ ps) [] h k c e = absurd h
have_at marks (p ∷ ps) (m ∷ ms) (h, hs) zero c e =
    let q : p ≡ c = cc in (m, refl, subst (λ x. marks x ≡ Some m) q h)
have_at marks (p ∷ ps) (m ∷ ms) (h, hs) (suc k) c e = have_at marks ps ms hs k c e

-- the marks are those at the classes
pub marks_are : (marks : Marks) (ps : List ℕ) (ms : List Mark) → HaveMarks marks ps ms → ms ≡ map (mark_at marks) ps
marks_are marks [] [] h = refl
marks_are marks [] (m ∷ ms) h = absurd h
marks_are marks (p ∷ ps) [] h = absurd h
marks_are marks (p ∷ ps) (m ∷ ms) (h, hs) =
    let e : m ≡ mark_at marks p = sym (ap (λ o. unwrap_or o (record { cost = 0; height = 0 })) h) in
    let es = marks_are marks ps ms hs in
    cc

pub have_marks : (marks : Marks) (ps : List ℕ) → AllByRecursion (λ p. (m : Mark) × (marks p ≡ Some m)) ps → HaveMarks marks ps (map (mark_at marks) ps)
have_marks marks [] h = tt
have_marks marks (p ∷ ps) ((m, e), hs) =
    (subst (λ o. o ≡ Some (unwrap_or o (record { cost = 0; height = 0 }))) (sym e) refl, have_marks marks ps hs)

pub length-marks : (marks : Marks) (ps : List ℕ) (ms : List Mark) → HaveMarks marks ps ms → length ms ≡ length ps
length-marks marks [] [] h = refl
length-marks marks [] (m ∷ ms) h = absurd h
length-marks marks (p ∷ ps) [] h = absurd h
length-marks marks (p ∷ ps) (m ∷ ms) (h, hs) = ap suc (length-marks marks ps ms hs)

pub length-costs : (ms : List Mark) → length (costs_in ms) ≡ length ms
length-costs [] = refl
length-costs (m ∷ ms) = ap suc (length-costs ms)

pub cost_at : (ms : List Mark) (k : ℕ) (m : Mark) → slice_get ms k ≡ Some m → get_or (costs_in ms) k 0 ≡ m.cost
cost_at [] k m e = cc
cost_at (n ∷ ms) zero m e = let q : n ≡ m = cc in ap (λ m. m.cost) q
cost_at (n ∷ ms) (suc k) m e = cost_at ms k m e

-- what holds of each cost of a mark holds of the costs of the marks
pub each_cost : (P : ℕ → Type 0) (marks : Marks) (ps : List ℕ) (ms : List Mark) → ((c : ℕ) (m : Mark) → marks c ≡ Some m → P m.cost) → HaveMarks marks ps ms → AllByRecursion P (costs_in ms)
each_cost P marks [] [] each h = tt
each_cost P marks [] (m ∷ ms) each h = absurd h
each_cost P marks (p ∷ ps) [] each h = absurd h
each_cost P marks (p ∷ ps) (m ∷ ms) each (h, hs) =
    (each p m h, each_cost P marks ps ms each hs)

-- by places
pub at_most_by : (ds es : List ℕ) → length ds ≡ length es → ((k : ℕ) → k < length ds → get_or ds k 0 ≤ get_or es k 0) → AreAtMost ds es
at_most_by [] [] e h = tt
at_most_by [] (d ∷ es) e h = absurd (omega arith)
at_most_by (d ∷ ds) [] e h = absurd (omega arith)
at_most_by (d ∷ ds) (x ∷ es) e h =
    (h 0 (omega arith), at_most_by ds es (omega arith) (λ k lt. h (suc k) (omega arith)))

-- one more mark
pub greatest-more : (marks : Marks) (ps : List ℕ) (c : ℕ) → greatest_height (map (mark_at marks) (ps ++ c ∷ [])) ≡ max (greatest_height (map (mark_at marks) ps)) (mark_at marks c).height
greatest-more marks [] c = omega arith
greatest-more marks (p ∷ ps) c = let ih = greatest-more marks ps c in omega arith
