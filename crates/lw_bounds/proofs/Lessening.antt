-- Numbers that fall to what the pairs of a class give.
use Rattle.std.proofs.Common.{ℕ, ◌+◌, ◌-◌, ◌++◌, take, drop, ◌%◌, ◌<◌, ◌≤◌, ◌≡◌, ◌||◌, Bool, true, false, if◌then◌else◌, List, [], ◌∷◌, length, max, Option, Some, slice_get, get_or, refl, sym, ap, subst, ◌∙◌, inl, inr, arith}
use Rattle.std.proofs.lemmas.List.Sums.{sum_by-append, sum_by-take-drop}
use Rattle.std.proofs.lemmas.List.Edits.{get_or-between}
use Rattle.std.specs.List.{slice_range}
use borrow.Rule.Slice.PartMut.{put_mid}
use Rattle.lw_laws.specs.Flip.{flip}
use Rattle.lw_laws.specs.Graphs.{Graph, Pair as PlainPair, HoldsPair}
use Rattle.lw_graph.specs.declared.pair.Pair.{Pair}
use Rattle.lw_graph.specs.Graphs.{plain_row}
use Rattle.std.proofs.Common.{◌⊎◌, slice_index, slice_index_or, Contains, eqb-true, true≢false}
use Rattle.std.proofs.lemmas.Bool.{eq-eqb}
use Rattle.std.proofs.lemmas.List.{length-take-le, get_or-append-add, get_or_append_left, get_or-take, get_or-drop}
use Rattle.std.proofs.lemmas.Option.{slice_get_within}
use Rattle.std.specs.Prelude.{◌==◌}
use Rattle.lw_cost.specs.declared.mark.Mark.{Mark}
use Rattle.lw_bounds.specs.declared.parts.Side.{Side}
use Rattle.lw_bounds.specs.declared.parts.Part.{Part}
use Rattle.lw_bounds.specs.Numbers.{never, no_row, start_of, number_from, Reading, class_below, side_number, pair_number}
use Rattle.lw_bounds.specs.Bounds.{total, reading_of, AreApart, AreBare, AreLowered, AreRowsBut}
use Rattle.lw_cost.proofs.GoalPlaces.{pair_at}
use Rattle.lw_graph.proofs.Graphs.{flip_below}

pub below_within : (n : ℕ) (s : Side) (c : ℕ) → n % 2 ≡ 0 → c < n → class_below s c < n
below_within n s c even lt = by_flag s.flipped
  where
    by_flag : (b : Bool) → (if b then flip c else c) < n
    by_flag true = flip_below n c even lt
    by_flag false = lt

-- what is not above any pair's number is not above the sides of a pair, in either order
pub least_settles : (g : Graph) (r : Reading) (p : Part) (c : ℕ) (row : List Pair) → plain_row row ≡ slice_index_or g.pairs c [] → (least : ℕ) → ((i : ℕ) (q : Pair) → slice_get row i ≡ Some q → least ≤ pair_number r p q.x.0 q.y.0) → (x y : ℕ) → HoldsPair g c x y → least ≤ max (side_number r p.left x) (side_number r p.right y)
least_settles g r p c row is least below x y (inl h) =
    let (k, lt, f) = subst (λ ps. Contains ps (record { x = x; y = y })) (sym is) h in
    let (q, at, same) = pair_at row k (record { x = x; y = y }) lt f in
    let first : q.x.0 ≡ x = ap (λ (p : PlainPair). p.x) same in
    let second : q.y.0 ≡ y = ap (λ (p : PlainPair). p.y) same in
    let le : least ≤ pair_number r p x y = subst (λ a. least ≤ pair_number r p a y) first (subst (λ b. least ≤ pair_number r p q.x.0 b) second (below k q at)) in
    omega arith
least_settles g r p c row is least below x y (inr h) =
    let (k, lt, f) = subst (λ ps. Contains ps (record { x = y; y = x })) (sym is) h in
    let (q, at, same) = pair_at row k (record { x = y; y = x }) lt f in
    let first : q.x.0 ≡ y = ap (λ (p : PlainPair). p.x) same in
    let second : q.y.0 ≡ x = ap (λ (p : PlainPair). p.y) same in
    let le : least ≤ pair_number r p y x = subst (λ a. least ≤ pair_number r p a x) first (subst (λ b. least ≤ pair_number r p q.x.0 b) second (below k q at)) in
    omega arith

-- the numbers so far: none fell, or their sum fell
pub record HaveFallen (old new : List ℕ) (fell : Bool) : Type 0 where
  pub falls : fell ≡ true → total new < total old
  pub same : fell ≡ false → new ≡ old

pub fallen_more : (old mid new : List ℕ) (one fell : Bool) → (one ≡ true → total new < total mid) → (one ≡ false → new ≡ mid) → HaveFallen old mid fell → HaveFallen old new (one || fell)
fallen_more old mid new true true falls same h =
    record { falls = λ e. let a = h.falls refl in let b = falls refl in omega arith; same = λ e. cc }
fallen_more old mid new true false falls same h =
    record { falls = λ e. let a = ap total (h.same refl) in let b = falls refl in omega arith; same = λ e. cc }
fallen_more old mid new false true falls same h =
    record { falls = λ e. let a = h.falls refl in let b = ap total (same refl) in omega arith; same = λ e. cc }
fallen_more old mid new false false falls same h =
    record { falls = λ e. cc; same = λ e. same refl ∙ h.same refl }

-- a row whose sum is less makes the sum less
pub row_falls : (numbers row : List ℕ) (start : ℕ) → total row < total (slice_range numbers start (start + length row)) → total (put_mid start (length row) numbers row) < total numbers
row_falls numbers row start less =
    let rest = drop start numbers in
    let width : start + length row - start ≡ length row = omega arith in
    let below : total row < total (take (length row) rest) = subst (λ (k : ℕ). total row < total (take k rest)) width less in
    omega (arith, sum_by-append (λ (n : ℕ). n) (take start numbers) (row ++ drop (length row) rest), sum_by-append (λ (n : ℕ). n) row (drop (length row) rest), sum_by-take-drop (λ (n : ℕ). n) numbers start, sum_by-take-drop (λ (n : ℕ). n) rest (length row))

-- the numbers behind a write of a row
pub put_inside : (numbers row : List ℕ) (start k : ℕ) → start + length row ≤ length numbers → k < length row → slice_index (put_mid start (length row) numbers row) (start + k) ≡ slice_index row k
put_inside numbers row start k fits below =
    let rest = drop (length row) (drop start numbers) in
    let size : length (take start numbers) ≡ start = length-take-le start numbers (omega (arith, fits)) in
    ap (λ n. slice_index (put_mid start (length row) numbers row) (n + k)) (sym size) ∙ (get_or-append-add (take start numbers) (row ++ rest) k 0 ∙ get_or_append_left row rest 0 k below)

pub put_outside : (numbers row : List ℕ) (start k : ℕ) → start + length row ≤ length numbers → (k < start) ⊎ (start + length row ≤ k) → slice_index (put_mid start (length row) numbers row) k ≡ slice_index numbers k
put_outside numbers row start k fits (inl lt) =
    let rest = drop (length row) (drop start numbers) in
    let size : length (take start numbers) ≡ start = length-take-le start numbers (omega (arith, fits)) in
    get_or_append_left (take start numbers) (row ++ rest) 0 k (omega (arith, size, lt)) ∙ get_or-take start numbers k 0 lt
put_outside numbers row start k fits (inr le) =
    let rest = drop (length row) (drop start numbers) in
    let size : length (take start numbers) ≡ start = length-take-le start numbers (omega (arith, fits)) in
    let j = k - (start + length row) in
    let place : k ≡ length (take start numbers) + (length row + j) = omega (arith, size, le) in
    let there : start + (length row + j) ≡ k = omega (arith, le) in
    ap (λ n. slice_index (put_mid start (length row) numbers row) n) place
    ∙ (get_or-append-add (take start numbers) (row ++ rest) (length row + j) 0
    ∙ (get_or-append-add row rest j 0
    ∙ (get_or-drop (length row) (drop start numbers) j 0
    ∙ (get_or-drop start numbers (length row + j) 0 ∙ ap (λ n. slice_index numbers n) there))))

-- what is the same as a row is not below it
pub row_same : (numbers least : List ℕ) (start width : ℕ) → length least ≡ width → least ≡ slice_range numbers start (start + width) → (k : ℕ) → k < length least → get_or numbers (start + k) 0 ≤ get_or least k 0
row_same numbers least start width size same k lt =
    let there : get_or least k 0 ≡ get_or numbers (start + k) 0 = ap (λ (xs : List ℕ). get_or xs k 0) same ∙ get_or-between numbers start (start + width) k 0 (omega arith) in
    omega arith

pub number_at : (numbers : List ℕ) (n start : ℕ) → (start ≡ no_row → ⊥) → number_from numbers n start ≡ slice_index numbers (start + n)
number_at numbers n start has = by_test (start == no_row) refl
  where
    by_test : (b : Bool) → (start == no_row) ≡ b → (if b then never else slice_index numbers (start + n)) ≡ slice_index numbers (start + n)
    by_test true e = absurd (has (eqb-true start no_row e))
    by_test false e = refl

-- numbers that are not above those that the pairs give
pub row_lowered : (g : Graph) (marks : List (Option Mark)) (parts : List Part) (starts : List ℕ) (c : ℕ) (row : List Pair) (old new least : List ℕ) → plain_row row ≡ slice_index_or g.pairs c [] → (start_of starts c ≡ no_row → ⊥) → length least ≡ length parts → ((k : ℕ) → k < length least → get_or new (start_of starts c + k) 0 ≤ get_or least k 0) → ((i : ℕ) (q : Pair) (k : ℕ) (p : Part) → slice_get row i ≡ Some q → slice_get parts k ≡ Some p → get_or least k 0 ≤ pair_number (reading_of g marks parts starts old) p q.x.0 q.y.0) → AreLowered g (reading_of g marks parts starts old) parts new c
row_lowered g marks parts starts c row old new least is has count falls below k p x y at h =
    let inside = slice_get_within parts k p at in
    let le = falls k (omega (arith, inside, count)) in
    let number = number_at new k (start_of starts c) has in
    least_settles g (reading_of g marks parts starts old) p c row is (number_from new k (start_of starts c)) (λ i q f. let m = below i q k p f at in omega (arith, m, le, number)) x y h

-- a class without pairs
pub none_lowered : (g : Graph) (r : Reading) (parts : List Part) (c : ℕ) (row : List Pair) (new : List ℕ) → plain_row row ≡ slice_index_or g.pairs c [] → length row ≡ 0 → AreLowered g r parts new c
none_lowered g r parts c row new is none n p x y at h =
    least_settles g r p c row is (number_from new n (start_of r.starts c)) (λ i q f. let inside = slice_get_within row i q f in absurd (omega (arith, inside, none))) x y h

-- other numbers at a row leave those of other rows
pub rows_but : (width c : ℕ) (starts old new : List ℕ) → AreApart width starts → (start_of starts c ≡ no_row → ⊥) → ((k : ℕ) → (k < start_of starts c) ⊎ (start_of starts c + width ≤ k) → slice_index new k ≡ slice_index old k) → AreRowsBut width starts (λ d. d ≡ c) old new
rows_but width c starts old new apart has same n d below other = by_test (start_of starts d == no_row) refl
  where
    outside : (start_of starts d ≡ no_row → ⊥) → (start_of starts d + n < start_of starts c) ⊎ (start_of starts c + width ≤ start_of starts d + n)
    outside some = elim (apart d c other some has) [
      | inl le ↦ inl (omega (arith, le, below))
      | inr le ↦ inr (omega (arith, le))
    ]

    by_test : (b : Bool) → (start_of starts d == no_row) ≡ b → (if b then never else slice_index new (start_of starts d + n)) ≡ (if b then never else slice_index old (start_of starts d + n))
    by_test true e = refl
    by_test false e =
        same (start_of starts d + n) (outside (λ f. true≢false (sym (eq-eqb (start_of starts d) no_row f) ∙ e)))

-- a class with a pair has a row
pub row_there : (g : Graph) (starts : List ℕ) (c : ℕ) (row : List Pair) → plain_row row ≡ slice_index_or g.pairs c [] → AreBare starts g → (length row ≡ 0 → ⊥) → start_of starts c ≡ no_row → ⊥
row_there g starts c [] is bare some none = absurd (some refl)
row_there g starts c (q ∷ row) is bare some none = cc (is ∙ bare c none)
