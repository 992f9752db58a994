-- The numbered names that are not taken.
use Rattle.std.proofs.Common.{ℕ, zero, suc, ◌+◌, ◌-◌, ◌<◌, ◌≤◌, ◌^◌, ◌≡◌, Bool, true, false, not, ◌||◌, cond, List, [], ◌∷◌, ◌++◌, length, filter, refl, ap, sym, ◌∙◌, subst, add-one, arith}
use Rattle.std.specs.Fmt.{decimal}
use Rattle.std.proofs.lemmas.Fmt.{decimal_injective}
use Rattle.lw_laws.specs.Names.{same_name, is_name_among, numbered_name, numbered_names, free_names}
use Rattle.lw_laws.proofs.Facts.{same_name_eq}
use Rattle.lw_naming.specs.Naming.{free_between, HoldsAlso}
use Rattle.lw_naming.proofs.NamesHeld.{among-append}

-- those of so many names from a number on that are not taken
abbrev frees : List (List ℕ) → ℕ → ℕ → List (List ℕ)
frees taken first count = filter (λ name. not (is_name_among name taken)) (numbered_names first count)

-- two numbers have two names
named_apart : (a b : ℕ) → a < b → b < 2 ^ 64 → same_name (numbered_name b) (numbered_name a) ≡ false
named_apart a b lt le = by_test (same_name (numbered_name b) (numbered_name a)) refl
  where
    by_test : (t : Bool) → same_name (numbered_name b) (numbered_name a) ≡ t → t ≡ false
    by_test false e = refl
    by_test true e =
        let names : ◌≡◌ {A = List ℕ} (110 ∷ decimal b) (110 ∷ decimal a) = same_name_eq (numbered_name b) (numbered_name a) e in
        let same : decimal b ≡ decimal a = cc in
        let number : b ≡ a = decimal_injective b a (omega arith) (omega arith) same in
        absurd (omega arith)

-- a number below takes no later name
none_lost : (a : ℕ) (taken : List (List ℕ)) (first count : ℕ) → a < first → first + count < 2 ^ 64 → length (frees taken first count) ≤ length (frees (numbered_name a ∷ taken) first count)
none_lost a taken first zero lt le = omega arith
none_lost a taken first (suc count) lt le = by_tests (same_name (numbered_name first) (numbered_name a)) (is_name_among (numbered_name first) taken) (named_apart a first lt (omega arith)) (none_lost a taken (suc first) count (omega arith) (omega arith))
  where
    by_tests : (s t : Bool) → s ≡ false → length (frees taken (suc first) count) ≤ length (frees (numbered_name a ∷ taken) (suc first) count) → length (cond (not t) (numbered_name first ∷ frees taken (suc first) count) (frees taken (suc first) count)) ≤ length (cond (not (s || t)) (numbered_name first ∷ frees (numbered_name a ∷ taken) (suc first) count) (frees (numbered_name a ∷ taken) (suc first) count))
    by_tests true t s ih = cc
    by_tests false true s ih = ih
    by_tests false false s ih = omega arith

-- one more name takes one name at most
one_lost : (name : List ℕ) (taken : List (List ℕ)) (first count : ℕ) → first + count < 2 ^ 64 → length (frees taken first count) ≤ suc (length (frees (name ∷ taken) first count))
one_lost name taken first zero le = omega arith
one_lost name taken first (suc count) le = by_tests (same_name (numbered_name first) name) (is_name_among (numbered_name first) taken) refl (one_lost name taken (suc first) count (omega arith))
  where
    kept : same_name (numbered_name first) name ≡ true → length (frees taken (suc first) count) ≤ length (frees (name ∷ taken) (suc first) count)
    kept s = subst (λ n. length (frees taken (suc first) count) ≤ length (frees (n ∷ taken) (suc first) count)) (same_name_eq (numbered_name first) name s) (none_lost first taken (suc first) count (omega arith) (omega arith))

    by_tests : (s t : Bool) → same_name (numbered_name first) name ≡ s → length (frees taken (suc first) count) ≤ suc (length (frees (name ∷ taken) (suc first) count)) → length (cond (not t) (numbered_name first ∷ frees taken (suc first) count) (frees taken (suc first) count)) ≤ suc (length (cond (not (s || t)) (numbered_name first ∷ frees (name ∷ taken) (suc first) count) (frees (name ∷ taken) (suc first) count)))
    by_tests true true s ih = ih
    by_tests true false s ih = let k = kept s in omega arith
    by_tests false true s ih = ih
    by_tests false false s ih = omega arith

-- so many names take no more names than they are
enough_left : (taken : List (List ℕ)) (first count : ℕ) → first + count < 2 ^ 64 → count ≤ length (frees taken first count) + length taken
enough_left [] first count le = all_left first count
  where
    all_left : (first count : ℕ) → count ≤ length (frees [] first count) + 0
    all_left first zero = omega arith
    all_left first (suc count) = let ih = all_left (suc first) count in omega arith
enough_left (name ∷ taken) first count le =
    let ih = enough_left taken first count le in
    let lost = one_lost name taken first count le in
    omega arith

pub enough_free : (taken : List (List ℕ)) (count : ℕ) → 1 + (count + length taken) < 2 ^ 64 → count ≤ length (free_names taken count)
enough_free taken count room = let e = enough_left taken 1 (count + length taken) room in omega arith

-- lists with the same names leave the same names free
same_frees : (held taken : List (List ℕ)) → ((name : List ℕ) → is_name_among name held ≡ is_name_among name taken) → (names : List (List ℕ)) → filter (λ name. not (is_name_among name held)) names ≡ filter (λ name. not (is_name_among name taken)) names
same_frees held taken same [] = refl
same_frees held taken same (n ∷ names) =
    ap (λ t. cond (not t) (n ∷ filter (λ name. not (is_name_among name held)) names) (filter (λ name. not (is_name_among name held)) names)) (same n)
    ∙ ap (λ ms. cond (not (is_name_among n taken)) (n ∷ ms) ms) (same_frees held taken same names)

pub first_frees : (none ins held inputs outputs : List (List ℕ)) (count : ℕ) → none ≡ [] → HoldsAlso none ins inputs → HoldsAlso ins held outputs → free_between held 1 (1 + (count + length (inputs ++ outputs))) ≡ free_names (inputs ++ outputs) count
first_frees none ins held inputs outputs count empty first second =
    let gap : 1 + (count + length (inputs ++ outputs)) - 1 ≡ count + length (inputs ++ outputs) = omega arith in
    ap (λ k. frees held 1 k) gap ∙ same_frees held (inputs ++ outputs) same (numbered_names 1 (count + length (inputs ++ outputs)))
  where
    same : (name : List ℕ) → is_name_among name held ≡ is_name_among name (inputs ++ outputs)
    same name =
        second name
        ∙ ap (λ b. b || is_name_among name outputs) (first name ∙ ap (λ ns. is_name_among name ns || is_name_among name inputs) empty)
        ∙ sym (among-append name inputs outputs)

-- a free name is below the last number
pub room_left : (taken : List (List ℕ)) (n last : ℕ) → 0 < length (free_between taken n last) → n < last
room_left taken n last lt = by_gap (last - n) refl
  where
    by_gap : (d : ℕ) → last - n ≡ d → n < last
    by_gap zero gap = let none : 0 < 0 = subst (λ k. 0 < length (frees taken n k)) gap lt in absurd (omega arith)
    by_gap (suc d) gap = omega arith

-- past a free name
pub past_free : (taken : List (List ℕ)) (n last : ℕ) → is_name_among (numbered_name n) taken ≡ false → 0 < length (free_between taken n last) → free_between taken n last ≡ numbered_name n ∷ free_between taken (n + 1) last
past_free taken n last free lt =
    let some = room_left taken n last lt in
    let gap : last - n ≡ suc (last - (n + 1)) = omega arith in
    ap (λ k. frees taken n k) gap
    ∙ ap (λ t. cond (not t) (numbered_name n ∷ frees taken (suc n) (last - (n + 1))) (frees taken (suc n) (last - (n + 1)))) free
    ∙ ap (λ m. numbered_name n ∷ frees taken m (last - (n + 1))) (sym (add-one n))

-- past a taken one
pub past_taken : (taken : List (List ℕ)) (n last : ℕ) → is_name_among (numbered_name n) taken ≡ true → free_between taken n last ≡ free_between taken (n + 1) last
past_taken taken n last held = by_gap (last - n) refl
  where
    by_gap : (d : ℕ) → last - n ≡ d → free_between taken n last ≡ free_between taken (n + 1) last
    by_gap zero gap =
        let other : last - (n + 1) ≡ 0 = omega arith in
        ap (λ k. frees taken n k) gap ∙ sym (ap (λ k. frees taken (n + 1) k) other)
    by_gap (suc d) gap =
        let other : last - (n + 1) ≡ d = omega arith in
        ap (λ k. frees taken n k) gap
        ∙ ap (λ t. cond (not t) (numbered_name n ∷ frees taken (suc n) d) (frees taken (suc n) d)) held
        ∙ ap (λ m. frees taken m d) (sym (add-one n))
        ∙ sym (ap (λ k. frees taken (n + 1) k) other)
