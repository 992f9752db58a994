-- The names of the nets of a mapped netlist differ.
use Rattle.std.proofs.Common.{ℕ, zero, suc, ◌+◌, ◌<◌, ◌≤◌, ◌==◌, ◌^◌, ◌≡◌, Bool, true, false, not, ◌||◌, if◌then◌else◌, cond, Option, Some, None, List, [], ◌∷◌, ◌++◌, length, filter, slice_get, refl, ap, sym, ◌∙◌, subst, arith}
use Rattle.std.specs.List.{AllByRecursion}
use Rattle.std.proofs.lemmas.Fmt.{decimal_injective}
use Rattle.std.proofs.lemmas.Bool.{eqb-true, not-true}
use Rattle.lw_laws.specs.Names.{same_name, is_name_among, numbered_name, numbered_names, free_names, output_name, gate_names, net_names, AreDifferent, AreNameable}
use Rattle.lw_laws.proofs.Facts.{same_name_eq, same_name_refl}

abbrev Name : Type 0
Name = List ℕ

-- the name is not in the list
abbrev IsOutside : Name → List Name → Type 0
IsOutside name names = is_name_among name names ≡ false

outside_not : (names : List Name) (name : Name) (i : ℕ) → IsOutside name names → slice_get names i ≡ Some name → ⊥
outside_not [] name i e at = cc
outside_not (n ∷ names) name zero e at = let s : n ≡ name = cc in let r = subst (λ z. same_name name z ≡ true) (sym s) (same_name_refl name) in by_test (same_name name n) r e
  where
    by_test : (t : Bool) → t ≡ true → (t || is_name_among name names) ≡ false → ⊥
    by_test true r e = cc
    by_test false r e = cc
outside_not (n ∷ names) name (suc i) e at = outside_not names name i (by_test (same_name name n) e) at
  where
    by_test : (t : Bool) → (t || is_name_among name names) ≡ false → is_name_among name names ≡ false
    by_test true e = cc
    by_test false e = e

-- the numbered names differ
named_number : (a b : ℕ) → a < 2 ^ 64 → b < 2 ^ 64 → numbered_name a ≡ numbered_name b → a ≡ b
named_number a b la lb e = decimal_injective a b la lb (tail_same (Rattle.std.specs.Fmt.decimal a) (Rattle.std.specs.Fmt.decimal b) e)
  where
    tail_same : (xs ys : List ℕ) → ◌≡◌ {A = List ℕ} (110 ∷ xs) (110 ∷ ys) → xs ≡ ys
    tail_same xs ys e = cc

numbered_outside : (a first count : ℕ) → a < first → first + count < 2 ^ 64 → IsOutside (numbered_name a) (numbered_names first count)
numbered_outside a first zero lt le = refl
numbered_outside a first (suc count) lt le = by_test (same_name (numbered_name a) (numbered_name first)) refl (numbered_outside a (suc first) count (omega arith) (omega arith))
  where
    by_test : (t : Bool) → same_name (numbered_name a) (numbered_name first) ≡ t → IsOutside (numbered_name a) (numbered_names (suc first) count) → (t || is_name_among (numbered_name a) (numbered_names (suc first) count)) ≡ false
    by_test true e ih = let s = named_number a first (omega arith) (omega arith) (same_name_eq (numbered_name a) (numbered_name first) e) in absurd (omega arith)
    by_test false e ih = ih

-- a list whose head is outside its tail, all along
abbrev AreApart : List Name → Type 0
AreApart [] = Unit {0}
AreApart (n ∷ names) = IsOutside n names × AreApart names

numbered_apart : (first count : ℕ) → first + count < 2 ^ 64 → AreApart (numbered_names first count)
numbered_apart first zero le = tt
numbered_apart first (suc count) le = (numbered_outside first (suc first) count (omega arith) (omega arith), numbered_apart (suc first) count (omega arith))

-- what is filtered stays apart, and is outside the names that are taken
filter_outside : (p : Name → Bool) (name : Name) (names : List Name) → IsOutside name names → IsOutside name (filter p names)
filter_outside p name [] e = e
filter_outside p name (n ∷ names) e = by_test (p n) (parts (same_name name n) e) (filter_outside p name names)
  where
    parts : (t : Bool) → (t || is_name_among name names) ≡ false → (t ≡ false) × (is_name_among name names ≡ false)
    parts true e = cc
    parts false e = (refl, e)

    by_test : (t : Bool) → (same_name name n ≡ false) × (is_name_among name names ≡ false) → (IsOutside name names → IsOutside name (filter p names)) → IsOutside name (cond t (n ∷ filter p names) (filter p names))
    by_test true (a, b) ih = rw a (ih b)
    by_test false (a, b) ih = ih b

filter_apart : (p : Name → Bool) (names : List Name) → AreApart names → AreApart (filter p names)
filter_apart p [] a = tt
filter_apart p (n ∷ names) (e, a) = by_test (p n) (filter_apart p names a)
  where
    by_test : (t : Bool) → AreApart (filter p names) → AreApart (cond t (n ∷ filter p names) (filter p names))
    by_test true ih = (filter_outside p n names e, ih)
    by_test false ih = ih

filter_passes : (p : Name → Bool) (names : List Name) → AllByRecursion (λ n. p n ≡ true) (filter p names)
filter_passes p [] = tt
filter_passes p (n ∷ names) = by_test (p n) refl (filter_passes p names)
  where
    by_test : (t : Bool) → p n ≡ t → AllByRecursion (λ n. p n ≡ true) (filter p names) → AllByRecursion (λ n. p n ≡ true) (cond t (n ∷ filter p names) (filter p names))
    by_test true e ih = (e, ih)
    by_test false e ih = ih

-- enough names are free
abbrev free : List Name → Name → Bool
free taken name = not (is_name_among name taken)

same_turned : (a b : Name) → same_name a b ≡ false → same_name b a ≡ false
same_turned a b e = by_test (same_name b a) refl
  where
    by_test : (t : Bool) → same_name b a ≡ t → t ≡ false
    by_test true s = let k = same_name_eq b a s in let r = same_name_refl a in let w = subst (λ z. same_name a z ≡ false) k e in cc
    by_test false s = refl

outside_parts : (t : Bool) (name : Name) (names : List Name) → (t || is_name_among name names) ≡ false → (t ≡ false) × IsOutside name names
outside_parts true name names e = cc
outside_parts false name names e = (refl, e)

none_lost : (y : Name) (ys xs : List Name) → IsOutside y xs → length (filter (free ys) xs) ≤ length (filter (free (y ∷ ys)) xs)
none_lost y ys [] e = omega arith
none_lost y ys (n ∷ xs) e =
    let (a, b) = outside_parts (same_name y n) y xs e in
    by_tests (same_name n y) (is_name_among n ys) (same_turned y n a) (none_lost y ys xs b)
  where
    by_tests : (s t : Bool) → s ≡ false → length (filter (free ys) xs) ≤ length (filter (free (y ∷ ys)) xs) → length (cond (not t) (n ∷ filter (free ys) xs) (filter (free ys) xs)) ≤ length (cond (not (s || t)) (n ∷ filter (free (y ∷ ys)) xs) (filter (free (y ∷ ys)) xs))
    by_tests true t s ih = cc
    by_tests false true s ih = ih
    by_tests false false s ih = omega arith

one_lost : (y : Name) (ys xs : List Name) → AreApart xs → length (filter (free ys) xs) ≤ suc (length (filter (free (y ∷ ys)) xs))
one_lost y ys [] a = omega arith
one_lost y ys (n ∷ xs) (e, a) = by_tests (same_name n y) (is_name_among n ys) refl (one_lost y ys xs a)
  where
    kept : same_name n y ≡ true → length (filter (free ys) xs) ≤ length (filter (free (y ∷ ys)) xs)
    kept s = none_lost y ys xs (subst (λ z. IsOutside z xs) (same_name_eq n y s) e)

    by_tests : (s t : Bool) → same_name n y ≡ s → length (filter (free ys) xs) ≤ suc (length (filter (free (y ∷ ys)) xs)) → length (cond (not t) (n ∷ filter (free ys) xs) (filter (free ys) xs)) ≤ suc (length (cond (not (s || t)) (n ∷ filter (free (y ∷ ys)) xs) (filter (free (y ∷ ys)) xs)))
    by_tests true true s ih = ih
    by_tests true false s ih = let k = kept s in omega arith
    by_tests false true s ih = ih
    by_tests false false s ih = omega arith

enough_left : (ys xs : List Name) → AreApart xs → length xs ≤ length (filter (free ys) xs) + length ys
enough_left [] xs a = all_left xs
  where
    all_left : (xs : List Name) → length xs ≤ length (filter (free []) xs) + 0
    all_left [] = omega arith
    all_left (x ∷ xs) = let ih = all_left xs in omega arith
enough_left (y ∷ ys) xs a = let ih = enough_left ys xs a in let l = one_lost y ys xs a in omega arith

numbered_length : (first count : ℕ) → length (numbered_names first count) ≡ count
numbered_length first zero = refl
numbered_length first (suc count) = ap suc (numbered_length (suc first) count)

module _ (taken : List Name) (count : ℕ) (room : 1 + (count + length taken) < 2 ^ 64) where
  abbrev frees : List Name
  frees = free_names taken count

  frees_apart : AreApart frees
  frees_apart = filter_apart (free taken) (numbered_names 1 (count + length taken)) (numbered_apart 1 (count + length taken) room)

  frees_enough : count ≤ length frees
  frees_enough =
      let e = enough_left taken (numbered_names 1 (count + length taken)) (numbered_apart 1 (count + length taken) room) in
      let n = numbered_length 1 (count + length taken) in
      omega arith

  frees_free : AllByRecursion (λ n. free taken n ≡ true) frees
  frees_free = filter_passes (free taken) (numbered_names 1 (count + length taken))

-- a name that is at no place is outside
outside_from : (name : Name) (names : List Name) → ((i : ℕ) → slice_get names i ≡ Some name → ⊥) → IsOutside name names
outside_from name [] f = refl
outside_from name (n ∷ names) f = by_test (same_name name n) refl (outside_from name names (λ i e. f (suc i) e))
  where
    by_test : (t : Bool) → same_name name n ≡ t → IsOutside name names → (t || is_name_among name names) ≡ false
    by_test true s ih = absurd (f 0 (ap Some (sym (same_name_eq name n s))))
    by_test false s ih = ih

different_apart : (names : List Name) → AreDifferent names → AreApart names
different_apart [] d = tt
different_apart (n ∷ names) d =
    (outside_from n names (λ i e. let s = d 0 (suc i) n refl e in omega arith), different_apart names (λ i j name a b. let s = d (suc i) (suc j) name a b in omega arith))

apart_different : (names : List Name) → AreApart names → AreDifferent names
apart_different [] a i j name e f = cc
apart_different (n ∷ names) (o, a) zero zero name e f = refl
apart_different (n ∷ names) (o, a) zero (suc j) name e f = let s : n ≡ name = cc in absurd (outside_not names name j (subst (λ z. IsOutside z names) s o) f)
apart_different (n ∷ names) (o, a) (suc i) zero name e f = let s : n ≡ name = cc in absurd (outside_not names name i (subst (λ z. IsOutside z names) s o) e)
apart_different (n ∷ names) (o, a) (suc i) (suc j) name e f = ap suc (apart_different names a i j name e f)

apart_append : (xs ys : List Name) → AreApart xs → AreApart ys → ((i : ℕ) (name : Name) → slice_get xs i ≡ Some name → IsOutside name ys) → AreApart (xs ++ ys)
apart_append [] ys a b f = b
apart_append (x ∷ xs) ys (o, a) b f =
    (outside_both x xs ys o (f 0 x refl), apart_append xs ys a b (λ i name e. f (suc i) name e))
  where
    outside_both : (x : Name) (xs ys : List Name) → IsOutside x xs → IsOutside x ys → IsOutside x (xs ++ ys)
    outside_both x [] ys a b = b
    outside_both x (z ∷ xs) ys a b = let (p, q) = outside_parts (same_name x z) x xs a in rw p (outside_both x xs ys q b)

outside_split : (name : Name) (xs ys : List Name) → IsOutside name (xs ++ ys) → IsOutside name xs × IsOutside name ys
outside_split name [] ys e = (refl, e)
outside_split name (x ∷ xs) ys e =
    let (a, b) = outside_parts (same_name name x) name (xs ++ ys) e in
    let (p, q) = outside_split name xs ys b in
    (rw a p, q)

free_outside : (taken : List Name) (name : Name) → free taken name ≡ true → IsOutside name taken
free_outside taken name e = not-true (is_name_among name taken) e

-- the output that names a class
named_at : (outputs : List Name) (roots : List ℕ) (c : ℕ) (name : Name) → output_name outputs roots c ≡ Some name → (k : ℕ) × (slice_get outputs k ≡ Some name) × (slice_get roots k ≡ Some c)
named_at [] [] c name e = cc
named_at [] (r ∷ roots) c name e = cc
named_at (n ∷ outputs) [] c name e = cc
named_at (n ∷ outputs) (r ∷ roots) c name e = by_test (r == c) refl e (named_at outputs roots c name)
  where
    by_test : (t : Bool) → (r == c) ≡ t → (if t then Some n else output_name outputs roots c) ≡ Some name → (output_name outputs roots c ≡ Some name → (k : ℕ) × (slice_get outputs k ≡ Some name) × (slice_get roots k ≡ Some c)) → (k : ℕ) × (slice_get (n ∷ outputs) k ≡ Some name) × (slice_get (r ∷ roots) k ≡ Some c)
    by_test true s e ih = (0, e, ap Some (eqb-true r c s))
    by_test false s e ih = let (k, a, b) = ih e in (suc k, a, b)

-- the name differs from those of the outputs at the classes
abbrev DiffersFrom : List Name → List ℕ → Name → List ℕ → Type 0
DiffersFrom outputs roots name gates =
    (i c : ℕ) (m : Name) → slice_get gates i ≡ Some c → output_name outputs roots c ≡ Some m → same_name name m ≡ false

module _ (outputs : List Name) (roots : List ℕ) where
  gates_outside : (name : Name) (frees : List Name) (gates : List ℕ) → length gates ≤ length frees → IsOutside name frees → DiffersFrom outputs roots name gates → IsOutside name (gate_names outputs roots frees gates)
  gates_outside name frees [] le o d = refl
  gates_outside name [] (c ∷ gates) le o d = absurd (omega arith)
  gates_outside name (f ∷ frees) (c ∷ gates) le o d =
      let (first, rest) = outside_parts (same_name name f) name frees o in
      by_name (output_name outputs roots c) refl first (gates_outside name (f ∷ frees) gates (omega arith) o (λ i e m at s. d (suc i) e m at s)) (gates_outside name frees gates (omega arith) rest (λ i e m at s. d (suc i) e m at s))
    where
      by_name : (n : Option Name) → output_name outputs roots c ≡ n → same_name name f ≡ false → IsOutside name (gate_names outputs roots (f ∷ frees) gates) → IsOutside name (gate_names outputs roots frees gates) → IsOutside name (elim n [ Some m ↦ m ∷ gate_names outputs roots (f ∷ frees) gates | None ↦ f ∷ gate_names outputs roots frees gates ])
      by_name None e first a b = rw first b
      by_name (Some m) e first a b = rw (d 0 c m refl e) a

  module _ (different : AreDifferent outputs) where
    -- outputs of two classes have two names
    other_name : (c e : ℕ) (m k : Name) → (c ≡ e → ⊥) → output_name outputs roots c ≡ Some m → output_name outputs roots e ≡ Some k → same_name m k ≡ false
    other_name c e m k apart a b = by_test (same_name m k) refl
      where
        by_test : (t : Bool) → same_name m k ≡ t → t ≡ false
        by_test false s = refl
        by_test true s =
            let same = same_name_eq m k s in
            let (i, at, root) = named_at outputs roots c m a in
            let (j, bt, other) = named_at outputs roots e k b in
            let place = different i j m at (bt ∙ ap Some (sym same)) in
            let one : Some c ≡ Some e = sym root ∙ (ap (slice_get roots) place ∙ other) in
            let two : c ≡ e = cc in
            absurd (apart two)

    gates_apart : (frees : List Name) (gates : List ℕ) → length gates ≤ length frees → AreApart frees → AllByRecursion (λ n. IsOutside n outputs) frees → ((i j c : ℕ) → slice_get gates i ≡ Some c → slice_get gates j ≡ Some c → i ≡ j) → AreApart (gate_names outputs roots frees gates)
    gates_apart frees [] le a o once = tt
    gates_apart [] (c ∷ gates) le a o once = absurd (omega arith)
    gates_apart (f ∷ frees) (c ∷ gates) le (first, a) (out, o) once =
        by_name (output_name outputs roots c) refl
        (gates_apart (f ∷ frees) gates (omega arith) (first, a) (out, o) later) (gates_apart frees gates (omega arith) a o later)
      where
        later : (i j e : ℕ) → slice_get gates i ≡ Some e → slice_get gates j ≡ Some e → i ≡ j
        later i j e p q = let s = once (suc i) (suc j) e p q in omega arith

        not_output : (name : Name) (k : ℕ) → slice_get outputs k ≡ Some name → (ns : List Name) → AllByRecursion (λ n. IsOutside n outputs) ns → IsOutside name ns
        not_output name k at ns b = outside_from name ns (λ i e. outside_not outputs name k (outside_at ns b i e) at)
          where
            outside_at : (ns : List Name) → AllByRecursion (λ n. IsOutside n outputs) ns → (i : ℕ) → slice_get ns i ≡ Some name → IsOutside name outputs
            outside_at [] b i e = cc
            outside_at (n ∷ ns) (p, b) zero e = let s : n ≡ name = cc in subst (λ z. IsOutside z outputs) s p
            outside_at (n ∷ ns) (p, b) (suc i) e = outside_at ns b i e

        by_name : (n : Option Name) → output_name outputs roots c ≡ n → AreApart (gate_names outputs roots (f ∷ frees) gates) → AreApart (gate_names outputs roots frees gates) → AreApart (elim n [ Some m ↦ m ∷ gate_names outputs roots (f ∷ frees) gates | None ↦ f ∷ gate_names outputs roots frees gates ])
        by_name None e p q =
            (gates_outside f frees gates (omega arith) first (λ i d m at s. let (k, bt, root) = named_at outputs roots d m s in differs m k bt), q)
          where
            differs : (m : Name) (k : ℕ) → slice_get outputs k ≡ Some m → same_name f m ≡ false
            differs m k bt = by_test (same_name f m) refl
              where
                by_test : (t : Bool) → same_name f m ≡ t → t ≡ false
                by_test false s = refl
                by_test true s = let same = same_name_eq f m s in absurd (outside_not outputs f k out (bt ∙ ap Some (sym same)))
        by_name (Some m) e p q =
            let (k, bt, root) = named_at outputs roots c m e in
            (gates_outside m (f ∷ frees) gates (omega arith) (not_output m k bt (f ∷ frees) (out, o)) (λ i d z at s. other_name c d m z (λ same. let x = once 0 (suc i) c refl (at ∙ ap Some (sym same)) in omega arith) e s), p)

-- names that are free beside inputs and outputs are no outputs' names
outside_outputs : (inputs outputs ns : List Name) → AllByRecursion (λ n. free (inputs ++ outputs) n ≡ true) ns → AllByRecursion (λ n. IsOutside n outputs) ns
outside_outputs inputs outputs [] a = tt
outside_outputs inputs outputs (n ∷ ns) (e, a) = ((outside_split n inputs outputs (free_outside (inputs ++ outputs) n e)).1, outside_outputs inputs outputs ns a)

-- the names of the nets differ
pub names_differ : (inputs outputs : List Name) (leaves roots gates : List ℕ) → AreNameable inputs outputs leaves roots gates → AreDifferent (net_names inputs outputs roots gates)
names_differ inputs outputs leaves roots gates are =
    let taken = inputs ++ outputs in
    let fs = free_names taken (length gates) in
    let enough = frees_enough taken (length gates) are.few in
    apart_different (inputs ++ gate_names outputs roots fs gates) (apart_append inputs (gate_names outputs roots fs gates) (different_apart inputs are.inputs_differ)
    (gates_apart outputs roots are.outputs_differ fs gates enough (frees_apart taken (length gates) are.few) (outside_outputs inputs outputs fs (frees_free taken (length gates) are.few)) are.once)
    (λ i name at. gates_outside outputs roots name fs gates enough (outside_from name fs (λ j e. outside_not inputs name i (left_outside fs (frees_free taken (length gates) are.few) j name e) at)) (λ j c m here named. differs i name at j c m here named)))
  where
    left_outside : (ns : List Name) → AllByRecursion (λ n. free (inputs ++ outputs) n ≡ true) ns → (j : ℕ) (name : Name) → slice_get ns j ≡ Some name → IsOutside name inputs
    left_outside [] a j name e = cc
    left_outside (n ∷ ns) (f, a) zero name e = let s : n ≡ name = cc in subst (λ z. IsOutside z inputs) s (outside_split n inputs outputs (free_outside (inputs ++ outputs) n f)).0
    left_outside (n ∷ ns) (f, a) (suc j) name e = left_outside ns a j name e

    differs : (i : ℕ) (name : Name) → slice_get inputs i ≡ Some name → (j c : ℕ) (m : Name) → slice_get gates j ≡ Some c → output_name outputs roots c ≡ Some m → same_name name m ≡ false
    differs i name at j c m here named = by_test (same_name name m) refl
      where
        by_test : (t : Bool) → same_name name m ≡ t → t ≡ false
        by_test false s = refl
        by_test true s =
            let same = same_name_eq name m s in
            let (k, bt, root) = named_at outputs roots c m named in
            let leaf = are.tied i k name at (bt ∙ ap Some (sym same)) in
            absurd (are.no_leaf j i c here (sym leaf ∙ root))

-- a gate with an output's name is at the output's class
gate_owned : (outputs : List Name) (roots : List ℕ) (different : AreDifferent outputs) (frees : List Name) (gates : List ℕ) → length gates ≤ length frees → AllByRecursion (λ n. IsOutside n outputs) frees → (j k : ℕ) (name : Name) → slice_get (gate_names outputs roots frees gates) j ≡ Some name → slice_get outputs k ≡ Some name → slice_get gates j ≡ slice_get roots k
gate_owned outputs roots different frees [] le o j k name e at = cc
gate_owned outputs roots different [] (c ∷ gates) le o j k name e at = absurd (omega arith)
gate_owned outputs roots different (f ∷ frees) (c ∷ gates) le (out, o) j k name e at =
    by_name (output_name outputs roots c) refl j e (λ i d. gate_owned outputs roots different (f ∷ frees) gates (omega arith) (out, o) i k name d at) (λ i d. gate_owned outputs roots different frees gates (omega arith) o i k name d at)
  where
    by_name : (n : Option Name) → output_name outputs roots c ≡ n → (j : ℕ) → slice_get (elim n [ Some m ↦ m ∷ gate_names outputs roots (f ∷ frees) gates | None ↦ f ∷ gate_names outputs roots frees gates ]) j ≡ Some name → ((i : ℕ) → slice_get (gate_names outputs roots (f ∷ frees) gates) i ≡ Some name → slice_get gates i ≡ slice_get roots k) → ((i : ℕ) → slice_get (gate_names outputs roots frees gates) i ≡ Some name → slice_get gates i ≡ slice_get roots k) → slice_get (c ∷ gates) j ≡ slice_get roots k
    by_name None s zero d p q = let same : f ≡ name = cc in absurd (outside_not outputs f k out (at ∙ ap Some (sym same)))
    by_name None s (suc i) d p q = q i d
    by_name (Some m) s zero d p q =
        let same : m ≡ name = cc in
        let (i, bt, root) = named_at outputs roots c m s in
        let place = different i k name (bt ∙ ap Some same) at in
        sym root ∙ ap (slice_get roots) place
    by_name (Some m) s (suc i) d p q = p i d

-- a net with an output's name is at the output's class
pub names_owned : (inputs outputs : List Name) (leaves roots gates : List ℕ) → AreNameable inputs outputs leaves roots gates → length leaves ≡ length inputs → (j k : ℕ) (name : Name) → slice_get (net_names inputs outputs roots gates) j ≡ Some name → slice_get outputs k ≡ Some name → slice_get (leaves ++ gates) j ≡ slice_get roots k
names_owned inputs outputs leaves roots gates are long j k name e at =
    let taken = inputs ++ outputs in
    let fs = free_names taken (length gates) in
    by_side inputs leaves (gate_names outputs roots fs gates) (λ i d. sym (are.tied i k name d at)) (λ i d. gate_owned outputs roots are.outputs_differ fs gates (frees_enough taken (length gates) are.few) (outside_outputs inputs outputs fs (frees_free taken (length gates) are.few)) i k name d at) j (omega arith) e
  where
    by_side : (xs : List Name) (ls : List ℕ) (ys : List Name) → ((i : ℕ) → slice_get xs i ≡ Some name → slice_get ls i ≡ slice_get roots k) → ((i : ℕ) → slice_get ys i ≡ Some name → slice_get gates i ≡ slice_get roots k) → (j : ℕ) → length ls ≡ length xs → slice_get (xs ++ ys) j ≡ Some name → slice_get (ls ++ gates) j ≡ slice_get roots k
    by_side [] [] ys p q j len e = q j e
    by_side [] (l ∷ ls) ys p q j len e = absurd (omega arith)
    by_side (x ∷ xs) [] ys p q j len e = absurd (omega arith)
    by_side (x ∷ xs) (l ∷ ls) ys p q zero len e = p 0 e
    by_side (x ∷ xs) (l ∷ ls) ys p q (suc j) len e = by_side xs ls ys (λ i d. p (suc i) d) q j (omega arith) e
