-- The names of nets, at their places.
use Rattle.std.proofs.Common.{ℕ, zero, suc, ◌+◌, ◌-◌, ◌<◌, ◌≤◌, ◌≡◌, ◌==◌, true, false, List, [], ◌∷◌, ◌++◌, length, get_or, Contains, Some, slice_get, set, refl, ap, sym, ◌∙◌, subst, arith, length-append}
use Rattle.std.proofs.lemmas.List.{length-map}
use Rattle.std.proofs.lemmas.Option.{none-some, same_Some, slice_get_within, slice_get-get_or, get_or_from_slice_get}
use Rattle.lw_facts.proofs.Lists.{get_left, contained_at}
use native.Mathlib.Decide.{dec_lt}
use Rattle.indexmap.proofs.IndexTableLemmas.Probe.{pigeonhole}
use Rattle.lw_laws.proofs.Numbers.{slice_get_map}
use Rattle.lw_pool.specs.declared.id.ClassId.{ClassId}
use Rattle.lw_lut.specs.Nets.{PlainTableNet, net_classes, table_classes}
use Rattle.lw_lut.specs.Placed.{IsPlaced}
use Rattle.lw_lut.specs.Texts.{name_at, net_name}
use Rattle.lw_lut.specs.declared.table.Table.{Table}
use Rattle.lw_pool.specs.Numbers.{numbers}

abbrev pub IsOnce : List ℕ → Type 0
IsOnce classes = (i j c : ℕ) → slice_get classes i ≡ Some c → slice_get classes j ≡ Some c → i ≡ j

once_rest : (d : ℕ) (classes : List ℕ) → IsOnce (d ∷ classes) → IsOnce classes
once_rest d classes once i j c e f = let s = once (suc i) (suc j) c e f in omega (arith, s)

-- the name at the place of a class is the class's
pub name_here : (classes : List ℕ) (names : List (List ℕ)) (i c : ℕ) (name : List ℕ) → IsOnce classes → slice_get classes i ≡ Some c → slice_get names i ≡ Some name → name_at classes names c ≡ name
name_here [] names i c name once e f = absurd (none-some c e)
name_here (d ∷ classes) [] i c name once e f = absurd (none-some name f)
name_here (d ∷ classes) (first ∷ names) zero c name once e f =
    let same : d ≡ c = same_Some d c e in
    let here : (d == c) ≡ true = grind arith in
    rw here (same_Some first name f)
name_here (d ∷ classes) (first ∷ names) (suc i) c name once e f =
    let other : d ≡ c → ⊥ = λ s. let z = once zero (suc i) c (ap (λ n. Some n) s) e in omega (arith, z) in
    let there : (d == c) ≡ false = grind arith in
    rw there (name_here classes names i c name (once_rest d classes once) e f)

pub at_second : {X : Type 0} (xs ys : List X) (i : ℕ) (x : X) → length xs ≤ i → slice_get ys (i - length xs) ≡ Some x → slice_get (xs ++ ys) i ≡ Some x
at_second [] ys i x le e = let same : i - 0 ≡ i = omega arith in subst (λ k. slice_get ys k ≡ Some x) same e
at_second (y ∷ xs) ys zero x le e = absurd (omega (arith, le))
at_second (y ∷ xs) ys (suc i) x le e =
    let same : suc i - suc (length xs) ≡ i - length xs = omega arith in
    at_second xs ys i x (omega (arith, le)) (subst (λ k. slice_get ys k ≡ Some x) same e)

-- so many nets
pub net_count : (n : PlainTableNet) (places : List ℕ) → IsPlaced n places → length (net_classes n) ≡ length n.ports.inputs + length n.names
net_count n places is =
    let whole = length-append (numbers n.inputs) (table_classes n.tables) in
    let inputs = length-map n.inputs (λ (c : ClassId). c.0) in
    let tables = length-map n.tables (λ (t : Table). t.out.0) in
    let one = is.inputs in
    let two = is.names in
    omega (arith, whole, inputs, tables, one, two)

module _ (n : PlainTableNet) (places : List ℕ) (is : IsPlaced n places) (c : ℕ) (has : Contains (net_classes n) c) where
  place : (i : ℕ) × (slice_get (net_classes n) i ≡ Some c) × (slice_get places c ≡ Some i)
  place = let (i, at) = contained_at (net_classes n) c has in (i, at, is.placed i c at)

  pub place_within : c < length places
  place_within = let (i, at, e) = place in slice_get_within places c i e

  module _ (p : ℕ) (read : p ≡ get_or places c p) where
    class_at : slice_get (net_classes n) p ≡ Some c
    class_at = let (i, at, e) = place in subst (λ k. slice_get (net_classes n) k ≡ Some c) (sym (read ∙ get_or_from_slice_get places c i p e)) at

    pub net_within : p < length n.ports.inputs + length n.names
    net_within = let count = net_count n places is in let lt = slice_get_within (net_classes n) p c class_at in omega (arith, count, lt)

    pub input_named : (name : List ℕ) → p < length n.ports.inputs → name ≡ get_or n.ports.inputs p name → name ≡ net_name n c
    input_named name lt e =
        sym (name_here (net_classes n) (n.ports.inputs ++ n.names) p c name is.kept.once class_at (get_left n.ports.inputs n.names p name (slice_get-get_or n.ports.inputs p name lt ∙ ap (λ x. Some x) (sym e))))

    pub table_named : (name : List ℕ) → length n.ports.inputs ≤ p → name ≡ get_or n.names (p - length n.ports.inputs) name → name ≡ net_name n c
    table_named name le e =
        let lt : p - length n.ports.inputs < length n.names = let w = net_within in omega (arith, w, le) in
        sym (name_here (net_classes n) (n.ports.inputs ++ n.names) p c name is.kept.once class_at (at_second n.ports.inputs n.names p name le (slice_get-get_or n.names (p - length n.ports.inputs) name lt ∙ ap (λ x. Some x) (sym e))))

-- Places, one more at a time.

-- the first so many classes have their places
abbrev pub HasPlacesTo : List ℕ → List ℕ → ℕ → Type 0
HasPlacesTo classes places k = (i c : ℕ) → i < k → slice_get classes i ≡ Some c → slice_get places c ≡ Some i

set_here : (xs : List ℕ) (k x : ℕ) → k < length xs → slice_get (set xs k x) k ≡ Some x
set_here (y ∷ xs) zero x lt = refl
set_here (y ∷ xs) (suc k) x lt = set_here xs k x (omega (arith, lt))
set_here [] k x lt = absurd (omega (arith, lt))

set_there : (xs : List ℕ) (k j x : ℕ) → (j ≡ k → ⊥) → slice_get (set xs k x) j ≡ slice_get xs j
set_there [] k j x ne = refl
set_there (y ∷ xs) zero zero x ne = absurd (ne refl)
set_there (y ∷ xs) zero (suc j) x ne = refl
set_there (y ∷ xs) (suc k) zero x ne = refl
set_there (y ∷ xs) (suc k) (suc j) x ne = set_there xs k j x (λ e. ne (ap suc e))

pub placed_more : (classes places : List ℕ) (k c : ℕ) → IsOnce classes → slice_get classes k ≡ Some c → c < length places → HasPlacesTo classes places k → HasPlacesTo classes (set places c k) (k + 1)
placed_more classes places k c once at lt are i d below here = by_case (dec_lt i k)
  where
    by_case : Dec (i < k) → slice_get (set places c k) d ≡ Some i
    by_case (yes before) = set_there places c d k (λ e. let same = once i k c (subst (λ x. slice_get classes i ≡ Some x) e here) at in omega (arith, same, before)) ∙ are i d before here
    by_case (no after) =
        let last : i ≡ k = omega (arith, below, after) in
        let same : c ≡ d = same_Some c d (sym at ∙ subst (λ j. slice_get classes j ≡ Some d) last here) in
        subst (λ x. slice_get (set places c k) x ≡ Some i) same (set_here places c k lt ∙ ap (λ j. Some j) (sym last))

-- the class of an input, and of a table
pub input_at : (inputs : List ClassId) (tables : List Table) (k : ℕ) (d : ClassId) → k < length inputs → slice_get (numbers inputs ++ table_classes tables) k ≡ Some (get_or inputs k d).0
input_at inputs tables k d lt = get_left (numbers inputs) (table_classes tables) k (get_or inputs k d).0 (slice_get_map (λ (c : ClassId). c.0) inputs k (get_or inputs k d) (slice_get-get_or inputs k d lt))

pub table_at : (inputs : List ClassId) (tables : List Table) (k : ℕ) (t : Table) → k < length tables → slice_get (numbers inputs ++ table_classes tables) (length inputs + k) ≡ Some (get_or tables k t).out.0
table_at inputs tables k t lt =
    let long : length (numbers inputs) ≡ length inputs = length-map inputs (λ (c : ClassId). c.0) in
    let same : k ≡ length inputs + k - length (numbers inputs) = omega (arith, long) in
    at_second (numbers inputs) (table_classes tables) (length inputs + k) (get_or tables k t).out.0 (omega (arith, long)) (subst (λ j. slice_get (table_classes tables) j ≡ Some (get_or tables k t).out.0) same (slice_get_map (λ (u : Table). u.out.0) tables k (get_or tables k t) (slice_get-get_or tables k t lt)))

-- so many classes
pub class_count : (inputs : List ClassId) (tables : List Table) → length (numbers inputs ++ table_classes tables) ≡ length inputs + length tables
class_count inputs tables =
    let whole = length-append (numbers inputs) (table_classes tables) in
    let ins = length-map inputs (λ (c : ClassId). c.0) in
    let outs = length-map tables (λ (t : Table). t.out.0) in
    omega (arith, whole, ins, outs)

-- classes below a number that differ are no more than that
pub few_classes : (classes : List ℕ) (m : ℕ) → IsOnce classes → ((i c : ℕ) → slice_get classes i ≡ Some c → c < m) → length classes ≤ m
few_classes classes m once below =
    pigeonhole (length classes) m (λ i. get_or classes i 0) (λ i lt. below i (get_or classes i 0) (slice_get-get_or classes i 0 lt)) (λ i j lt le e. once i j (get_or classes i 0) (slice_get-get_or classes i 0 lt) (slice_get-get_or classes j 0 le ∙ ap (λ c. Some c) (sym e)))
