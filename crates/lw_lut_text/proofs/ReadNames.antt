-- The names of the nets of a network of tables, by their classes.
use Rattle.std.proofs.Common.{ℕ, zero, suc, ◌≡◌, ◌==◌, if◌then◌else◌, Bool, true, false, cond, List, [], ◌∷◌, ◌++◌, length, map, drop, Contains, Option, Some, slice_get, refl, ap, sym, ◌∙◌, subst, arith}
use Rattle.std.specs.List.{AllByRecursion as Each, IsDistinct}
use Rattle.std.specs.Str.{bytes_eq}
use Rattle.std.proofs.Math.Seq.{drop-append_seam}
use Rattle.std.proofs.lemmas.Bool.Decides.{nat_tests}
use Rattle.std.proofs.lemmas.List.{map-append, length-map, length-append}
use Rattle.std.proofs.lemmas.Option.{slice_get_read}
use Rattle.std.proofs.lemmas.Slice.Eq.{bytes_eq-Decides}
use Rattle.std.proofs.lemmas.Bool.{or_parts}
use Rattle.lw_facts.proofs.Lists.{bytes_differ_turned, at_contained}
use Rattle.lw_pool.specs.declared.id.ClassId.{ClassId}
use Rattle.lw_frame.proofs.Once.{is_among}
use Rattle.lw_laws.specs.Names.{AreDifferent}
use Rattle.lw_laws.proofs.Lists.{all_append, all_contains, contains_all}
use Rattle.lw_lut.specs.Nets.{PlainTableNet, table_classes, net_classes}
use Rattle.lw_lut.specs.Texts.{name_at, net_name}
use Rattle.lw_lut.specs.declared.table.Table.{Table}
use Rattle.lw_pool.specs.Numbers.{numbers}

-- Names by class.

-- what holds of each name holds of that of each class
pub at_some : (P : List ℕ → Type 0) (classes : List ℕ) (names : List (List ℕ)) (c : ℕ) → length classes ≡ length names → Each P names → Contains classes c → P (name_at classes names c)
at_some P [] names c long each (k, lt, e) = absurd (omega arith)
at_some P (d ∷ classes) [] c long each k = absurd (omega arith)
at_some P (d ∷ classes) (name ∷ names) c long each (zero, lt, e) = subst (λ q. P (if q then name else name_at classes names c)) (sym same) each.0
  where
    same : (d == c) ≡ true
    same = grind (arith, nat_tests, e)
at_some P (d ∷ classes) (name ∷ names) c long each (suc k, lt, e) = by_test (d == c) (at_some P classes names c (omega arith) each.1 (k, omega arith, e))
  where
    by_test : (b : Bool) → P (name_at classes names c) → P (if b then name else name_at classes names c)
    by_test true others = each.0
    by_test false others = others

-- the classes differ
abbrev pub AreOnce : List ℕ → Type 0
AreOnce classes = (i j c : ℕ) → slice_get classes i ≡ Some c → slice_get classes j ≡ Some c → i ≡ j

once_behind : (d : ℕ) (classes : List ℕ) → AreOnce (d ∷ classes) → AreOnce classes
once_behind d classes once i j c e f = let same = once (suc i) (suc j) c e f in omega arith

once_apart : (d : ℕ) (classes : List ℕ) → AreOnce (d ∷ classes) → (i c : ℕ) → slice_get classes i ≡ Some c → (d == c) ≡ false
once_apart d classes once i c e = by_test (d == c) refl
  where
    by_test : (b : Bool) → (d == c) ≡ b → b ≡ false
    by_test true is =
        let same : d ≡ c = grind (arith, nat_tests) in
        let places = once 0 (suc i) c (ap Some same) e in
        absurd (omega arith)
    by_test false is = refl

-- the name at a place is that of the class there
pub name_there : (classes : List ℕ) (names : List (List ℕ)) (i c : ℕ) (name : List ℕ) → AreOnce classes → slice_get classes i ≡ Some c → slice_get names i ≡ Some name → name_at classes names c ≡ name
name_there [] names i c name once e f = cc
name_there (d ∷ classes) [] i c name once e f = cc
name_there (d ∷ classes) (x ∷ names) zero c name once e f =
    let is : d ≡ c = cc in
    let same : (d == c) ≡ true = grind (arith, nat_tests) in
    let own : x ≡ name = cc in
    ap (λ b. cond b x (name_at classes names c)) same ∙ own
name_there (d ∷ classes) (x ∷ names) (suc i) c name once e f =
    ap (λ b. cond b x (name_at classes names c)) (once_apart d classes once i c e)
    ∙ name_there classes names i c name (once_behind d classes once) e f

skip_first : (d : ℕ) (x : List ℕ) (classes : List ℕ) (names : List (List ℕ)) (others : List ℕ) → Each (λ c. (d == c) ≡ false) others → map (name_at (d ∷ classes) (x ∷ names)) others ≡ map (name_at classes names) others
skip_first d x classes names [] each = refl
skip_first d x classes names (c ∷ others) each =
    ap (λ b. cond b x (name_at classes names c) ∷ map (name_at (d ∷ classes) (x ∷ names)) others) each.0
    ∙ ap (λ l. name_at classes names c ∷ l) (skip_first d x classes names others each.1)

names_again : (classes : List ℕ) (names : List (List ℕ)) → AreOnce classes → length classes ≡ length names → map (name_at classes names) classes ≡ names
names_again [] [] once long = refl
names_again [] (x ∷ names) once long = absurd (omega arith)
names_again (d ∷ classes) [] once long = absurd (omega arith)
names_again (d ∷ classes) (x ∷ names) once long =
    let same : (d == d) ≡ true = grind (arith, nat_tests) in
    ap (λ b. cond b x (name_at classes names d) ∷ map (name_at (d ∷ classes) (x ∷ names)) classes) same
    ∙ ap (λ l. x ∷ l) (skip_first d x classes names classes others ∙ names_again classes names (once_behind d classes once) (omega arith))
  where
    others : Each (λ c. (d == c) ≡ false) classes
    others = contains_all (λ c. (d == c) ≡ false) classes apart
      where
        apart : (c : ℕ) → Contains classes c → (d == c) ≡ false
        apart c (k, lt, e) = once_apart d classes once k c (slice_get_read classes (length classes) k c refl lt (sym e))

-- The names of the nets.

fused : (f : ℕ → List ℕ) (tables : List Table) → map (λ (t : Table). f t.out.0) tables ≡ map f (table_classes tables)
fused f [] = refl
fused f (t ∷ tables) = ap (λ l. f t.out.0 ∷ l) (fused f tables)

pub one_each : (n : PlainTableNet) → length n.inputs ≡ length n.ports.inputs → length n.names ≡ length n.tables → length (net_classes n) ≡ length (n.ports.inputs ++ n.names)
one_each n inputs names =
    let a = length-append (numbers n.inputs) (table_classes n.tables) in
    let b = length-append n.ports.inputs n.names in
    let c = length-map n.inputs (λ (q : ClassId). q.0) in
    let d = length-map n.tables (λ (t : Table). t.out.0) in
    omega (arith, a, b, c, d, inputs, names)

-- the names of the tables' nets are those of the tables
pub tables_named : (n : PlainTableNet) → AreOnce (net_classes n) → length n.inputs ≡ length n.ports.inputs → length n.names ≡ length n.tables → map (λ (t : Table). net_name n t.out.0) n.tables ≡ n.names
tables_named n once inputs names =
    let f = net_name n in
    let own = map f (numbers n.inputs) in
    let others = map f (table_classes n.tables) in
    let whole : map f (net_classes n) ≡ n.ports.inputs ++ n.names = names_again (net_classes n) (n.ports.inputs ++ n.names) once (one_each n inputs names) in
    let count : length own ≡ length n.ports.inputs = length-map (numbers n.inputs) f ∙ (length-map n.inputs (λ (q : ClassId). q.0) ∙ inputs) in
    fused f n.tables
    ∙ (sym (drop-append_seam own others)
    ∙ (ap (drop (length own)) (sym (map-append f (numbers n.inputs) (table_classes n.tables)) ∙ whole)
    ∙ (ap (λ k. drop k (n.ports.inputs ++ n.names)) count ∙ drop-append_seam n.ports.inputs n.names)))

-- Names that differ.

first_once : (x : List ℕ) (names : List (List ℕ)) → Each (λ y. bytes_eq x y ≡ false) names → (j : ℕ) (name : List ℕ) → ◌≡◌ {A = Option (List ℕ)} (Some x) (Some name) → slice_get names j ≡ Some name → ⊥
first_once x names each j name e f =
    let other : bytes_eq x name ≡ false = all_contains (λ y. bytes_eq x y ≡ false) names name each (at_contained names j name f) in
    let is : x ≡ name = cc in
    let same : bytes_eq x name ≡ true = (bytes_eq-Decides x name).1 is in
    cc

-- names of which no two are one
pub different_of : (names : List (List ℕ)) → IsDistinct bytes_eq names → AreDifferent names
unfolding IsDistinct
different_of [] d i j name e f = cc
different_of (x ∷ names) d zero zero name e f = refl
different_of (x ∷ names) d zero (suc j) name e f = absurd (first_once x names d.0 j name e f)
different_of (x ∷ names) d (suc i) zero name e f = absurd (first_once x names d.0 i name f e)
different_of (x ∷ names) d (suc i) (suc j) name e f = ap suc (different_of names d.1 i j name e f)

pub distinct_append : (xs ys : List (List ℕ)) → IsDistinct bytes_eq xs → IsDistinct bytes_eq ys → Each (λ y. is_among xs y ≡ false) ys → IsDistinct bytes_eq (xs ++ ys)
unfolding IsDistinct
distinct_append [] ys dx dy apart = dy
distinct_append (x ∷ xs) ys dx dy apart =
    (all_append (λ y. bytes_eq x y ≡ false) xs ys dx.0 (first ys apart), distinct_append xs ys dx.1 dy (others ys apart))
  where
    first : (zs : List (List ℕ)) → Each (λ y. is_among (x ∷ xs) y ≡ false) zs → Each (λ y. bytes_eq x y ≡ false) zs
    first [] each = tt
    first (z ∷ zs) each = (bytes_differ_turned z x (or_parts (bytes_eq z x) (is_among xs z) each.0).0, first zs each.1)

    others : (zs : List (List ℕ)) → Each (λ y. is_among (x ∷ xs) y ≡ false) zs → Each (λ y. is_among xs y ≡ false) zs
    others [] each = tt
    others (z ∷ zs) each = ((or_parts (bytes_eq z x) (is_among xs z) each.0).1, others zs each.1)
