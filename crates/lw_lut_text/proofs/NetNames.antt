-- The names of the nets of a network of tables.
use Rattle.std.proofs.Common.{◌≡◌, ◌≢◌, ◌+◌, ◌<◌, inl, inr, ℕ, zero, suc, List, [], ◌∷◌, ◌++◌, length, Some, Contains, slice_get, if◌then◌else◌, sym, ap, ◌∙◌, arith, length-append}
use Rattle.std.proofs.lemmas.Bool.{cases_eq, eq-eqb, ne_eqb}
use Rattle.std.proofs.lemmas.List.{length-map}
use Rattle.std.proofs.lemmas.Option.{slice_get_within, same_Some}
use Rattle.lw_facts.proofs.Lists.{get_left}
use Rattle.lw_laws.proofs.Numbers.{slice_get_map}
use Rattle.lw_lut.specs.Nets.{PlainTableNet, IsTableNet, net_classes, table_classes}
use Rattle.lw_lut_text.specs.Meaning.{AreNamedApart, net_names}
use Rattle.lw_lut.specs.Texts.{name_at, net_name}
use Rattle.lw_lut.specs.declared.table.Table.{Table}
use Rattle.lw_lut.proofs.Numbers.{long}
use Rattle.lw_pool.specs.Numbers.{numbers}

-- the name of a class stands at a place of the class
pub name_place : (cs : List ℕ) (names : List (List ℕ)) (c : ℕ) → length cs ≡ length names → Contains cs c → (i : ℕ) × (slice_get cs i ≡ Some c) × (slice_get names i ≡ Some (name_at cs names c))
name_place [] names c e (k, lt, at) = absurd (omega (arith, lt))
name_place (d ∷ cs) [] c e among = absurd (omega (arith, e))
name_place (d ∷ cs) (name ∷ names) c e among = elim (cases_eq d c) [
  | inl same ↦ (zero, ap Some same, ap (λ b. Some (if b then name else name_at cs names c)) (sym (eq-eqb d c same)))
  | inr other ↦
      let (i, at, named) = name_place cs names c (omega (arith, e)) (later among other) in
      (suc i, at, named ∙ ap (λ b. Some (if b then name else name_at cs names c)) (sym (ne_eqb d c other)))
]
  where
    later : Contains (d ∷ cs) c → d ≢ c → Contains cs c
    later (zero, lt, at) ne = absurd (ne at)
    later (suc k, lt, at) ne = (k, omega arith, at)

pub left_entry_back : {X : Type 0} (xs ys : List X) (i : ℕ) (x : X) → i < length xs → slice_get (xs ++ ys) i ≡ Some x → slice_get xs i ≡ Some x
left_entry_back [] ys i x lt e = absurd (omega (arith, lt))
left_entry_back (z ∷ xs) ys zero x lt e = e
left_entry_back (z ∷ xs) ys (suc i) x lt e = left_entry_back xs ys i x (omega (arith, lt)) e

pub right_entry : {X : Type 0} (xs ys : List X) (i : ℕ) → slice_get (xs ++ ys) (length xs + i) ≡ slice_get ys i
right_entry [] ys i = let e : 0 + i ≡ i = omega arith in ap (slice_get ys) e
right_entry (z ∷ xs) ys i =
    let e : suc (length xs) + i ≡ suc (length xs + i) = omega arith in
    ap (slice_get (z ∷ (xs ++ ys))) e ∙ right_entry xs ys i

module _ (n : PlainTableNet) (apart : AreNamedApart n) where
  abbrev IsNet : ℕ → Type 0
  IsNet c = Contains (net_classes n) c

  pub one_name_each : length (net_classes n) ≡ length (net_names n)
  one_name_each =
      let a = length-append (numbers n.inputs) (table_classes n.tables) in
      let b = long n.inputs in
      let c = length-map n.tables (λ (t : Table). t.out.0) in
      let d = length-append n.ports.inputs n.names in
      let i = apart.one_input in
      let m = apart.one_name in
      omega (arith, a, b, c, d, i, m)

  pub net_place : (c : ℕ) → IsNet c → (i : ℕ) × (slice_get (net_classes n) i ≡ Some c) × (slice_get (net_names n) i ≡ Some (net_name n c))
  net_place c among = name_place (net_classes n) (net_names n) c one_name_each among

  -- the name at a place of a class is the class's
  pub net_named : IsTableNet n → (i c : ℕ) → slice_get (net_classes n) i ≡ Some c → slice_get (net_names n) i ≡ Some (net_name n c)
  net_named is i c at =
      let (j, bt, named) = net_place c (contained (net_classes n) i at) in
      let same : i ≡ j = is.once i j c at bt in
      ap (slice_get (net_names n)) same ∙ named
    where
      contained : (xs : List ℕ) (k : ℕ) → slice_get xs k ≡ Some c → Contains xs c
      contained [] k e = cc
      contained (x ∷ xs) zero e = (zero, omega arith, same_Some x c e)
      contained (x ∷ xs) (suc k) e = let (j, lt, f) = contained xs k e in (suc j, omega arith, f)

  pub input_named : IsTableNet n → (i c : ℕ) → slice_get (numbers n.inputs) i ≡ Some c → slice_get n.ports.inputs i ≡ Some (net_name n c)
  input_named is i c at =
      let lt = slice_get_within (numbers n.inputs) i c at in
      let l = long n.inputs in
      let m = apart.one_input in
      left_entry_back n.ports.inputs n.names i (net_name n c) (omega (arith, lt, l, m)) (net_named is i c (get_left (numbers n.inputs) (table_classes n.tables) i c at))

  pub table_named : IsTableNet n → (j : ℕ) (t : Table) → slice_get n.tables j ≡ Some t → slice_get n.names j ≡ Some (net_name n t.out.0)
  table_named is j t at =
      let l = long n.inputs in
      let m = apart.one_input in
      let same : length n.ports.inputs + j ≡ length (numbers n.inputs) + j = omega (arith, l, m) in
      sym (right_entry n.ports.inputs n.names j)
      ∙ (ap (slice_get (net_names n)) same
      ∙ net_named is (length (numbers n.inputs) + j) t.out.0 (right_entry (numbers n.inputs) (table_classes n.tables) j ∙ slice_get_map (λ (u : Table). u.out.0) n.tables j t at))
