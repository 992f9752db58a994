-- The names of the gates, one after another.
use Rattle.std.proofs.Common.{ℕ, suc, ◌+◌, ◌<◌, ◌≤◌, ◌==◌, ◌≡◌, Bool, true, false, if◌then◌else◌, cond, All, MatchOption, Option, Some, None, List, [], ◌∷◌, ◌++◌, length, drop, get_or, slice_get, refl, ap, sym, ◌∙◌, subst, arith, append_assoc}
use Rattle.std.proofs.Math.Decide.{dec_lt}
use Rattle.std.proofs.lemmas.Bool.{eqb-true}
use Rattle.std.proofs.lemmas.List.{get_or_past, length-map}
use Rattle.std.proofs.lemmas.List.Elements.{All-head, All-tail}
use Rattle.std.specs.List.{position_from}
use Rattle.lw_pool.specs.declared.id.ClassId.{ClassId}
use Rattle.lw_laws.specs.Names.{output_name, gate_names}
use Rattle.lw_naming.specs.declared.free_names.FreeNames.{FreeNames}
use Rattle.lw_naming.specs.Naming.{still_free, AreFirstPlaces, IsGivenOrFree}
use Rattle.lw_pool.specs.Numbers.{numbers}

abbrev Name : Type 0
Name = List ℕ

-- the name is that of the output at a place, where the places are counted from the first
abbrev IsNamedBy : List Name → ℕ → Option Name → Option ℕ → Type 0
IsNamedBy outputs first name o =
    MatchOption o (name ≡ None) (λ k. (j : ℕ) × (k ≡ first + j) × (j < length outputs) × (name ≡ slice_get outputs j))

-- the output at the first place of a class names the class
abbrev NamesBy : List Name → List ClassId → ℕ → ℕ → Option ℕ → Type 0
NamesBy outputs roots c first o = IsNamedBy outputs first (output_name outputs (numbers roots) c) o

names_by : (outputs : List Name) (roots : List ClassId) (c first : ℕ) → length roots ≡ length outputs → NamesBy outputs roots c first (position_from (λ (root : ClassId). root.0 == c) first roots)
names_by [] [] c first long = refl
names_by [] (r ∷ roots) c first long = absurd (omega arith)
names_by (n ∷ outputs) [] c first long = absurd (omega arith)
names_by (n ∷ outputs) (r ∷ roots) c first long = by_test (r.0 == c) (later (position_from (λ (root : ClassId). root.0 == c) (first + 1) roots) (names_by outputs roots c (first + 1) (omega arith)))
  where
    later : (o : Option ℕ) → NamesBy outputs roots c (first + 1) o → IsNamedBy (n ∷ outputs) first (output_name outputs (numbers roots) c) o
    later None e = e
    later (Some k) (j, e, lt, f) = (suc j, omega arith, omega arith, f)

    by_test : (t : Bool) → IsNamedBy (n ∷ outputs) first (output_name outputs (numbers roots) c) (position_from (λ (root : ClassId). root.0 == c) (first + 1) roots) → IsNamedBy (n ∷ outputs) first (if t then Some n else output_name outputs (numbers roots) c) (cond t (Some first) (position_from (λ (root : ClassId). root.0 == c) (first + 1) roots))
    by_test true after = (0, omega arith, omega arith, refl)
    by_test false after = after

-- past the classes of the roots no class has a place
nowhere : (roots : List ClassId) (c first n : ℕ) → All (λ (root : ClassId). root.0 < n) roots → n ≤ c → position_from (λ (root : ClassId). root.0 == c) first roots ≡ None
nowhere [] c first n all high = refl
nowhere (r ∷ roots) c first n all high =
    let below : r.0 < n = All-head (λ (root : ClassId). root.0 < n) r roots all in
    by_test (r.0 == c) (λ e. omega (arith, below, high, eqb-true r.0 c e)) (nowhere roots c (first + 1) n (All-tail (λ (root : ClassId). root.0 < n) r roots all) high)
  where
    by_test : (t : Bool) → (t ≡ true → ⊥) → position_from (λ (root : ClassId). root.0 == c) (first + 1) roots ≡ None → cond t (Some first) (position_from (λ (root : ClassId). root.0 == c) (first + 1) roots) ≡ None
    by_test true apart after = absurd (apart refl)
    by_test false apart after = after

-- the first places of all classes, by those of the classes of the roots
pub all_places : (firsts : List (Option ℕ)) (roots : List ClassId) (n : ℕ) → length firsts ≡ n → All (λ (root : ClassId). root.0 < n) roots → ((c : ℕ) → c < n → get_or firsts c None ≡ position_from (λ (root : ClassId). root.0 == c) 0 roots) → AreFirstPlaces firsts roots
all_places firsts roots n one_each all are c = by_order (dec_lt c n)
  where
    by_order : Dec (c < n) → get_or firsts c None ≡ position_from (λ (root : ClassId). root.0 == c) 0 roots
    by_order (yes below) = are c below
    by_order (no past) =
        let high : n ≤ c = omega (arith, past) in
        get_or_past firsts c None (omega (arith, high, one_each)) ∙ sym (nowhere roots c 0 n all high)

module _ (firsts : List (Option ℕ)) (outputs : List Name) (roots : List ClassId) (are : AreFirstPlaces firsts roots) (long : length roots ≡ length outputs) (c : ℕ) (read : Option ℕ) (at : read ≡ get_or firsts c None) where
  by_read : NamesBy outputs roots c 0 read
  by_read = subst (NamesBy outputs roots c 0) (sym (at ∙ are c)) (names_by outputs roots c 0 long)

  pub no_owner : read ≡ None → output_name outputs (numbers roots) c ≡ None
  no_owner e = subst (NamesBy outputs roots c 0) e by_read

  pub an_owner : (k : ℕ) → read ≡ Some k → (k < length outputs) × (output_name outputs (numbers roots) c ≡ slice_get outputs k)
  an_owner k e =
      let (j, is, lt, named) = subst (NamesBy outputs roots c 0) e by_read in
      let same : j ≡ k = omega arith in
      (omega arith, named ∙ ap (slice_get outputs) same)

module _ (outputs : List Name) (roots : List ClassId) where
  -- names, and those of the gates that are still to be named
  abbrev pub named : List Name → FreeNames → ℕ → List ClassId → List Name
  named names free last gates = names ++ gate_names outputs (numbers roots) (still_free free last) (numbers gates)

  -- one more name
  next_named : (frees after : List Name) (c : ℕ) (rest : List ℕ) (name : Name) → suc (length rest) ≤ length frees → MatchOption (output_name outputs (numbers roots) c) (frees ≡ name ∷ after) (λ given. (name ≡ given) × (after ≡ frees)) → (length rest ≤ length after) × (gate_names outputs (numbers roots) frees (c ∷ rest) ≡ name ∷ gate_names outputs (numbers roots) after rest)
  next_named frees after c rest name room is = by_name (output_name outputs (numbers roots) c) is
    where
      by_name : (given : Option Name) → MatchOption given (frees ≡ name ∷ after) (λ other. (name ≡ other) × (after ≡ frees)) → (length rest ≤ length after) × ((elim given [ Some other ↦ other ∷ gate_names outputs (numbers roots) frees rest | None ↦ get_or frees 0 [] ∷ gate_names outputs (numbers roots) (drop 1 frees) rest ]) ≡ name ∷ gate_names outputs (numbers roots) after rest)
      by_name None e =
          let long : length frees ≡ suc (length after) = ap length e in
          (omega arith, ap (λ fs. get_or fs 0 [] ∷ gate_names outputs (numbers roots) (drop 1 fs) rest) e)
      by_name (Some other) (e, f) =
          let long : length after ≡ length frees = ap length f in
          (omega arith, ap (λ n. n ∷ gate_names outputs (numbers roots) frees rest) (sym e) ∙ ap (λ fs. name ∷ gate_names outputs (numbers roots) fs rest) (sym f))

  -- one more gate has its name
  pub gate_named : (names : List Name) (old new : FreeNames) (gate : ClassId) (rest : List ClassId) (name : Name) → IsGivenOrFree (output_name outputs (numbers roots) gate.0) old name new → (last : ℕ) → suc (length rest) ≤ length (still_free old last) → (length rest ≤ length (still_free new last)) × (named (names ++ name ∷ []) new last rest ≡ named names old last (gate ∷ rest))
  gate_named names old new gate rest name is last room =
      let long : length (numbers rest) ≡ length rest = length-map rest (λ (c : ClassId). c.0) in
      let (left, next) = next_named (still_free old last) (still_free new last) gate.0 (numbers rest) name (omega arith) (at_last (output_name outputs (numbers roots) gate.0) is) in
      (omega arith, append_assoc names (name ∷ []) _ ∙ ap (λ ns. names ++ ns) (sym next))
    where
      at_last : (given : Option Name) → IsGivenOrFree given old name new → MatchOption given (still_free old last ≡ name ∷ still_free new last) (λ other. (name ≡ other) × (still_free new last ≡ still_free old last))
      at_last None f = f last (omega arith)
      at_last (Some other) (e, f) = (e, ap (λ s. still_free s last) f)
