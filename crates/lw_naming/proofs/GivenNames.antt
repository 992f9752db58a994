-- What holds of the names of inputs and outputs, and of n1, n2 and so on, holds of all names that gates and nets get.
use Rattle.std.proofs.Common.{ℕ, zero, suc, ◌+◌, ◌^◌, ◌<◌, ◌≤◌, ◌≡◌, ◌==◌, ◌⊎◌, inl, inr, Bool, true, false, not, if◌then◌else◌, Contains, List, [], ◌∷◌, ◌++◌, length, Option, Some, None, refl, subst, arith}
use Rattle.std.specs.List.{AllByRecursion as Each}
use Rattle.std.proofs.lemmas.List.Elements.{All-filter, All-from_recursion, recursion_from_All}
use Rattle.lw_laws.specs.Names.{is_name_among, numbered_name, numbered_names, free_names, output_name, gate_names, net_names}
use Rattle.lw_laws.proofs.Lists.{all_append, all_contains, contains_all}
use Rattle.lw_naming.proofs.FreeNames.{enough_free}

module _ (P : List ℕ → Type 0) (own : (k : ℕ) → k < 2 ^ 64 → P (numbered_name k)) where
  numbered_each : (first count : ℕ) → first + count < 2 ^ 64 → Each P (numbered_names first count)
  numbered_each first zero lt = tt
  numbered_each first (suc count) lt = (own first (omega arith), numbered_each (suc first) count (omega arith))

  free_each : (taken : List (List ℕ)) (count : ℕ) → 1 + (count + length taken) < 2 ^ 64 → Each P (free_names taken count)
  free_each taken count room =
      let names = numbered_names 1 (count + length taken) in
      recursion_from_All P (free_names taken count) (All-filter (λ name. not (is_name_among name taken)) P names (All-from_recursion P names (numbered_each 1 (count + length taken) room)))

  -- the name of an output at a class
  output_one : (outputs : List (List ℕ)) (roots : List ℕ) (c : ℕ) (name : List ℕ) → Each P outputs → output_name outputs roots c ≡ Some name → P name
  output_one [] [] c name all e = cc
  output_one [] (r ∷ roots) c name all e = cc
  output_one (n ∷ outputs) [] c name all e = cc
  output_one (n ∷ outputs) (r ∷ roots) c name all e = by_test (r == c) e (output_one outputs roots c name all.1)
    where
      by_test : (t : Bool) → (if t then Some n else output_name outputs roots c) ≡ Some name → (output_name outputs roots c ≡ Some name → P name) → P name
      by_test true f others = let same : n ≡ name = cc in subst P same all.0
      by_test false f others = others f

  gates_each : (outputs : List (List ℕ)) (roots : List ℕ) (frees : List (List ℕ)) (gates : List ℕ) → Each P outputs → length gates ≤ length frees → Each P frees → Each P (gate_names outputs roots frees gates)
  gates_each outputs roots frees [] named le all = tt
  gates_each outputs roots [] (c ∷ gates) named le all = absurd (omega arith)
  gates_each outputs roots (f ∷ frees) (c ∷ gates) named le all =
      by_name (output_name outputs roots c) refl (gates_each outputs roots (f ∷ frees) gates named (omega arith) all) (gates_each outputs roots frees gates named (omega arith) all.1)
    where
      by_name : (n : Option (List ℕ)) → output_name outputs roots c ≡ n → Each P (gate_names outputs roots (f ∷ frees) gates) → Each P (gate_names outputs roots frees gates) →
          Each P (elim n as (λ o. List (List ℕ)) [ Some m ↦ m ∷ gate_names outputs roots (f ∷ frees) gates | None ↦ f ∷ gate_names outputs roots frees gates ])
      by_name None e p q = (all.0, q)
      by_name (Some m) e p q = (output_one outputs roots c m named e, p)

  -- the names of gates at so many classes
  pub given_each : (taken outputs : List (List ℕ)) (roots gates : List ℕ) → 1 + (length gates + length taken) < 2 ^ 64 → Each P outputs → Each P (gate_names outputs roots (free_names taken (length gates)) gates)
  given_each taken outputs roots gates room named = gates_each outputs roots (free_names taken (length gates)) gates named (enough_free taken (length gates) room) (free_each taken (length gates) room)

  -- the names of nets
  pub nets_each : (inputs outputs : List (List ℕ)) (roots gates : List ℕ) → 1 + (length gates + length (inputs ++ outputs)) < 2 ^ 64 → Each P inputs → Each P outputs → Each P (net_names inputs outputs roots gates)
  nets_each inputs outputs roots gates room ins outs =
      all_append P inputs (gate_names outputs roots (free_names (inputs ++ outputs) (length gates)) gates) ins (given_each (inputs ++ outputs) outputs roots gates room outs)

-- whose a name is
abbrev pub IsOwnName : List (List ℕ) → List (List ℕ) → List ℕ → Type 0
IsOwnName inputs outputs name = Contains inputs name ⊎ (Contains outputs name ⊎ ((k : ℕ) × (k < 2 ^ 64) × (name ≡ numbered_name k)))

pub own_names : (inputs outputs : List (List ℕ)) (roots gates : List ℕ) → 1 + (length gates + length (inputs ++ outputs)) < 2 ^ 64 → (name : List ℕ) → Contains (net_names inputs outputs roots gates) name → IsOwnName inputs outputs name
own_names inputs outputs roots gates room name in' =
    all_contains (IsOwnName inputs outputs) (net_names inputs outputs roots gates) name
    (nets_each (IsOwnName inputs outputs) (λ k lt. inr (inr (k, lt, refl))) inputs outputs roots gates room
    (contains_all (IsOwnName inputs outputs) inputs (λ n h. inl h))
    (contains_all (IsOwnName inputs outputs) outputs (λ n h. inr (inl h))))
    in'
