-- Lemmas that the proofs of several crates above cite.
use Rattle.lw_laws.specs.Covers.{latest}
use Rattle.lw_laws.specs.Graphs.{Graph, HoldsPair, Pair}
use Rattle.std.proofs.Common.{Contains, List, None, Option, Some, [], ap, arith, get_or, inl, inr, length, max, refl, slice_get, slice_index_or, subst, suc, sym, take, unwrap_or, zero, ℕ, ◌+◌, ◌<◌, ◌∙◌, ◌∷◌, ◌≡◌}
use Rattle.std.proofs.lemmas.Option.{slice_get_within, unwrap_or-slice_get}

pub latest_suc : (k : ℕ) (ds ts : List ℕ) → k < length ds → k < length ts → latest (take (suc k) ds) ts ≡ max (latest (take k ds) ts) (get_or ts k 0 + get_or ds k 0)
latest_suc zero (d ∷ ds) (t ∷ ts) in_ds in_ts = let swapped : max (d + t) 0 ≡ max 0 (t + d) = omega arith in swapped
latest_suc (suc k) (d ∷ ds) (t ∷ ts) in_ds in_ts =
    let rest : latest (take (suc k) ds) ts ≡ max (latest (take k ds) ts) (get_or ts k 0 + get_or ds k 0) = latest_suc k ds ts (omega arith) (omega arith) in
    let first : max (d + t) (latest (take (suc k) ds) ts) ≡ max (d + t) (max (latest (take k ds) ts) (get_or ts k 0 + get_or ds k 0)) = ap (max (d + t)) rest in
    let turned : max (d + t) (max (latest (take k ds) ts) (get_or ts k 0 + get_or ds k 0)) ≡ max (max (d + t) (latest (take k ds) ts)) (get_or ts k 0 + get_or ds k 0) = omega arith in
    first ∙ turned
latest_suc k [] ts in_ds in_ts = absurd (omega arith)
latest_suc zero (d ∷ ds) [] in_ds in_ts = absurd (omega arith)
latest_suc (suc k) (d ∷ ds) [] in_ds in_ts = absurd (omega arith)

pub pair_within : (g : Graph) (c x y : ℕ) → HoldsPair g c x y → c < length g.pairs
pair_within g c x y h = within (slice_get g.pairs c) refl
  where
    none_in : (p : Pair) → Contains [] p → ⊥
    none_in p (k, lt, e) = absurd (omega arith)

    no_row : slice_index_or g.pairs c [] ≡ [] → HoldsPair g c x y → ⊥
    no_row e (inl i) = none_in (record { x = x; y = y }) (subst (λ (row : List Pair). Contains row (record { x = x; y = y })) e i)
    no_row e (inr i) = none_in (record { x = y; y = x }) (subst (λ (row : List Pair). Contains row (record { x = y; y = x })) e i)

    within : (o : Option (List Pair)) → slice_get g.pairs c ≡ o → c < length g.pairs
    within (Some row) e = slice_get_within g.pairs c row e
    within None e = absurd (no_row (sym (unwrap_or-slice_get g.pairs c []) ∙ ap (λ (o : Option (List Pair)). unwrap_or o []) e) h)
