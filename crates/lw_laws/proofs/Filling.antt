-- Lists whose first entries are given, and whose further entries come each from the entries before it: there is one.
use Rattle.std.proofs.Common.{ℕ, zero, suc, ◌+◌, ◌-◌, ◌<◌, ◌≤◌, ◌≡◌, ◌⊎◌, inl, inr, List, [], ◌∷◌, ◌++◌, length, get_or, Some, slice_get, refl, ap, sym, ◌∙◌, subst, arith, length-append}
use Rattle.std.proofs.Math.ListN.{get_or-append}
use Rattle.std.proofs.Math.Seq.{get_or-append_seam}
use Rattle.std.proofs.lemmas.List.{ext_get_or}
use Rattle.std.proofs.lemmas.Option.{slice_get-get_or, get_or_from_slice_get, slice_get_within}
use native.Mathlib.Decide.{dec_lt}
use native.Mathlib.Nat.{eq-or-lt_of_le}
use Rattle.lw_laws.proofs.Lists.{slice_get_some}

module _ {A X : Type 0} (d : A) (step : X → List A → A) where
  -- the entries agree below k
  abbrev pub AgreeBelow : ℕ → List A → List A → Type 0
  AgreeBelow k xs ys = (i : ℕ) → i < k → get_or xs i d ≡ get_or ys i d

  -- each node's entry hangs on entries before its own alone
  abbrev pub AreLocal : ℕ → List X → Type 0
  AreLocal first nodes = (j : ℕ) (node : X) → slice_get nodes j ≡ Some node → (xs ys : List A) → AgreeBelow (first + j) xs ys → step node xs ≡ step node ys

  abbrev pub filled : List A → List X → List A
  filled xs [] = xs
  filled xs (node ∷ nodes) = filled (xs ++ step node xs ∷ []) nodes

  pub filled_length : (xs : List A) (nodes : List X) → length (filled xs nodes) ≡ length xs + length nodes
  filled_length xs [] = omega arith
  filled_length xs (node ∷ nodes) = omega (arith, filled_length (xs ++ step node xs ∷ []) nodes, length-append xs (step node xs ∷ []))

  pub filled_keeps : (xs : List A) (nodes : List X) → AgreeBelow (length xs) (filled xs nodes) xs
  filled_keeps xs [] i lt = refl
  filled_keeps xs (node ∷ nodes) i lt =
      filled_keeps (xs ++ step node xs ∷ []) nodes i (omega (arith, length-append xs (step node xs ∷ []))) ∙ get_or-append xs (step node xs ∷ []) d i lt

  filled_step : (xs : List A) (nodes : List X) → AreLocal (length xs) nodes → (j : ℕ) (node : X) → slice_get nodes j ≡ Some node → get_or (filled xs nodes) (length xs + j) d ≡ step node (filled xs nodes)
  filled_step xs [] local j node e = cc
  filled_step xs (n ∷ nodes) local zero node e =
      let more = xs ++ step n xs ∷ [] in
      let first : n ≡ node = cc in
      let len = length-append xs (step n xs ∷ []) in
      let here = filled_keeps more nodes (length xs) (omega arith) ∙ get_or-append_seam xs (step n xs) [] d in
      let same = local 0 n refl xs (filled more nodes) (λ i lt. sym (get_or-append xs (step n xs ∷ []) d i (omega arith)) ∙ sym (filled_keeps more nodes i (omega arith))) in
      let at : length xs + 0 ≡ length xs = omega arith in
      ap (λ k. get_or (filled more nodes) k d) at ∙ (here ∙ (same ∙ ap (λ m. step m (filled more nodes)) first))
  filled_step xs (n ∷ nodes) local (suc j) node e =
      let more = xs ++ step n xs ∷ [] in
      let len = length-append xs (step n xs ∷ []) in
      let at : length xs + suc j ≡ length more + j = omega arith in
      let ih = filled_step more nodes (λ i m f ys zs agree. local (suc i) m f ys zs (λ k lt. agree k (omega arith))) j node e in
      ap (λ k. get_or (filled more nodes) k d) at ∙ ih

  -- the first entries are given, and each node's entry is what its step gives
  pub record Fills (start : ℕ → A) (count : ℕ) (ns : List X) (xs : List A) : Type 0 where
    pub one_each : length xs ≡ count + length ns
    pub inputs : (i : ℕ) → i < count → slice_get xs i ≡ Some (start i)
    pub nodes : (j : ℕ) (node : X) → slice_get ns j ≡ Some node → slice_get xs (count + j) ≡ Some (step node xs)

  pub filled_fills : (start : ℕ → A) (xs : List A) (ns : List X) → ((i : ℕ) → i < length xs → get_or xs i d ≡ start i) → AreLocal (length xs) ns → Fills start (length xs) ns (filled xs ns)
  filled_fills start xs ns starts local =
      let len = filled_length xs ns in
      record {
        one_each = len;
        inputs = λ i lt. slice_get-get_or (filled xs ns) i d (omega arith) ∙ ap Some (filled_keeps xs ns i lt ∙ starts i lt);
        nodes = λ j node e. let lt = slice_get_within ns j node e in slice_get-get_or (filled xs ns) (length xs + j) d (omega arith) ∙ ap Some (filled_step xs ns local j node e);
      }

  module _ (start : ℕ → A) (count : ℕ) (ns : List X) (local : AreLocal count ns) (xs ys : List A) (is : Fills start count ns xs) (also : Fills start count ns ys) where
    fills_place : (k : ℕ) → k < count + length ns → AgreeBelow k xs ys → get_or xs k d ≡ get_or ys k d
    fills_place k lt below = by_place (dec_lt k count)
      where
        by_place : Dec (k < count) → get_or xs k d ≡ get_or ys k d
        by_place (yes l) = get_or_from_slice_get xs k (start k) d (is.inputs k l) ∙ sym (get_or_from_slice_get ys k (start k) d (also.inputs k l))
        by_place (no l) =
            let j = k - count in
            let (node, e) = slice_get_some ns j (omega arith) in
            let at : k ≡ count + j = omega arith in
            ap (λ i. get_or xs i d) at
            ∙ (get_or_from_slice_get xs (count + j) (step node xs) d (is.nodes j node e)
            ∙ (local j node e xs ys (λ i l. below i (omega arith))
            ∙ (sym (get_or_from_slice_get ys (count + j) (step node ys) d (also.nodes j node e))
            ∙ sym (ap (λ i. get_or ys i d) at))))

    fills_agree : (k : ℕ) → k ≤ count + length ns → AgreeBelow k xs ys
    fills_agree zero le i lt = absurd (omega arith)
    fills_agree (suc k) le i lt = by_place (eq-or-lt_of_le {n = i} {m = k} (omega arith)) (fills_agree k (omega arith))
      where
        by_place : (i ≡ k) ⊎ (i < k) → AgreeBelow k xs ys → get_or xs i d ≡ get_or ys i d
        by_place (inl e) below = subst (λ m. get_or xs m d ≡ get_or ys m d) (sym e) (fills_place k (omega arith) below)
        by_place (inr l) below = below i l

    -- there is one list at most
    pub fills_once : xs ≡ ys
    fills_once = let a = is.one_each in let b = also.one_each in ext_get_or d xs ys (omega arith) (λ i lt. fills_agree (count + length ns) (omega arith) i (omega arith))
