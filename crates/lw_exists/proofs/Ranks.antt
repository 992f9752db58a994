-- Things that drive names, of which none reaches itself, cannot fail to have ranks that fall along what they need, and depths.
use Rattle.std.proofs.Common.{ℕ, zero, suc, ◌+◌, ◌<◌, ◌≤◌, ◌≡◌, ◌⊎◌, inl, inr, Bool, true, false, if◌then◌else◌, List, [], ◌∷◌, length, map, Option, Some, None, Contains, slice_get, slice_index_or, refl, ap, ap₂, sym, ◌∙◌, subst, arith}
use Rattle.std.specs.Str.{bytes_eq}
use Rattle.std.proofs.lemmas.Option.{slice_get_within, get_or_from_slice_get}
use native.Mathlib.Nat.{eq-or-lt_of_le}
use Rattle.lw_facts.proofs.Lists.{bytes_eq_is, bytes_eq_same, at_contained, contains_tail}
use Rattle.lw_laws.proofs.Lists.{slice_get_some}
use Rattle.lw_laws.proofs.Numbers.{slice_get_map}
use Rattle.lw_dag.specs.Ordering.{greatest}
use Rattle.lw_exists.specs.Weakly.{Weakly}
use Rattle.lw_exists.proofs.Weak.{weaker, weak_all, Decided, weak_decided, some_list}

-- so many numbers below the bound have the property
abbrev Counts : (ℕ → Type 0) → ℕ → ℕ → Type 0
Counts P zero c = c ≡ 0
Counts P (suc n) c = (P n × ((b : ℕ) × (c ≡ suc b) × Counts P n b)) ⊎ ((P n → ⊥) × Counts P n c)

some_count : (P : ℕ → Type 0) (n : ℕ) → Decided P n → (c : ℕ) × Counts P n c
some_count P zero d = (0, refl)
some_count P (suc n) d = by_last (some_count P n (λ i lt. d i (omega arith))) (d n (omega arith))
  where
    by_last : (c : ℕ) × Counts P n c → P n ⊎ (P n → ⊥) → (c : ℕ) × Counts P (suc n) c
    by_last (c, is) (inl p) = (suc c, inl (p, (c, refl, is)))
    by_last (c, is) (inr out) = (c, inr (out, is))

count_most : (P : ℕ → Type 0) (n c : ℕ) → Counts P n c → c ≤ n
count_most P zero c e = omega arith
count_most P (suc n) c (inl (p, (b, e, is))) = let le = count_most P n b is in omega arith
count_most P (suc n) c (inr (out, is)) = let le = count_most P n c is in omega arith

module _ (P Q : ℕ → Type 0) (more : (i : ℕ) → P i → Q i) where
  count_le : (n a b : ℕ) → Counts P n a → Counts Q n b → a ≤ b
  count_le zero a b e f = omega arith
  count_le (suc n) a b (inl (p, (c, e, is))) (inl (q, (d, f, js))) = let le = count_le n c d is js in omega arith
  count_le (suc n) a b (inl (p, (c, e, is))) (inr (out, js)) = absurd (out (more n p))
  count_le (suc n) a b (inr (out, is)) (inl (q, (d, f, js))) = let le = count_le n a d is js in omega arith
  count_le (suc n) a b (inr (out, is)) (inr (none, js)) = count_le n a b is js

  -- more numbers have the wider property where one lacks the other
  count_lt : (k : ℕ) → (P k → ⊥) → Q k → (n a b : ℕ) → k < n → Counts P n a → Counts Q n b → a < b
  count_lt k lacks has zero a b lt e f = absurd (omega arith)
  count_lt k lacks has (suc n) a b lt is js = by_place (λ c d l i j. count_lt k lacks has n c d l i j) (eq-or-lt_of_le {n = k} {m = n} (omega arith)) is js
    where
      by_place : ((c d : ℕ) → k < n → Counts P n c → Counts Q n d → c < d) → (k ≡ n) ⊎ (k < n) → Counts P (suc n) a → Counts Q (suc n) b → a < b
      by_place rest (inl s) (inl (p, (c, e, i))) j = absurd (lacks (subst P (sym s) p))
      by_place rest (inl s) (inr (out, i)) (inl (q, (d, f, j))) = let le = count_le n a d i j in omega arith
      by_place rest (inl s) (inr (out, i)) (inr (none, j)) = absurd (none (subst Q s has))
      by_place rest (inr l) (inl (p, (c, e, i))) (inl (q, (d, f, j))) = let less = rest c d l i j in omega arith
      by_place rest (inr l) (inl (p, (c, e, i))) (inr (none, j)) = absurd (none (more n p))
      by_place rest (inr l) (inr (out, i)) (inl (q, (d, f, j))) = let less = rest a d l i j in omega arith
      by_place rest (inr l) (inr (out, i)) (inr (none, j)) = rest a b l i j

map_same : (u v : List ℕ → ℕ) (names : List (List ℕ)) → ((q : List ℕ) → Contains names q → u q ≡ v q) → map u names ≡ map v names
map_same u v [] f = refl
map_same u v (name ∷ names) f =
    ap₂ (λ n ns. n ∷ ns) (f name (0, omega arith, refl)) (map_same u v names (λ q in'. f q (contains_tail name names q in')))

module _ {X : Type 0} (out : X → List ℕ) where
  -- what drives a name
  abbrev pub driver : List ℕ → List X → Option X
  driver name [] = None
  driver name (x ∷ xs) = if bytes_eq (out x) name then Some x else driver name xs

  pub driver_is : (xs : List X) (name : List ℕ) (x : X) → driver name xs ≡ Some x → (k : ℕ) × (slice_get xs k ≡ Some x) × (out x ≡ name)
  driver_is [] name x e = cc
  driver_is (y ∷ ys) name x e = by_test (driver_is ys name x) (bytes_eq (out y) name) refl e
    where
      by_test : (driver name ys ≡ Some x → (k : ℕ) × (slice_get ys k ≡ Some x) × (out x ≡ name)) → (t : Bool) → bytes_eq (out y) name ≡ t → (if t then Some y else driver name ys) ≡ Some x → (k : ℕ) × (slice_get (y ∷ ys) k ≡ Some x) × (out x ≡ name)
      by_test rest true is f = let same : y ≡ x = cc in (0, ap Some same, subst (λ (z : X). out z ≡ name) same (bytes_eq_is (out y) name is))
      by_test rest false is f = let (k, at, o) = rest f in (suc k, at, o)

  pub driver_none : (xs : List X) (name : List ℕ) → driver name xs ≡ None → (k : ℕ) (x : X) → slice_get xs k ≡ Some x → out x ≡ name → ⊥
  driver_none [] name e k x at o = cc
  driver_none (y ∷ ys) name e k x at o = by_test (λ f j there. driver_none ys name f j x there o) (bytes_eq (out y) name) refl e k at
    where
      by_test : (driver name ys ≡ None → (j : ℕ) → slice_get ys j ≡ Some x → ⊥) → (t : Bool) → bytes_eq (out y) name ≡ t → (if t then Some y else driver name ys) ≡ None → (k : ℕ) → slice_get (y ∷ ys) k ≡ Some x → ⊥
      by_test rest true is f k at = cc
      by_test rest false is f zero at =
          let same : y ≡ x = cc in
          let eq : bytes_eq (out y) name ≡ true = bytes_eq_same (out y) name (ap out same ∙ o) in
          cc
      by_test rest false is f (suc k) at = rest f k at

-- Things by what they drive and need: one step, and more than one, lead from what a thing drives.
pub record IsReaching {X : Type 0} (out : X → List ℕ) (needs : X → List (List ℕ)) (xs : List X) (Reach : List ℕ → List ℕ → Type 0) : Type 0 where
  pub one : (x : X) (q : List ℕ) → Contains xs x → Contains (needs x) q → Reach (out x) q
  pub more : (x : X) (q r : List ℕ) → Contains xs x → Contains (needs x) q → Reach q r → Reach (out x) r
  pub none : (name : List ℕ) → Reach name name → ⊥
  pub apart : (i j : ℕ) (name : List ℕ) → slice_get (map out xs) i ≡ Some name → slice_get (map out xs) j ≡ Some name → i ≡ j

module _ {X : Type 0} (out : X → List ℕ) (needs : X → List (List ℕ)) (xs : List X) (Reach : List ℕ → List ℕ → Type 0) (is : IsReaching out needs xs Reach) where
  abbrev name_of : ℕ → List ℕ
  name_of k = slice_index_or (map out xs) k []

  abbrev Below : ℕ → ℕ → Type 0
  Below k i = Reach (name_of k) (name_of i)

  name_is : (k : ℕ) (x : X) → slice_get xs k ≡ Some x → name_of k ≡ out x
  name_is k x at = get_or_from_slice_get (map out xs) k (out x) [] (slice_get_map out xs k x at)

  abbrev HasRank : ℕ → Type 0
  HasRank k = (r : ℕ) × Counts (Below k) (length xs) r

  weakly_ranked : Weakly ((k : ℕ) → k < length xs → HasRank k)
  weakly_ranked = weak_all HasRank (length xs) (λ k lt. weaker (some_count (Below k) (length xs)) (weak_decided (Below k) (length xs)))

  -- ranks of places fall along what is needed
  abbrev pub Fall : (ℕ → ℕ) → Type 0
  Fall rank =
      (j k : ℕ) (x y : X) → slice_get xs j ≡ Some x → slice_get xs k ≡ Some y → Contains (needs x) (out y) → rank k < rank j

  falls : (ranks : List ℕ) → length ranks ≡ length xs → ((k r : ℕ) → slice_get ranks k ≡ Some r → Counts (Below k) (length xs) r) → Fall (λ k. slice_index_or ranks k 0)
  falls ranks count are j k x y at there among =
      let in_xs = at_contained xs j x at in
      let on : Contains (needs x) (name_of k) = subst (Contains (needs x)) (sym (name_is k y there)) among in
      count_lt (Below k) (Below j) (λ i p. subst (λ (n : List ℕ). Reach n (name_of i)) (sym (name_is j x at)) (is.more x (name_of k) (name_of i) in_xs on p)) k (is.none (name_of k)) (subst (λ (n : List ℕ). Reach n (name_of k)) (sym (name_is j x at)) (is.one x (name_of k) in_xs on)) (length xs) (rank k) (rank j) (slice_get_within xs k y there) (rank_is k (slice_get_within xs k y there)) (rank_is j (slice_get_within xs j x at))
    where
      rank : ℕ → ℕ
      rank k = slice_index_or ranks k 0

      rank_is : (k : ℕ) → k < length xs → Counts (Below k) (length xs) (slice_index_or ranks k 0)
      rank_is k lt =
          let (r, e) = slice_get_some ranks k (omega arith) in
          subst (Counts (Below k) (length xs)) (sym (get_or_from_slice_get ranks k r 0 e)) (are k r e)

  -- and none of a place is above the number of things
  abbrev pub AreRanks : (ℕ → ℕ) → Type 0
  AreRanks rank = Fall rank × ((k : ℕ) → k < length xs → rank k ≤ length xs)

  pub some_ranks : Weakly ((rank : ℕ → ℕ) × AreRanks rank)
  some_ranks = weaker in_list weakly_ranked
    where
      in_list : ((k : ℕ) → k < length xs → HasRank k) → (rank : ℕ → ℕ) × AreRanks rank
      in_list each =
          let (ranks, count, are) = some_list (λ k r. Counts (Below k) (length xs) r) (length xs) each in (
            (λ k. slice_index_or ranks k 0),
            (
              falls ranks count are,
              λ k lt.
                  let (r, e) = slice_get_some ranks k (omega arith) in
                  let most = count_most (Below k) (length xs) r (are k r e) in
                  let at = get_or_from_slice_get ranks k r 0 e in
                  omega arith,
            ),
          )

  -- what follows for a name from what its driver needs holds of all names
  module _ (rank : ℕ → ℕ) (fall : Fall rank) (P : List ℕ → Type 0) (undriven : (q : List ℕ) → driver out q xs ≡ None → P q) (next : (k : ℕ) (x : X) → slice_get xs k ≡ Some x → ((q : List ℕ) → Contains (needs x) q → P q) → P (out x)) where
    by_rank : (n k : ℕ) (x : X) → slice_get xs k ≡ Some x → rank k < n → P (out x)
    by_rank zero k x at lt = absurd (omega arith)
    by_rank (suc n) k x at lt = next k x at (λ q in'. by_driver (by_rank n) q in' (driver out q xs) refl)
      where
        by_driver : ((j : ℕ) (y : X) → slice_get xs j ≡ Some y → rank j < n → P (out y)) → (q : List ℕ) → Contains (needs x) q → (o : Option X) → driver out q xs ≡ o → P q
        by_driver rest q in' None e = undriven q e
        by_driver rest q in' (Some y) e =
            let (j, there, o) = driver_is out xs q y e in
            let less = fall k j x y at there (subst (Contains (needs x)) (sym o) in') in
            subst P o (rest j y there (omega arith))

    pub of_all : (q : List ℕ) → P q
    of_all q = by_driver (driver out q xs) refl
      where
        by_driver : (o : Option X) → driver out q xs ≡ o → P q
        by_driver None e = undriven q e
        by_driver (Some y) e = let (j, there, o) = driver_is out xs q y e in subst P o (by_rank (suc (rank j)) j y there (omega arith))

-- Depths: a thing is so much deeper than the deepest of what it needs.
module _ {X : Type 0} (out : X → List ℕ) (needs : X → List (List ℕ)) (weight : X → ℕ) (xs : List X) where
  abbrev step : (List ℕ → ℕ) → Option X → ℕ
  step below None = 0
  step below (Some x) = weight x + greatest (map below (needs x))

  -- the depth of a name in so many steps
  abbrev depth_in : ℕ → List ℕ → ℕ
  depth_in zero name = 0
  depth_in (suc f) name = step (depth_in f) (driver out name xs)

  flat : (f : ℕ) (name : List ℕ) → driver out name xs ≡ None → depth_in f name ≡ 0
  flat zero name e = refl
  flat (suc f) name e = ap (step (depth_in f)) e

  -- each thing has its depth, and what nothing drives has none
  abbrev pub AreDepths : (List ℕ → ℕ) → Type 0
  AreDepths depth =
      ((k : ℕ) (x : X) → slice_get xs k ≡ Some x → depth (out x) ≡ weight x + greatest (map depth (needs x)))
      × ((name : List ℕ) → driver out name xs ≡ None → depth name ≡ 0)

  module _ (Reach : List ℕ → List ℕ → Type 0) (is : IsReaching out needs xs Reach) where
    driver_own : (k : ℕ) (x : X) → slice_get xs k ≡ Some x → driver out (out x) xs ≡ Some x
    driver_own k x at = by_driver (driver out (out x) xs) refl
      where
        by_driver : (o : Option X) → driver out (out x) xs ≡ o → driver out (out x) xs ≡ Some x
        by_driver None e = absurd (driver_none out xs (out x) e k x at refl)
        by_driver (Some y) e =
            let (j, there, o) = driver_is out xs (out x) y e in
            let place : j ≡ k = is.apart j k (out x) (slice_get_map out xs j y there ∙ ap Some o) (slice_get_map out xs k x at) in
            let here : slice_get xs k ≡ Some y = subst (λ i. slice_get xs i ≡ Some y) place there in
            let same : y ≡ x = cc in
            e ∙ ap Some same

    driven : (f k : ℕ) (x : X) → slice_get xs k ≡ Some x → depth_in (suc f) (out x) ≡ weight x + greatest (map (depth_in f) (needs x))
    driven f k x at = ap (step (depth_in f)) (driver_own k x at)

    module _ (rank : ℕ → ℕ) (ranks : AreRanks out needs xs Reach is rank) where
      stable : (f h k : ℕ) (x : X) → slice_get xs k ≡ Some x → rank k < f → rank k < h → depth_in f (out x) ≡ depth_in h (out x)
      stable zero h k x at a b = absurd (omega arith)
      stable (suc f) zero k x at a b = absurd (omega arith)
      stable (suc f) (suc h) k x at a b =
          driven f k x at ∙ (ap (λ ns. weight x + greatest ns) (map_same (depth_in f) (depth_in h) (needs x) (λ q in'. by_driver (stable f h) q in' (driver out q xs) refl)) ∙ sym (driven h k x at))
        where
          by_driver : ((j : ℕ) (y : X) → slice_get xs j ≡ Some y → rank j < f → rank j < h → depth_in f (out y) ≡ depth_in h (out y)) → (q : List ℕ) → Contains (needs x) q → (o : Option X) → driver out q xs ≡ o → depth_in f q ≡ depth_in h q
          by_driver rest q in' None e = flat f q e ∙ sym (flat h q e)
          by_driver rest q in' (Some y) e =
              let (j, there, o) = driver_is out xs q y e in
              let lt = ranks.0 k j x y at there (subst (Contains (needs x)) (sym o) in') in
              subst (λ (z : List ℕ). depth_in f z ≡ depth_in h z) o (rest j y there (omega arith) (omega arith))

      need_stable : (k : ℕ) (x : X) → slice_get xs k ≡ Some x → (q : List ℕ) → Contains (needs x) q → depth_in (length xs) q ≡ depth_in (suc (length xs)) q
      need_stable k x at q in' = by_driver (driver out q xs) refl
        where
          by_driver : (o : Option X) → driver out q xs ≡ o → depth_in (length xs) q ≡ depth_in (suc (length xs)) q
          by_driver None e = flat (length xs) q e ∙ sym (flat (suc (length xs)) q e)
          by_driver (Some y) e =
              let (j, there, o) = driver_is out xs q y e in
              let lt = ranks.0 k j x y at there (subst (Contains (needs x)) (sym o) in') in
              let most = ranks.1 k (slice_get_within xs k x at) in
              subst (λ (z : List ℕ). depth_in (length xs) z ≡ depth_in (suc (length xs)) z) o (stable (length xs) (suc (length xs)) j y there (omega arith) (omega arith))

      depths_are : AreDepths (depth_in (suc (length xs)))
      depths_are = (
        λ k x at. driven (length xs) k x at ∙ ap (λ ns. weight x + greatest ns) (map_same (depth_in (length xs)) (depth_in (suc (length xs))) (needs x) (need_stable k x at)),
        flat (suc (length xs)),
      )

      pub ranked_depths : (depth : List ℕ → ℕ) × AreDepths depth
      ranked_depths = (depth_in (suc (length xs)), depths_are)
