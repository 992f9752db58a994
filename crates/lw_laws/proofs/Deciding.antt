-- Whether gates along attaining matches lead from a class to inputs in so many steps can be decided, and so the least number of steps is there.
use Rattle.std.proofs.Common.{ℕ, zero, suc, ◌<◌, ◌≤◌, ◌≡◌, ◌⊎◌, inl, inr, List, [], ◌∷◌, ◌++◌, length, map, Option, Some, None, Contains, slice_get, slice_index_or, refl, ap, sym, ◌∙◌, subst, arith}
use Rattle.std.specs.List.{AllByRecursion}
use Rattle.std.proofs.Math.Decide.{map_dec}
use Rattle.std.proofs.lemmas.List.Elements.{Contains-append_left, Contains-append_right}
use Rattle.lw_facts.proofs.Lists.{contains_map}
use native.Mathlib.Decide.{ℕ_discrete, dec_lt}
use native.Mathlib.Nat.{eq-or-lt_of_le}
use Rattle.lw_laws.specs.Flip.{flip}
use Rattle.lw_laws.specs.Trees.{Tree, leaf, const_one, const_zero, inv, nand}
use Rattle.lw_laws.specs.Graphs.{Pair, Graph, Stands}
use Rattle.lw_laws.specs.Covers.{Pattern, HasPins}
use Rattle.lw_laws.specs.Costs.{Cost}
use Rattle.lw_laws.specs.Matches.{choices_of}
use Rattle.lw_laws.specs.Choices.{HaveLabels, Attains, IsInputClass, IsWithin}
use Rattle.lw_laws.specs.Rounds.{labels_in}

-- decisions
pub dec_and : {P Q : Type 0} → Dec P → Dec Q → Dec (P × Q)
dec_and (yes p) (yes q) = yes (p, q)
dec_and (yes p) (no out) = no (λ r. out r.1)
dec_and (no out) q = no (λ r. out r.0)

pub dec_or : {P Q : Type 0} → Dec P → Dec Q → Dec (P ⊎ Q)
dec_or (yes p) q = yes (inl p)
dec_or (no out) (yes q) = yes (inr q)
dec_or {P} {Q} (no out) (no out') = no (λ r. neither r)
  where
    neither : P ⊎ Q → ⊥
    neither (inl p) = out p
    neither (inr q) = out' q

pub dec_any : {X : Type 0} (P : X → Type 0) → ((x : X) → Dec (P x)) → (xs : List X) → Dec ((x : X) × Contains xs x × P x)
dec_any P d [] = no (λ (x, (k, lt, e), p). absurd (omega arith))
dec_any {X} P d (x ∷ xs) = map_dec to from (dec_or (d x) (dec_any P d xs))
  where
    to : P x ⊎ ((y : X) × Contains xs y × P y) → (y : X) × Contains (x ∷ xs) y × P y
    to (inl p) = (x, (0, omega arith, refl), p)
    to (inr (y, (k, lt, e), p)) = (y, (suc k, omega arith, e), p)

    from : (y : X) × Contains (x ∷ xs) y × P y → P x ⊎ ((y : X) × Contains xs y × P y)
    from (y, (zero, lt, e), p) = inl (subst P (sym e) p)
    from (y, (suc k, lt, e), p) = inr (y, (k, omega arith, e), p)

pub dec_all : (P : ℕ → Type 0) → ((x : ℕ) → Dec (P x)) → (xs : List ℕ) → Dec (AllByRecursion P xs)
dec_all P d [] = yes tt
dec_all P d (x ∷ xs) = dec_and (d x) (dec_all P d xs)

pub dec_option : (o p : Option ℕ) → Dec (o ≡ p)
dec_option None None = yes refl
dec_option None (Some b) = no (λ e. cc)
dec_option (Some a) None = no (λ e. cc)
dec_option (Some a) (Some b) = map_dec (λ e. ap Some e) (λ e. cc) (ℕ_discrete a b)

-- the lists of n numbers below a bound
below : ℕ → List ℕ
below zero = []
below (suc n) = n ∷ below n

prefixed : List ℕ → List (List ℕ) → List (List ℕ)
prefixed [] rest = []
prefixed (k ∷ ks) rest = map (λ xs. k ∷ xs) rest ++ prefixed ks rest

all_lists : ℕ → ℕ → List (List ℕ)
all_lists bound zero = [] ∷ []
all_lists bound (suc n) = prefixed (below bound) (all_lists bound n)

-- a list by its place in another
in_below : (n k : ℕ) → k < n → Contains (below n) k
unfolding below
in_below zero k lt = absurd (omega arith)
in_below (suc n) k lt = by_case (eq-or-lt_of_le {n = k} {m = n} (omega arith)) (in_below n k)
  where
    by_case : (k ≡ n) ⊎ (k < n) → (k < n → Contains (below n) k) → Contains (n ∷ below n) k
    by_case (inl e) f = (0, omega arith, sym e)
    by_case (inr l) f = let (j, m, e) = f l in (suc j, omega arith, e)

in_prefixed : (ks : List ℕ) (rest : List (List ℕ)) (k : ℕ) (xs : List ℕ) → Contains ks k → Contains rest xs → Contains (prefixed ks rest) (k ∷ xs)
unfolding prefixed
in_prefixed [] rest k xs (j, lt, e) c = absurd (omega arith)
in_prefixed (z ∷ ks) rest k xs (zero, lt, e) c = Contains-append_left (map (λ ys. z ∷ ys) rest) (prefixed ks rest) (k ∷ xs) (subst (λ w. Contains (map (λ ys. z ∷ ys) rest) (w ∷ xs)) e (contains_map (λ ys. z ∷ ys) rest xs c))
in_prefixed (z ∷ ks) rest k xs (suc j, lt, e) c = Contains-append_right (map (λ ys. z ∷ ys) rest) (prefixed ks rest) (k ∷ xs) (in_prefixed ks rest k xs (j, omega arith, e) c)

in_all_lists : (bound : ℕ) (xs : List ℕ) → AllByRecursion (λ x. x < bound) xs → Contains (all_lists bound (length xs)) xs
unfolding all_lists
in_all_lists bound [] a = (0, omega arith, refl)
in_all_lists bound (x ∷ xs) (lt, a) = in_prefixed (below bound) (all_lists bound (length xs)) x xs (in_below bound x lt) (in_all_lists bound xs a)

module _ (g : Graph) where
  abbrev row : ℕ → List Pair
  row c = slice_index_or g.pairs c []

  split_to : (w : List ℕ) (t u : Tree) (c : ℕ) → (p : Pair) × Contains (row c) p × ((Stands g w t p.x × Stands g w u p.y) ⊎ (Stands g w t p.y × Stands g w u p.x)) → Stands g w (nand t u) c
  split_to w t u c (p, at, inl (s, r)) = (p.x, p.y, inl at, s, r)
  split_to w t u c (p, at, inr (s, r)) = (p.y, p.x, inr at, s, r)

  split_from : (w : List ℕ) (t u : Tree) (c : ℕ) → Stands g w (nand t u) c → (p : Pair) × Contains (row c) p × ((Stands g w t p.x × Stands g w u p.y) ⊎ (Stands g w t p.y × Stands g w u p.x))
  split_from w t u c (x, y, inl at, s, r) = (record { x = x; y = y }, at, inl (s, r))
  split_from w t u c (x, y, inr at, s, r) = (record { x = y; y = x }, at, inr (s, r))

  dec_stands : (w : List ℕ) (t : Tree) (c : ℕ) → Dec (Stands g w t c)
  dec_stands w (leaf k) c = dec_option (slice_get w k) (Some c)
  dec_stands w const_one c = ℕ_discrete c g.one
  dec_stands w const_zero c = ℕ_discrete c (flip g.one)
  dec_stands w (inv t) c = dec_stands w t (flip c)
  dec_stands w (nand t u) c =
      map_dec (split_to w t u c) (split_from w t u c) (dec_any (λ p. (Stands g w t p.x × Stands g w u p.y) ⊎ (Stands g w t p.y × Stands g w u p.x)) (λ p. dec_or (dec_and (dec_stands w t p.x) (dec_stands w u p.y)) (dec_and (dec_stands w t p.y) (dec_stands w u p.x))) (row c))

-- a class with a label is one of the list
pub label_listed : (labels : List (Option ℕ)) (c l : ℕ) → labels_in labels c ≡ Some l → c < length labels
label_listed [] c l e = cc
label_listed (o ∷ labels) zero l e = omega arith
label_listed (o ∷ labels) (suc c) l e = let ih = label_listed labels c l e in omega arith

module _ (labels : List (Option ℕ)) where
  abbrev pub known : ℕ → Option ℕ
  known = labels_in labels

  -- pins with labels are classes of the list
  pins_below : (ps ls : List ℕ) → HaveLabels known ps ls → AllByRecursion (λ p. p < length labels) ps
  pins_below [] ls a = tt
  pins_below (p ∷ ps) [] a = absurd a
  pins_below (p ∷ ps) (l ∷ ls) (e, a) = (label_listed labels p l e, pins_below ps ls a)

  dec_labels : (ps : List ℕ) → Dec ((ls : List ℕ) × HaveLabels known ps ls)
  dec_labels [] = yes ([], tt)
  dec_labels (p ∷ ps) = by_label (known p) refl (dec_labels ps)
    where
      by_label : (o : Option ℕ) → known p ≡ o → Dec ((ls : List ℕ) × HaveLabels known ps ls) → Dec ((ls : List ℕ) × HaveLabels known (p ∷ ps) ls)
      by_label None e d = no missing
        where
          missing : (ls : List ℕ) × HaveLabels known (p ∷ ps) ls → ⊥
          missing ([], a) = a
          missing (l ∷ ls, (f, a)) = cc
      by_label (Some l) e (yes (ls, a)) = yes (l ∷ ls, (e, a))
      by_label (Some l) e (no out) = no missing
        where
          missing : (ls : List ℕ) × HaveLabels known (p ∷ ps) ls → ⊥
          missing ([], a) = a
          missing (l ∷ ls, (f, a)) = out (ls, a)

  labels_once : (ps ls ms : List ℕ) → HaveLabels known ps ls → HaveLabels known ps ms → ls ≡ ms
  labels_once [] [] [] a b = refl
  labels_once [] [] (m ∷ ms) a b = absurd b
  labels_once [] (l ∷ ls) ms a b = absurd a
  labels_once (p ∷ ps) [] ms a b = absurd a
  labels_once (p ∷ ps) (l ∷ ls) [] a b = absurd b
  labels_once (p ∷ ps) (l ∷ ls) (m ∷ ms) (e, a) (f, b) = let same : l ≡ m = cc in let rest = labels_once ps ls ms a b in cc

  module _ (g : Graph) (pats : List Pattern) (cost : Cost) where
    abbrev pub M : Rattle.lw_laws.specs.Choices.Choices
    M = choices_of g cost.pin_counts pats

    -- an attaining match by its pattern and pins
    abbrev AttainsBy : ℕ → Pattern → List ℕ → Type 0
    AttainsBy c p ps = HasPins cost.pin_counts p.cell (length ps) × Stands g ps p.tree c × ((ls : List ℕ) × HaveLabels known ps ls × (known c ≡ Some (cost.value p.cell ls)))

    dec_value : (c : ℕ) (p : Pattern) (ps : List ℕ) → Dec ((ls : List ℕ) × HaveLabels known ps ls) → Dec ((ls : List ℕ) × HaveLabels known ps ls × (known c ≡ Some (cost.value p.cell ls)))
    dec_value c p ps (no out) = no (λ (ls, a, e). out (ls, a))
    dec_value c p ps (yes (ls, a)) = map_dec (λ e. (ls, a, e)) (λ (ms, b, e). subst (λ ns. known c ≡ Some (cost.value p.cell ns)) (labels_once ps ms ls b a) e) (dec_option (known c) (Some (cost.value p.cell ls)))

    dec_attains : (c : ℕ) (p : Pattern) (ps : List ℕ) → Dec (AttainsBy c p ps)
    dec_attains c p ps =
        map_dec (λ (a, (b, e)). (a, b, e)) (λ (a, b, e). (a, (b, e))) (dec_and (dec_option (slice_get cost.pin_counts p.cell) (Some (length ps))) (dec_and (dec_stands g ps p.tree c) (dec_value c p ps (dec_labels ps))))

    attains_to : (c : ℕ) (p : Pattern) (ps : List ℕ) → Contains pats p → AttainsBy c p ps → Attains M cost known c p.cell ps
    attains_to c p ps listed (pins, stands, (ls, a, e)) = record {
      stands = record { pattern = p; listed = listed; cell_is = refl; pins = pins; stands = stands };
      pin_labels = ls;
      have = a;
      value = e;
    }

    attains_from : (c cell : ℕ) (ps : List ℕ) → (a : Attains M cost known c cell ps) → AttainsBy c a.stands.pattern ps
    attains_from c cell ps a =
        let m = a.stands in
        (subst (λ k. HasPins cost.pin_counts k (length ps)) (sym m.cell_is) m.pins, m.stands, (a.pin_labels, a.have, a.value ∙ ap (λ k. Some (cost.value k a.pin_labels)) (sym m.cell_is)))

    dec_input : (c : ℕ) → Dec (IsInputClass M c)
    dec_input c = in_list g.leaves
      where
        in_list : (xs : List ℕ) → Dec ((i : ℕ) × (slice_get xs i ≡ Some c))
        in_list [] = no (λ (i, e). cc)
        in_list (x ∷ xs) = map_dec to from (dec_or (ℕ_discrete x c) (in_list xs))
          where
            to : (x ≡ c) ⊎ ((i : ℕ) × (slice_get xs i ≡ Some c)) → (i : ℕ) × (slice_get (x ∷ xs) i ≡ Some c)
            to (inl e) = (0, ap Some e)
            to (inr (i, e)) = (suc i, e)

            from : (i : ℕ) × (slice_get (x ∷ xs) i ≡ Some c) → (x ≡ c) ⊎ ((i : ℕ) × (slice_get xs i ≡ Some c))
            from (zero, e) = inl (cc)
            from (suc i, e) = inr (i, e)

    abbrev pub Within : ℕ → ℕ → Type 0
    Within c h = IsWithin M cost known c h

    -- the pins that a cell can have
    pin_lists : Pattern → List (List ℕ)
    pin_lists p = lists (slice_get cost.pin_counts p.cell)
      where
        lists : Option ℕ → List (List ℕ)
        lists None = []
        lists (Some n) = all_lists (length labels) n

    pins_listed : (p : Pattern) (ps : List ℕ) → HasPins cost.pin_counts p.cell (length ps) → AllByRecursion (λ q. q < length labels) ps → Contains (pin_lists p) ps
    unfolding pin_lists
    pins_listed p ps e a = rw e (in_all_lists (length labels) ps a)

    pub dec_within : (h c : ℕ) → Dec (Within c h)
    dec_within zero c = dec_input c
    dec_within (suc h) c =
        dec_or (dec_input c) (map_dec to from (dec_any (λ p. (ps : List ℕ) × Contains (pin_lists p) ps × (AttainsBy c p ps × AllByRecursion (λ q. Within q h) ps)) (λ p. dec_any (λ ps. AttainsBy c p ps × AllByRecursion (λ q. Within q h) ps) (λ ps. dec_and (dec_attains c p ps) (dec_all (λ q. Within q h) (λ q. dec_within h q) ps)) (pin_lists p)) pats))
      where
        to : (p : Pattern) × Contains pats p × ((ps : List ℕ) × Contains (pin_lists p) ps × (AttainsBy c p ps × AllByRecursion (λ q. Within q h) ps)) → (cell : ℕ) × (ps : List ℕ) × Attains M cost known c cell ps × AllByRecursion (λ q. Within q h) ps
        to (p, listed, (ps, in_pins, (a, w))) = (p.cell, ps, attains_to c p ps listed a, w)

        from : (cell : ℕ) × (ps : List ℕ) × Attains M cost known c cell ps × AllByRecursion (λ q. Within q h) ps → (p : Pattern) × Contains pats p × ((ps : List ℕ) × Contains (pin_lists p) ps × (AttainsBy c p ps × AllByRecursion (λ q. Within q h) ps))
        from (cell, ps, a, w) =
            let by = attains_from c cell ps a in
            (a.stands.pattern, a.stands.listed, (ps, pins_listed a.stands.pattern ps by.0 (pins_below ps a.pin_labels a.have), (by, w)))

-- where none below a number has it, those that have it are not below
none_below : (P : ℕ → Type 0) (n : ℕ) → ((k : ℕ) → k < n → P k → ⊥) → (k : ℕ) → P k → n ≤ k
none_below P n none k r = by_dec (dec_lt k n)
  where
    by_dec : Dec (k < n) → n ≤ k
    by_dec (yes lt) = absurd (none k lt r)
    by_dec (no out) = omega arith

-- the least of the numbers with a property that can be decided
pub least_number : (P : ℕ → Type 0) → ((k : ℕ) → Dec (P k)) → (n : ℕ) → P n → (m : ℕ) × P m × ((k : ℕ) → P k → m ≤ k)
least_number P d n p = by_search (search_below n)
  where
    search_below : (n : ℕ) → ((m : ℕ) × P m × ((k : ℕ) → P k → m ≤ k)) ⊎ ((k : ℕ) → k < n → P k → ⊥)
    search_below zero = inr (λ k lt q. absurd (omega arith))
    search_below (suc n) = by_last (search_below n) (d n)
      where
        by_last : ((m : ℕ) × P m × ((k : ℕ) → P k → m ≤ k)) ⊎ ((k : ℕ) → k < n → P k → ⊥) → Dec (P n) → ((m : ℕ) × P m × ((k : ℕ) → P k → m ≤ k)) ⊎ ((k : ℕ) → k < suc n → P k → ⊥)
        by_last (inl found) q = inl found
        by_last (inr none) (yes q) = inl (n, q, none_below P n none)
        by_last (inr none) (no out) = inr none_more
          where
            none_more : (k : ℕ) → k < suc n → P k → ⊥
            none_more k lt r = by_place (eq-or-lt_of_le {n = k} {m = n} (omega arith))
              where
                by_place : (k ≡ n) ⊎ (k < n) → ⊥
                by_place (inl e) = out (subst P e r)
                by_place (inr l) = none k l r

    by_search : ((m : ℕ) × P m × ((k : ℕ) → P k → m ≤ k)) ⊎ ((k : ℕ) → k < n → P k → ⊥) → (m : ℕ) × P m × ((k : ℕ) → P k → m ≤ k)
    by_search (inl found) = found
    by_search (inr none) = (n, p, none_below P n none)
