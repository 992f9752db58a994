-- A list that is sorted by a number is what a filter keeps at each number, in turn.
use Rattle.std.proofs.Common.{◌≡◌, ℕ, zero, suc, ◌+◌, ◌<◌, ◌≤◌, ◌==◌, ◌⊎◌, inl, inr, nat_lt, Bool, true, false, not, ◌&&◌, cond, List, [], ◌∷◌, ◌++◌, length, map, filter, drop, get_or, All, Result, Ok, Err, IfOk, refl, sym, ap, ap₂, append_assoc, subst, ◌∙◌, arith}
use Rattle.std.proofs.lemmas.List.Elements.{All-head, All-tail, All-weaker, All-map, filter_agree}
use Rattle.std.proofs.lemmas.List.{map-append, get_or-map, length-map, append-nil, drop_all, drop_more, nil_from_length}
use Rattle.std.proofs.lemmas.List.Sorted.{All-permutation, IsPermutation-map, length_permutation}
use Rattle.std.proofs.lemmas.Bool.Decides.{nat_tests}
use Rattle.std.specs.List.{flat_map, range_with_len, zip}
use Rattle.std.specs.List.Sorted.{IsPermutation, IsNonDecreasingBy, ties}
use Rattle.std.specs.Ordering.{nat_cmp, is_lt}
use Rattle.std.specs.declared.cmp.Ordering.TheVariants.{Less, Equal, Greater}
use Rattle.std.proofs.lemmas.Bool.{cases_lt, eqb-true}
use Rattle.lw_dag.specs.declared.order.Deep.{Deep}
use Rattle.lw_dag.specs.Ordering.{AreKeys, by_key, greatest}

above_from : (a b : ℕ) → (a == b) ≡ false → b ≤ a → b < a
above_from a b is le = grind (arith, nat_tests)

module _ {X : Type 0} (key : X → ℕ) where
  abbrev pub at : ℕ → List X → List X
  at d xs = filter (λ x. key x == d) xs

  abbrev pub keys_from : ℕ → ℕ → List X → List X
  keys_from low m xs = flat_map (λ d. at d xs) (range_with_len low m)

  keys_from-nil : (low m : ℕ) → keys_from low m [] ≡ []
  keys_from-nil low zero = refl
  keys_from-nil low (suc m) = keys_from-nil (low + 1) m

  -- below all numbers
  keys_from-skip : (low m : ℕ) (x : X) (xs : List X) → key x < low → keys_from low m (x ∷ xs) ≡ keys_from low m xs
  keys_from-skip low zero x xs below = refl
  keys_from-skip low (suc m) x xs below =
      ap₂ (λ a b. a ++ b) (by_test (key x == low) (grind (arith, nat_tests))) (keys_from-skip (low + 1) m x xs (omega arith))
    where
      by_test : (b : Bool) → b ≡ false → cond b (x ∷ at low xs) (at low xs) ≡ at low xs
      by_test false is = refl
      by_test true is = cc

  at-above : (low : ℕ) (xs : List X) → All (λ y. low < key y) xs → at low xs ≡ []
  at-above low [] all = refl
  at-above low (x ∷ xs) all =
      by_test (key x == low) (let above : low < key x = All-head (λ y. low < key y) x xs all in grind (arith, nat_tests)) (at-above low xs (All-tail (λ y. low < key y) x xs all))
    where
      by_test : (b : Bool) → b ≡ false → at low xs ≡ [] → cond b (x ∷ at low xs) (at low xs) ≡ []
      by_test false is none = none
      by_test true is none = cc

  -- the first of a sorted list
  keys_from-cons : (m low : ℕ) (x : X) (xs : List X) → low ≤ key x → key x < low + m → All (λ y. key x ≤ key y) xs → keys_from low m (x ∷ xs) ≡ x ∷ keys_from low m xs
  keys_from-cons zero low x xs above below all = absurd (omega arith)
  keys_from-cons (suc m) low x xs above below all = by_test (key x == low) refl (λ higher. keys_from-cons m (low + 1) x xs (omega arith) (omega arith) all)
    where
      first : key x ≡ low → (b : Bool) → b ≡ true → cond b (x ∷ at low xs) (at low xs) ++ keys_from (low + 1) m (x ∷ xs) ≡ x ∷ (at low xs ++ keys_from (low + 1) m xs)
      first same true is = ap (λ l. x ∷ (at low xs ++ l)) (keys_from-skip (low + 1) m x xs (omega arith))
      first same false is = cc

      later : low < key x → keys_from (low + 1) m (x ∷ xs) ≡ x ∷ keys_from (low + 1) m xs → (b : Bool) → b ≡ false → cond b (x ∷ at low xs) (at low xs) ++ keys_from (low + 1) m (x ∷ xs) ≡ x ∷ (at low xs ++ keys_from (low + 1) m xs)
      later higher rest false is =
          let none : at low xs ≡ [] = at-above low xs (All-weaker (λ y. key x ≤ key y) (λ y. low < key y) (λ y le. omega arith) xs all) in
          ap (λ l. l ++ keys_from (low + 1) m (x ∷ xs)) none ∙ (rest ∙ ap (λ l. x ∷ (l ++ keys_from (low + 1) m xs)) (sym none))
      later higher rest true is = cc

      by_test : (b : Bool) → (key x == low) ≡ b → (low < key x → keys_from (low + 1) m (x ∷ xs) ≡ x ∷ keys_from (low + 1) m xs) → keys_from low (suc m) (x ∷ xs) ≡ x ∷ keys_from low (suc m) xs
      by_test true is rest = let same : key x ≡ low = eqb-true (key x) low is in first same (key x == low) is
      by_test false is rest = let higher : low < key x = above_from (key x) low is above in later higher (rest higher) (key x == low) is

  pub keys_from-sorted : (m low : ℕ) (xs : List X) → All (λ x. low ≤ key x) xs → All (λ x. key x < low + m) xs → IsNonDecreasingBy key xs → keys_from low m xs ≡ xs
  keys_from-sorted m low [] above below up = keys_from-nil low m
  keys_from-sorted m low (x ∷ xs) above below up =
      keys_from-cons m low x xs (All-head (λ y. low ≤ key y) x xs above) (All-head (λ y. key y < low + m) x xs below) (λ k d lt. up 0 (suc k) d (omega arith) (omega arith))
      ∙ ap (λ l. x ∷ l) (keys_from-sorted m low xs (All-tail (λ y. low ≤ key y) x xs above) (All-tail (λ y. key y < low + m) x xs below) (λ i j d le lt. up (suc i) (suc j) d (omega arith) (omega arith)))

  -- lists of which filters keep the same
  pub keys_from-same : (m low : ℕ) (xs ys : List X) → ((d : ℕ) → at d xs ≡ at d ys) → keys_from low m xs ≡ keys_from low m ys
  keys_from-same zero low xs ys same = refl
  keys_from-same (suc m) low xs ys same = ap₂ (λ a b. a ++ b) (same low) (keys_from-same m (low + 1) xs ys same)

is_lt_cmp : (p q : Bool) → is_lt (cond p Less (cond q Equal Greater)) ≡ p
is_lt_cmp true q = refl
is_lt_cmp false true = refl
is_lt_cmp false false = refl

no_less : (a b : ℕ) → (a < b) ⊎ (b ≤ a) → (b < a) ⊎ (a ≤ b) → (not (nat_lt a b) && not (nat_lt b a)) ≡ (b == a)
no_less a b (inl lt) other =
    let less : nat_lt a b ≡ true = grind (arith, nat_tests) in
    let differ : (b == a) ≡ false = grind (arith, nat_tests) in
    ap (λ p. not p && not (nat_lt b a)) less ∙ sym differ
no_less a b (inr le) (inl lt) =
    let first : nat_lt a b ≡ false = grind (arith, nat_tests) in
    let less : nat_lt b a ≡ true = grind (arith, nat_tests) in
    let differ : (b == a) ≡ false = grind (arith, nat_tests) in
    ap₂ (λ p q. not p && not q) first less ∙ sym differ
no_less a b (inr le) (inr ge) =
    let first : nat_lt a b ≡ false = grind (arith, nat_tests) in
    let second : nat_lt b a ≡ false = grind (arith, nat_tests) in
    let same : (b == a) ≡ true = grind (arith, nat_tests) in
    ap₂ (λ p q. not p && not q) first second ∙ sym same

-- two numbers that tie
pub ties_is : (a b : ℕ) → (not (is_lt (nat_cmp a b)) && not (is_lt (nat_cmp b a))) ≡ (b == a)
ties_is a b = ap₂ (λ p q. not p && not q) (is_lt_cmp (nat_lt a b) (a == b)) (is_lt_cmp (nat_lt b a) (b == a)) ∙ no_less a b (cases_lt a b) (cases_lt b a)

-- one list is a stable copy of the other
pub stable_at : {T : Type 0} (k : ℕ) (xs ys : List (Deep T)) → IsPermutation xs ys → ((x : Deep T) → filter (ties (λ (a b : Deep T). is_lt (nat_cmp a.depth b.depth)) x) ys ≡ filter (ties (λ (a b : Deep T). is_lt (nat_cmp a.depth b.depth)) x) xs) → filter (λ (d : Deep T). d.depth == k) ys ≡ filter (λ (d : Deep T). d.depth == k) xs
stable_at {T} k [] ys moved stable = ap (filter (λ (d : Deep T). d.depth == k)) (nil_from_length ys (omega (arith, length_permutation [] ys moved)))
stable_at {T} k (e ∷ xs) ys moved stable =
    let x : Deep T = record { depth = k; item = e.item } in
    let test = ties (λ (a b : Deep T). is_lt (nat_cmp a.depth b.depth)) x in
    sym (filter_agree test (λ (d : Deep T). d.depth == k) (λ d. ties_is k d.depth) ys) ∙ (stable x ∙ filter_agree test (λ (d : Deep T). d.depth == k) (λ d. ties_is k d.depth) (e ∷ xs))

module _ {T : Type 0} where
  abbrev pub item_in : Deep T → T
  item_in deep = deep.item

  abbrev pub depth_in : Deep T → ℕ
  depth_in deep = deep.depth

  abbrev pub deep_from : (T × ℕ) → Deep T
  deep_from p = record { depth = p.1; item = p.0 }

  abbrev pub deeper : (T → ℕ) → T → Deep T
  deeper depth item = record { depth = depth item; item = item }

  -- entries with these depths
  zip_is_map : (depth : T → ℕ) (items : List T) (depths : List ℕ) → length items ≡ length depths → AreKeys depths items depth → map deep_from (zip items depths) ≡ map (deeper depth) items
  zip_is_map depth [] depths same tell = refl
  zip_is_map depth (item ∷ items) [] same tell = absurd (omega arith)
  zip_is_map depth (item ∷ items) (d ∷ depths) same tell =
      ap₂ (λ e es. e ∷ es) (ap (λ n. let e : Deep T = record { depth = n; item = item } in e) (tell 0 item (omega arith))) (zip_is_map depth items depths (omega arith) (λ k e lt. tell (suc k) e (omega arith)))

  filter_deeper : (depth : T → ℕ) (d : ℕ) (items : List T) → map item_in (at depth_in d (map (deeper depth) items)) ≡ at depth d items
  filter_deeper depth d [] = refl
  filter_deeper depth d (item ∷ items) = by_test (depth item == d) (filter_deeper depth d items)
    where
      by_test : (b : Bool) → map item_in (at depth_in d (map (deeper depth) items)) ≡ at depth d items → map item_in (cond b (deeper depth item ∷ at depth_in d (map (deeper depth) items)) (at depth_in d (map (deeper depth) items))) ≡ cond b (item ∷ at depth d items) (at depth d items)
      by_test true e = ap (λ l. item ∷ l) e
      by_test false e = e

  map_keys : (depth : T → ℕ) (items : List T) (low m : ℕ) → map item_in (keys_from depth_in low m (map (deeper depth) items)) ≡ keys_from depth low m items
  map_keys depth items low zero = refl
  map_keys depth items low (suc m) =
      map-append item_in (at depth_in low (map (deeper depth) items)) (keys_from depth_in (low + 1) m (map (deeper depth) items))
      ∙ ap₂ (λ a b. a ++ b) (filter_deeper depth low items) (map_keys depth items (low + 1) m)

  -- no depth is above the greatest
  pub greatest-above : (f : T → ℕ) (items : List T) → All (λ item. f item ≤ greatest (map f items)) items
  greatest-above f items = λ k d lt. at_place items k d lt
    where
      at_place : (ns : List T) (k : ℕ) (d : T) → k < length ns → f (get_or ns k d) ≤ greatest (map f ns)
      at_place [] k d lt = absurd (omega arith)
      at_place (n ∷ ns) zero d lt = omega arith
      at_place (n ∷ ns) (suc k) d lt = omega (arith, at_place ns k d (omega arith))

  -- a sorted copy is the order by depth
  sorted_is_by_key : (depth : T → ℕ) (items : List T) (sorted : List (Deep T)) → All (λ item. 1 ≤ depth item) items → IsPermutation (map (deeper depth) items) sorted → IsNonDecreasingBy depth_in sorted → ((k : ℕ) → at depth_in k sorted ≡ at depth_in k (map (deeper depth) items)) → map item_in sorted ≡ by_key depth items
  sorted_is_by_key depth items sorted least moved up stable =
      let m = greatest (map depth items) in
      let above : All (λ (e : Deep T). 1 ≤ e.depth) sorted = All-permutation (λ (e : Deep T). 1 ≤ e.depth) (map (deeper depth) items) sorted moved (All-map (λ (e : Deep T). 1 ≤ e.depth) (deeper depth) items least) in
      let within : All (λ (e : Deep T). e.depth < 1 + m) sorted = All-permutation (λ (e : Deep T). e.depth < 1 + m) (map (deeper depth) items) sorted moved (All-map (λ (e : Deep T). e.depth < 1 + m) (deeper depth) items (All-weaker (λ n. depth n ≤ m) (λ n. depth n < 1 + m) (λ n le. omega arith) items (greatest-above depth items))) in
      ap (map item_in) (sym (keys_from-sorted depth_in m 1 sorted above within up) ∙ keys_from-same depth_in m 1 sorted (map (deeper depth) items) stable)
      ∙ map_keys depth items 1 m

  items_of_zip : (items : List T) (depths : List ℕ) → length items ≡ length depths → map item_in (map deep_from (zip items depths)) ≡ items
  items_of_zip [] depths same = refl
  items_of_zip (item ∷ items) [] same = absurd (omega arith)
  items_of_zip (item ∷ items) (d ∷ depths) same = ap (λ l. item ∷ l) (items_of_zip items depths (omega arith))

  zip_none : (items : List T) → ◌≡◌ {A = List (T × ℕ)} (zip items []) []
  zip_none [] = refl
  zip_none (item ∷ items) = refl

  -- where no depth is left
  pub zip_ends : (deep : List (Deep T)) (left : List T) (depths : List ℕ) (i : ℕ) (whole : List (Deep T)) → length depths ≤ i → deep ++ map deep_from (zip left (drop i depths)) ≡ whole → deep ≡ whole
  zip_ends deep left depths i whole past is =
      sym (append-nil deep) ∙ (ap (λ l. deep ++ map deep_from l) (sym (ap (zip left) (drop_all i depths past) ∙ zip_none left)) ∙ is)

  -- where no entry is left
  pub zip_ends_early : (deep : List (Deep T)) (left : List T) (depths : List ℕ) (whole : List (Deep T)) → left ≡ [] → deep ++ map deep_from (zip left depths) ≡ whole → deep ≡ whole
  zip_ends_early deep left depths whole none is =
      sym (append-nil deep) ∙ (ap (λ l. deep ++ map deep_from (zip l depths)) (sym none) ∙ is)

  -- one entry more has its depth
  pub zip_more : (deep now : List (Deep T)) (left rest : List T) (item : T) (depths : List ℕ) (i : ℕ) (whole : List (Deep T)) → i < length depths → left ≡ item ∷ rest → now ≡ deep ++ deep_from (item, get_or depths i 0) ∷ [] → deep ++ map deep_from (zip left (drop i depths)) ≡ whole → now ++ map deep_from (zip rest (drop (i + 1) depths)) ≡ whole
  zip_more deep now left rest item depths i whole below taken grown is =
      ap (λ l. l ++ map deep_from (zip rest (drop (i + 1) depths))) grown
      ∙ (append_assoc deep (deep_from (item, get_or depths i 0) ∷ []) (map deep_from (zip rest (drop (i + 1) depths)))
      ∙ (sym (ap₂ (λ l ds. deep ++ map deep_from (zip l ds)) taken (drop_more depths i 0 below)) ∙ is))

-- what follows of the value in an `Ok`
pub ok_then : {T E : Type 0} (r : Result T E) {P Q : T → Type 0} → IfOk r P → ((x : T) → P x → Q x) → IfOk r Q
ok_then (Ok x) p f = f x p
ok_then (Err e) p f = tt

module _ {T : Type 0} (items : List T) (depths : List ℕ) (deep sorted : List (Deep T)) (same : length items ≡ length depths) (made : deep ≡ map deep_from (zip items depths)) (moved : IsPermutation deep sorted) where
  pub order_permutation : (order : List T) → order ≡ map item_in sorted → IsPermutation items order
  order_permutation order is =
      subst (IsPermutation items) (sym is) (subst (λ l. IsPermutation l (map item_in sorted)) (ap (map item_in) made ∙ items_of_zip items depths same) (IsPermutation-map item_in deep sorted moved))

  module _ (depth : T → ℕ) (tell : AreKeys depths items depth) (up : IsNonDecreasingBy depth_in sorted) where
    is_deeper : deep ≡ map (deeper depth) items
    is_deeper = made ∙ zip_is_map depth items depths same tell

    abbrev agrees : Deep T → Type 0
    agrees e = e.depth ≡ depth e.item

    all_agree : All agrees sorted
    all_agree = All-permutation agrees deep sorted moved (subst (All agrees) (sym is_deeper) (All-map agrees (deeper depth) items (λ k d lt. refl)))

    pub order_rising : (order : List T) → order ≡ map item_in sorted → IsNonDecreasingBy depth order
    order_rising order is = subst (IsNonDecreasingBy depth) (sym is) rising
      where
        at_place : (k : ℕ) (d : T) → k < length sorted → depth (get_or (map item_in sorted) k d) ≡ (get_or sorted k (deeper depth d)).depth
        at_place k d lt = ap depth (get_or-map item_in sorted k (deeper depth d) d lt) ∙ sym (all_agree k (deeper depth d) lt)

        rising : IsNonDecreasingBy depth (map item_in sorted)
        rising i j d le lt =
            let in_sorted : j < length sorted = omega (arith, length-map sorted item_in) in
            omega (arith, at_place i d (omega arith), at_place j d in_sorted, up i j (deeper depth d) le in_sorted)

    pub order_by_depth : All (λ d. 1 ≤ d) depths → ((k : ℕ) → at depth_in k sorted ≡ at depth_in k deep) → (order : List T) → order ≡ map item_in sorted → order ≡ by_key depth items
    order_by_depth least stable order is =
        is ∙ sorted_is_by_key depth items sorted (λ k d lt. subst (λ n. 1 ≤ n) (tell k d lt) (least k 0 (omega arith))) (subst (λ l. IsPermutation l sorted) is_deeper moved) up (λ k. stable k ∙ ap (at depth_in k) is_deeper)
