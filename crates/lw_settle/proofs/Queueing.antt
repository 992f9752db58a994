-- The tree of a queue: its first node is the least leaf, and what a write to a leaf leaves.
use Rattle.std.proofs.Common.{ℕ, zero, suc, ◌+◌, ◌-◌, ◌*◌, ◌/◌, ◌%◌, ◌<◌, ◌≤◌, ◌≡◌, ◌≢◌, ◌⊎◌, true, false, eqb, ltb, ◌&&◌, List, length, map, drop, replicate, get_or, set, Option, Some, None, slice_get, refl, ap, ap₂, sym, ◌∙◌, subst, subst₂, option_map, inl, inr, arith}
use Rattle.std.proofs.lemmas.Bool.{cases_lt, cases_eq, cases_order, cases_Bool, cond_both, cond-true, cond-false, eq-eqb, ne_eqb, eqb-true, eqb-false, ltb-true, ltb-false, or_cases, or_parts, and_parts, and_cases}
use Rattle.std.proofs.lemmas.List.{length-map, length-drop, length-replicate, get_or-drop, get_or-map, get_or-set_same, get_or-set_other, get_or_past, map-set, get_or-replicate, ext_get_or}
use Rattle.std.proofs.lemmas.Option.{slice_get-map, slice_get-get_or, same_Some}
use Rattle.lw_laws.specs.Marks.{IsMarkAtMost}
use Rattle.lw_cost.specs.declared.mark.Mark.{Mark}
use Rattle.lw_cost.specs.Values.{plain_mark}
use Rattle.lw_settle.specs.declared.entry.Entry.{Entry}
use Rattle.lw_settle.specs.declared.queue.Taken.{Taken}
use Rattle.lw_settle.specs.Queues.{no_cost, no_height, no_entry, mark_of, is_before, lesser, node, IsWonAt, AreWonBut, IsLeafOf, IsTree, waiting, AreNone, IsFirst, IsLowered}

-- less cost, or the same and no more height
pub data IsAtMost (a b : Entry) : Type 0 where
  cheaper : a.cost < b.cost → IsAtMost a b
  lower : a.cost ≡ b.cost → a.height ≤ b.height → IsAtMost a b

itself : (a : Entry) → IsAtMost a a
itself a = lower refl (omega arith)

at_most_more : (a b c : Entry) → IsAtMost a b → IsAtMost b c → IsAtMost a c
at_most_more a b c (cheaper l) (cheaper m) = cheaper (omega arith)
at_most_more a b c (cheaper l) (lower e h) = cheaper (omega arith)
at_most_more a b c (lower e h) (cheaper m) = cheaper (omega arith)
at_most_more a b c (lower e h) (lower f k) = lower (e ∙ f) (omega arith)

before_is : (b a : Entry) → is_before b a ≡ true → IsAtMost b a
before_is b a e = by (or_cases (ltb b.cost a.cost) (eqb b.cost a.cost && ltb b.height a.height) e)
  where
    by : (ltb b.cost a.cost ≡ true) ⊎ ((eqb b.cost a.cost && ltb b.height a.height) ≡ true) → IsAtMost b a
    by (inl l) = cheaper (ltb-true b.cost a.cost l)
    by (inr h) =
        let (same, less) = and_parts (eqb b.cost a.cost) (ltb b.height a.height) h in
        lower (eqb-true b.cost a.cost same) (omega (arith, ltb-true b.height a.height less))

not_before : (b a : Entry) → is_before b a ≡ false → IsAtMost a b
not_before b a e =
    let (no_less, no_tie) = or_parts (ltb b.cost a.cost) (eqb b.cost a.cost && ltb b.height a.height) e in
    by (ltb-false b.cost a.cost no_less) (and_cases (eqb b.cost a.cost) (ltb b.height a.height) no_tie)
  where
    by : a.cost ≤ b.cost → (eqb b.cost a.cost ≡ false) ⊎ (ltb b.height a.height ≡ false) → IsAtMost a b
    by le (inl ne) = let other = eqb-false b.cost a.cost ne in cheaper (by_order (cases_order a.cost b.cost) other le)
      where
        by_order : (a.cost ≡ b.cost) ⊎ ((a.cost < b.cost) ⊎ (b.cost < a.cost)) → (b.cost ≡ a.cost → ⊥) → a.cost ≤ b.cost → a.cost < b.cost
        by_order (inl s) other le = absurd (other (sym s))
        by_order (inr (inl l)) other le = l
        by_order (inr (inr l)) other le = absurd (omega arith)
    by le (inr not_less) = by_cost (cases_order a.cost b.cost) le (ltb-false b.height a.height not_less)
      where
        by_cost : (a.cost ≡ b.cost) ⊎ ((a.cost < b.cost) ⊎ (b.cost < a.cost)) → a.cost ≤ b.cost → a.height ≤ b.height → IsAtMost a b
        by_cost (inl s) le h = lower s h
        by_cost (inr (inl l)) le h = cheaper l
        by_cost (inr (inr l)) le h = absurd (omega arith)

lesser_left : (a b : Entry) → IsAtMost (lesser a b) a
lesser_left a b = cond_both (is_before b a) b a (λ e. IsAtMost e a) (before_is b a) (λ f. itself a)

lesser_right : (a b : Entry) → IsAtMost (lesser a b) b
lesser_right a b = cond_both (is_before b a) b a (λ e. IsAtMost e b) (λ t. itself b) (not_before b a)

lesser_is : (a b : Entry) → (lesser a b ≡ a) ⊎ (lesser a b ≡ b)
lesser_is a b = cond_both (is_before b a) b a (λ e. (e ≡ a) ⊎ (e ≡ b)) (λ t. inr refl) (λ f. inl refl)

-- entries as marks
pub at_most_marks : (a b : Entry) (k j : Mark) → IsAtMost a b → k.cost ≡ a.cost → k.height ≡ a.height → j.cost ≡ b.cost → j.height ≡ b.height → IsMarkAtMost (plain_mark k) (plain_mark j)
at_most_marks a b k j (cheaper l) c h d i = record { cost = omega arith; height = λ e. absurd (omega arith) }
at_most_marks a b k j (lower s l) c h d i = record { cost = omega arith; height = λ e. omega arith }

pub some_mark : (e : Entry) (k : Mark) → mark_of e ≡ Some k → (k.cost ≡ e.cost) × (k.height ≡ e.height) × (e.height ≢ no_height)
some_mark e k f = by (cases_Bool (eqb e.height no_height))
  where
    by : (eqb e.height no_height ≡ true) ⊎ (eqb e.height no_height ≡ false) → (k.cost ≡ e.cost) × (k.height ≡ e.height) × (e.height ≢ no_height)
    by (inl t) =
        let none : mark_of e ≡ None = cond-true {A = Option Mark} (eqb e.height no_height) None (Some (record { cost = e.cost; height = e.height })) t in
        absurd (cc)
    by (inr n) =
        let some : mark_of e ≡ Some (record { cost = e.cost; height = e.height }) = cond-false {A = Option Mark} (eqb e.height no_height) None (Some (record { cost = e.cost; height = e.height })) n in
        let made : Mark = record { cost = e.cost; height = e.height } in
        let same : made ≡ k = same_Some made k (sym some ∙ f) in
        (sym (ap (λ (m : Mark). m.cost) same), sym (ap (λ (m : Mark). m.height) same), eqb-false e.height no_height n)

pub mark_there : (e : Entry) → e.height ≢ no_height → mark_of e ≡ Some (record { cost = e.cost; height = e.height })
mark_there e ne =
    cond-false {A = Option Mark} (eqb e.height no_height) None (Some (record { cost = e.cost; height = e.height })) (ne_eqb e.height no_height ne)

pub mark_none : (e : Entry) → e.height ≡ no_height → mark_of e ≡ None
mark_none e s =
    cond-true {A = Option Mark} (eqb e.height no_height) None (Some (record { cost = e.cost; height = e.height })) (eq-eqb e.height no_height s)

module _ (n : ℕ) (tree : List Entry) (is : IsTree n tree) where
  -- no node is before the first
  root_at_most : (fuel j : ℕ) → j ≤ fuel → 0 < j → j < 2 * n → IsAtMost (node tree 1) (node tree j)
  root_at_most zero j le pos lt = absurd (omega arith)
  root_at_most (suc fuel) j le pos lt = by (cases_eq j 1) (root_at_most fuel (j / 2))
    where
      below : (j ≢ 1) → IsAtMost (node tree 1) (node tree (j / 2)) → (j % 2 ≡ 0) ⊎ (j % 2 ≡ 0 → ⊥) → IsAtMost (node tree 1) (node tree j)
      below ne up (inl even) =
          let at : 2 * (j / 2) ≡ j = omega arith in
          let won = is.won (j / 2) (omega arith) (omega arith) (λ e. omega arith) in
          subst (λ k. IsAtMost (node tree 1) (node tree k)) at (at_most_more (node tree 1) (node tree (j / 2)) (node tree (2 * (j / 2))) up (subst (λ e. IsAtMost e (node tree (2 * (j / 2)))) (sym won) (lesser_left (node tree (2 * (j / 2))) (node tree (2 * (j / 2) + 1)))))
      below ne up (inr odd) =
          let at : 2 * (j / 2) + 1 ≡ j = odd_is (cases_order (j % 2) 1) in
          let won = is.won (j / 2) (omega arith) (omega arith) (λ e. omega arith) in
          subst (λ k. IsAtMost (node tree 1) (node tree k)) at (at_most_more (node tree 1) (node tree (j / 2)) (node tree (2 * (j / 2) + 1)) up (subst (λ e. IsAtMost e (node tree (2 * (j / 2) + 1))) (sym won) (lesser_right (node tree (2 * (j / 2))) (node tree (2 * (j / 2) + 1)))))
        where
          odd_is : (j % 2 ≡ 1) ⊎ ((j % 2 < 1) ⊎ (1 < j % 2)) → 2 * (j / 2) + 1 ≡ j
          odd_is (inl one) = omega arith
          odd_is (inr (inl less)) = absurd (odd (omega arith))
          odd_is (inr (inr more)) = absurd (omega arith)

      by : (j ≡ 1) ⊎ (j ≡ 1 → ⊥) → (j / 2 ≤ fuel → 0 < j / 2 → j / 2 < 2 * n → IsAtMost (node tree 1) (node tree (j / 2))) → IsAtMost (node tree 1) (node tree j)
      by (inl e) up = subst (λ k. IsAtMost (node tree 1) (node tree k)) (sym e) (itself (node tree 1))
      by (inr ne) up = below ne (up (omega arith) (omega arith) (omega arith)) (cases_eq (j % 2) 0)

  -- each node is a leaf's
  node_is_leaf : (fuel i : ℕ) → 2 * n ≤ i + fuel → 0 < i → i < 2 * n → (c : ℕ) × (c < n) × (node tree i ≡ node tree (n + c))
  node_is_leaf zero i le pos lt = absurd (omega arith)
  node_is_leaf (suc fuel) i le pos lt = by (cases_lt i n) (node_is_leaf fuel (2 * i)) (node_is_leaf fuel (2 * i + 1))
    where
      by : (i < n) ⊎ (n ≤ i) → (2 * n ≤ 2 * i + fuel → 0 < 2 * i → 2 * i < 2 * n → (c : ℕ) × (c < n) × (node tree (2 * i) ≡ node tree (n + c))) → (2 * n ≤ 2 * i + 1 + fuel → 0 < 2 * i + 1 → 2 * i + 1 < 2 * n → (c : ℕ) × (c < n) × (node tree (2 * i + 1) ≡ node tree (n + c))) → (c : ℕ) × (c < n) × (node tree i ≡ node tree (n + c))
      by (inr ge) left right = let at : n + (i - n) ≡ i = omega arith in (i - n, omega arith, ap (node tree) (sym at))
      by (inl less) left right =
          let won = is.won i pos less (λ e. omega arith) in
          by_child won (lesser_is (node tree (2 * i)) (node tree (2 * i + 1))) (left (omega arith) (omega arith) (omega arith)) (right (omega arith) (omega arith) (omega arith))
        where
          by_child : IsWonAt tree i → (lesser (node tree (2 * i)) (node tree (2 * i + 1)) ≡ node tree (2 * i)) ⊎ (lesser (node tree (2 * i)) (node tree (2 * i + 1)) ≡ node tree (2 * i + 1)) → (c : ℕ) × (c < n) × (node tree (2 * i) ≡ node tree (n + c)) → (c : ℕ) × (c < n) × (node tree (2 * i + 1) ≡ node tree (n + c)) → (c : ℕ) × (c < n) × (node tree i ≡ node tree (n + c))
          by_child won (inl e) (c, lt, f) r = (c, lt, won ∙ (e ∙ f))
          by_child won (inr e) l (c, lt, f) = (c, lt, won ∙ (e ∙ f))

  leaf_at_most : (c : ℕ) → c < n → IsAtMost (node tree 1) (node tree (n + c))
  leaf_at_most c lt = root_at_most (n + c) (n + c) (omega arith) (omega arith) (omega arith)

  root_leaf : (c : ℕ) × (c < n) × (node tree 1 ≡ node tree (n + c))
  root_leaf = node_is_leaf (2 * n) 1 (omega arith) (omega arith) (omega (arith, is.some))

  length-leaves : length (drop n tree) ≡ n
  length-leaves = omega (arith, length-drop n tree, is.long)

  pub length-waiting : length (waiting n tree) ≡ n
  length-waiting = length-map (drop n tree) mark_of ∙ length-leaves

  pub waits : (c : ℕ) → c < n → get_or (waiting n tree) c None ≡ mark_of (node tree (n + c))
  waits c lt =
      get_or-map mark_of (drop n tree) c no_entry None (omega (arith, length-leaves)) ∙ ap mark_of (get_or-drop n tree c no_entry)

  -- the class of the first node
  pub root_class : ((node tree 1).class < n) × (node tree 1 ≡ node tree (n + (node tree 1).class))
  root_class =
      let (c, lt, e) = root_leaf in
      let same : (node tree 1).class ≡ c = ap (λ (x : Entry). x.class) e ∙ (is.leaves c lt).class in
      (omega arith, e ∙ ap (λ k. node tree (n + k)) (sym same))

  pub is_first : (t : Taken) → (node tree 1).height ≢ no_height → t.class.0 ≡ (node tree 1).class → t.mark ≡ record { cost = (node tree 1).cost; height = (node tree 1).height } → IsFirst (waiting n tree) t
  is_first t ne class mark =
      let (lt, e) = root_class in
      let below : (node tree 1).class < length (drop n tree) = omega (arith, length-leaves) in
      let there = slice_get-map mark_of (drop n tree) (node tree 1).class ∙ (ap (λ o. option_map mark_of o) (slice_get-get_or (drop n tree) (node tree 1).class no_entry below) ∙ ap (λ x. Some (mark_of x)) (get_or-drop n tree (node tree 1).class no_entry ∙ sym e)) in
      record {
        at = ap (slice_get (waiting n tree)) class ∙ (there ∙ (ap Some (mark_there (node tree 1) ne) ∙ ap (λ m. Some (Some m)) (sym mark)));
        least = λ c k f. first_least c k f (cases_lt c n);
      }
    where
      first_least : (c : ℕ) (k : Mark) → get_or (waiting n tree) c None ≡ Some k → (c < n) ⊎ (n ≤ c) → IsMarkAtMost (plain_mark t.mark) (plain_mark k)
      first_least c k f (inl lt) =
          let (cost, height, there) = some_mark (node tree (n + c)) k (sym (waits c lt) ∙ f) in
          at_most_marks (node tree 1) (node tree (n + c)) t.mark k (leaf_at_most c lt) (ap (λ (m : Mark). m.cost) mark) (ap (λ (m : Mark). m.height) mark) cost height
      first_least c k f (inr ge) =
          let none = get_or_past (waiting n tree) c None (omega (arith, length-waiting)) in
          absurd (cc)

  pub none_waits : (node tree 1).height ≡ no_height → AreNone (waiting n tree)
  none_waits e c = by (cases_lt c n)
    where
      root_cost : (node tree 1).cost ≡ no_cost
      root_cost =
          let (c, lt, f) = root_leaf in
          let high : (node tree (n + c)).height ≡ no_height = sym (ap (λ (x : Entry). x.height) f) ∙ e in
          ap (λ (x : Entry). x.cost) f ∙ (is.leaves c lt).none high

      same_height : (leaf : Entry) → IsAtMost (node tree 1) leaf → leaf.cost ≤ no_cost → leaf.height ≤ no_height → leaf.height ≡ no_height
      same_height leaf (cheaper l) c h = absurd (omega (arith, root_cost))
      same_height leaf (lower s l) c h = omega arith

      by : (c < n) ⊎ (n ≤ c) → get_or (waiting n tree) c None ≡ None
      by (inl lt) =
          let leaf = is.leaves c lt in
          waits c lt ∙ mark_none (node tree (n + c)) (same_height (node tree (n + c)) (leaf_at_most c lt) leaf.cost leaf.height)
      by (inr ge) = get_or_past (waiting n tree) c None (omega (arith, length-waiting))

  -- a leaf with another entry
  pub tree_set : (new : List Entry) (class : ℕ) (entry : Entry) → length new ≡ length tree → AreWonBut n new 0 → drop n new ≡ set (drop n tree) class entry → IsLeafOf entry class → class < n → IsTree n new
  tree_set new class entry long won leaves leaf lt = record {
    some = is.some;
    few = is.few;
    long = long ∙ is.long;
    won = won;
    leaves = λ c below. leaf_at c below (cases_eq c class);
  }
    where
      node_is : (c : ℕ) → node new (n + c) ≡ get_or (set (drop n tree) class entry) c no_entry
      node_is c = sym (get_or-drop n new c no_entry) ∙ ap (λ xs. get_or xs c no_entry) leaves

      leaf_at : (c : ℕ) → c < n → (c ≡ class) ⊎ (c ≡ class → ⊥) → IsLeafOf (node new (n + c)) c
      leaf_at c below (inl same) =
          let there = node_is c ∙ (ap (λ k. get_or (set (drop n tree) class entry) k no_entry) same ∙ get_or-set_same (drop n tree) class entry no_entry (omega (arith, length-leaves))) in
          subst₂ (λ x k. IsLeafOf x k) (sym there) (sym same) leaf
      leaf_at c below (inr ne) =
          let there = node_is c ∙ (get_or-set_other (drop n tree) class c entry no_entry ne ∙ get_or-drop n tree c no_entry) in
          subst (λ x. IsLeafOf x c) (sym there) (is.leaves c below)

  pub waiting_set : (new : List Entry) (class : ℕ) (entry : Entry) → drop n new ≡ set (drop n tree) class entry → waiting n new ≡ set (waiting n tree) class (mark_of entry)
  waiting_set new class entry leaves = ap (map mark_of) leaves ∙ map-set mark_of (drop n tree) class entry

  -- a class that waits with a lesser mark
  pub offer_lowers : (new : List Entry) (class : ℕ) (entry : Entry) (k : Mark) → class < n → drop n new ≡ set (drop n tree) class entry → mark_of entry ≡ Some k → k.cost ≡ entry.cost → k.height ≡ entry.height → is_before entry (node tree (n + class)) ≡ true → IsLowered (waiting n tree) (waiting n new) class k
  offer_lowers new class entry k lt leaves some cost height before =
      inl (
        waiting_set new class entry leaves ∙ ap (set (waiting n tree) class) some,
        λ j e. let (jc, jh, there) = some_mark (node tree (n + class)) j (sym (waits class lt) ∙ e) in at_most_marks entry (node tree (n + class)) k j (before_is entry (node tree (n + class)) before) cost height jc jh,
      )

  kept_height : (entry leaf : Entry) → IsAtMost leaf entry → entry.cost ≤ no_cost → entry.height < no_height → (leaf.height ≡ no_height → leaf.cost ≡ no_cost) → leaf.height ≢ no_height
  kept_height entry leaf (cheaper l) c h none e = let s = none e in omega arith
  kept_height entry leaf (lower s l) c h none e = omega arith

  pub offer_keeps : (class : ℕ) (entry : Entry) (k : Mark) → class < n → entry.cost ≤ no_cost → entry.height < no_height → k.cost ≡ entry.cost → k.height ≡ entry.height → is_before entry (node tree (n + class)) ≡ false → IsLowered (waiting n tree) (waiting n tree) class k
  offer_keeps class entry k lt low high cost height before =
      let leaf = node tree (n + class) in
      let most = not_before entry leaf before in
      let ne = kept_height entry leaf most low high (is.leaves class lt).none in
      let j : Mark = record { cost = leaf.cost; height = leaf.height } in
      inr (refl, (j, waits class lt ∙ mark_there leaf ne, at_most_marks leaf entry j k most refl refl cost height))

-- a node keeps where neither it nor one below it is written
won_kept : (tree : List Entry) (at i : ℕ) (entry : Entry) → i ≢ at → 2 * i ≢ at → 2 * i + 1 ≢ at → IsWonAt tree i → IsWonAt (set tree at entry) i
won_kept tree at i entry a b c won =
    get_or-set_other tree at i entry no_entry a ∙ (won ∙ sym (ap₂ lesser (get_or-set_other tree at (2 * i) entry no_entry b) (get_or-set_other tree at (2 * i + 1) entry no_entry c)))

pub won_step : (n at : ℕ) (tree : List Entry) (entry : Entry) → 0 < at → at < n → length tree ≡ 2 * n → entry ≡ lesser (node tree (2 * at)) (node tree (2 * at + 1)) → AreWonBut n tree at → AreWonBut n (set tree at entry) (at / 2)
won_step n at tree entry pos lt long is won i ipos ilt but = by (cases_eq i at)
  where
    by : (i ≡ at) ⊎ (i ≡ at → ⊥) → IsWonAt (set tree at entry) i
    by (inl same) =
        let here : node (set tree at entry) at ≡ entry = get_or-set_same tree at entry no_entry (omega arith) in
        let one : node (set tree at entry) (2 * at) ≡ node tree (2 * at) = get_or-set_other tree at (2 * at) entry no_entry (λ e. omega arith) in
        let two : node (set tree at entry) (2 * at + 1) ≡ node tree (2 * at + 1) = get_or-set_other tree at (2 * at + 1) entry no_entry (λ e. omega arith) in
        subst (IsWonAt (set tree at entry)) (sym same) (here ∙ (is ∙ sym (ap₂ lesser one two)))
    by (inr ne) = won_kept tree at i entry ne (λ e. but (omega arith)) (λ e. but (omega arith)) (won i ipos ilt ne)

-- each leaf behind a write to one
pub leaf_after : (n class c : ℕ) (tree new : List Entry) (entry : Entry) → length tree ≡ 2 * n → class < n → drop n new ≡ set (drop n tree) class entry → ((c ≡ class) × (node new (n + c) ≡ entry)) ⊎ ((c ≡ class → ⊥) × (node new (n + c) ≡ node tree (n + c)))
leaf_after n class c tree new entry long lt leaves = by (cases_eq c class)
  where
    node_is : node new (n + c) ≡ get_or (set (drop n tree) class entry) c no_entry
    node_is = sym (get_or-drop n new c no_entry) ∙ ap (λ xs. get_or xs c no_entry) leaves

    by : (c ≡ class) ⊎ (c ≡ class → ⊥) → ((c ≡ class) × (node new (n + c) ≡ entry)) ⊎ ((c ≡ class → ⊥) × (node new (n + c) ≡ node tree (n + c)))
    by (inl same) =
        inl (same, node_is ∙ (ap (λ k. get_or (set (drop n tree) class entry) k no_entry) same ∙ get_or-set_same (drop n tree) class entry no_entry (omega (arith, length-drop n tree))))
    by (inr ne) =
        inr (ne, node_is ∙ (get_or-set_other (drop n tree) class c entry no_entry ne ∙ get_or-drop n tree c no_entry))

pub none_after : (n class : ℕ) (tree new : List Entry) (entry : Entry) → length tree ≡ 2 * n → class < n → drop n new ≡ set (drop n tree) class entry → mark_of entry ≡ None → ((c : ℕ) → c < n → mark_of (node tree (n + c)) ≡ None) → (c : ℕ) → c < n → mark_of (node new (n + c)) ≡ None
none_after n class tree new entry long lt leaves none all c below = by (leaf_after n class c tree new entry long lt leaves)
  where
    by : ((c ≡ class) × (node new (n + c) ≡ entry)) ⊎ ((c ≡ class → ⊥) × (node new (n + c) ≡ node tree (n + c))) → mark_of (node new (n + c)) ≡ None
    by (inl (s, e)) = ap mark_of e ∙ none
    by (inr (ne, e)) = ap mark_of e ∙ all c below

pub leaves_after : (n class : ℕ) (tree new : List Entry) (entry : Entry) → length tree ≡ 2 * n → class < n → drop n new ≡ set (drop n tree) class entry → IsLeafOf entry class → ((c : ℕ) → c < class → IsLeafOf (node tree (n + c)) c) → (c : ℕ) → c < class + 1 → IsLeafOf (node new (n + c)) c
leaves_after n class tree new entry long lt leaves leaf all c below = by (leaf_after n class c tree new entry long lt leaves)
  where
    by : ((c ≡ class) × (node new (n + c) ≡ entry)) ⊎ ((c ≡ class → ⊥) × (node new (n + c) ≡ node tree (n + c))) → IsLeafOf (node new (n + c)) c
    by (inl (s, e)) = subst₂ (λ x k. IsLeafOf x k) (sym e) (sym s) leaf
    by (inr (ne, e)) = subst (λ x. IsLeafOf x c) (sym e) (all c (less (cases_order c class)))
      where
        less : (c ≡ class) ⊎ ((c < class) ⊎ (class < c)) → c < class
        less (inl s) = absurd (ne s)
        less (inr (inl l)) = l
        less (inr (inr m)) = absurd (omega arith)

pub all_none : (n : ℕ) (tree : List Entry) → length tree ≡ 2 * n → ((c : ℕ) → c < n → mark_of (node tree (n + c)) ≡ None) → waiting n tree ≡ replicate n None
all_none n tree long none =
    let leaves : length (drop n tree) ≡ n = omega (arith, length-drop n tree) in
    let size = length-map (drop n tree) mark_of ∙ leaves in
    ext_get_or None (waiting n tree) (replicate n None) (size ∙ sym (length-replicate n None)) (λ c lt.
    let below : c < n = omega arith in
    get_or-map mark_of (drop n tree) c no_entry None (omega arith) ∙ (ap mark_of (get_or-drop n tree c no_entry) ∙ (none c below ∙ sym (get_or-replicate n c None None below))))
