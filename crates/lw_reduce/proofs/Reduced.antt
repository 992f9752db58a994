-- The graph of settled representatives: its classes, its pairs, and what its type keeps.
use Rattle.std.proofs.Common.{ℕ, ◌+◌, ◌*◌, ◌/◌, ◌<◌, ◌≡◌, ◌^◌, ◌⊎◌, ◌↔◌, inl, inr, min, max, Bool, List, [], length, map, filter, get_or, All, Contains, refl, ap, sym, ◌∙◌, subst, subst₂, arith}
use Rattle.std.specs.List.{slice_get}
use Rattle.std.specs.Prelude.{Some, slice_index_or}
use Rattle.std.proofs.lemmas.List.Elements.{All-contains, Contains-get_or}
use Rattle.std.proofs.lemmas.Bool.{eqb-true, eq-eqb}
use Rattle.lw_facts.proofs.Numbers.{min_max_cases}
use Rattle.lw_facts.proofs.Lists.{contains_map, contained_in_map}
use Rattle.lw_laws.specs.Drafts.{Draft as PlainDraft, FormLink, NandFact, IsReduced, facts_of}
use Rattle.lw_laws.specs.Encodings.{HasNand}
use Rattle.lw_laws.specs.Families.{IsNand, Equivalent}
use Rattle.lw_laws.specs.Families.Equivalent.{linked}
use Rattle.lw_laws.specs.Graphs.{Graph as PlainGraph, Pair as PlainPair, AreRising, HoldsPair, PairsInOneClass, class_of, pair_count}
use Rattle.lw_laws.proofs.Drafts.{Equivalent-weaker}
use Rattle.lw_graph.specs.Graphs.{IsBelow}
use Rattle.lw_reduce.specs.declared.facts.Fact.{Fact}
use Rattle.lw_reduce.specs.declared.facts.Link.{Link}
use Rattle.lw_reduce.specs.ClassNumbers.{AreClasses}
use Rattle.lw_reduce.specs.Drafting.{plain_draft, plain_fact, plain_link}
use Rattle.lw_reduce.specs.Representatives.{IsFactIn, family, rep_of}
use Rattle.lw_reduce.specs.Rows.{IsOrdered}
use Rattle.lw_reduce.specs.Settling.{AreSettled, canonical_fact}
use Rattle.lw_reduce.specs.Buckets.{of_class, pair_of}
use Rattle.lw_reduce.proofs.Closed.{agree, min_max_same, min_max_exchanged, same_rep_iff}
use Rattle.lw_reduce.proofs.Members.{filter_in, filter_back}
use Rattle.lw_reduce.proofs.Roots.{IsRoot, class_of_rep, class_once, class_below}
use Rattle.lw_reduce.proofs.SettledFacts.{fact_is}

abbrev pub pairs_of : List Fact → List PlainPair
pairs_of rows = map (λ (r : Fact). record { x = r.left; y = r.right }) rows

module _ (n : ℕ) (nands : List Fact) (links : List Link) (reps : List ℕ) (is : AreSettled n nands links reps) (few : n < 2 ^ 31) (forms : List ℕ) (are : AreClasses reps forms) (count : length forms ≡ n) where
  abbrev entries : List Fact
  entries = map (canonical_fact forms) nands

  count' : length forms ≡ length reps
  count' = let c = is.valid.count in omega arith

  known : (f : ℕ) → f / 2 < n → f / 2 < length reps
  known f lt = let c = is.valid.count in omega arith

  -- the entries are the facts over classes
  listed_in : (p : Fact) → Contains nands p → Contains entries (canonical_fact forms p)
  listed_in p c = contains_map (canonical_fact forms) nands p c

  listed_back : (r : Fact) → Contains entries r → (p : Fact) × Contains nands p × (canonical_fact forms p ≡ r)
  listed_back r c = contained_in_map (canonical_fact forms) nands r c

  operands_in : (p : Fact) → Contains nands p → IsFactIn n p
  operands_in p c = All-contains (IsFactIn n) nands p is.valid.nands_in c

  below : (f : ℕ) → f / 2 < n → rep_of forms f < 2 * pair_count 0 forms
  below f lt = class_below reps forms are count' f (known f lt)

  small : (f : ℕ) → f / 2 < n → rep_of forms f < 2 ^ 32
  small f lt = let b = below f lt in let g = are.few in omega arith

  pub entry_ordered : (r : Fact) → Contains entries r → IsOrdered (pair_of r)
  entry_ordered r c =
      let (p, l, e) = listed_back r c in
      let in' = operands_in p l in
      let a = small p.left in'.1 in
      let b = small p.right in'.2 in
      subst (λ (q : Fact). IsOrdered (pair_of q)) e (omega arith, omega arith)

  -- a class and its operands are below the number of classes
  pub entry_form : (r : Fact) → Contains entries r → r.form < 2 * pair_count 0 forms
  entry_form r c =
      let (p, l, e) = listed_back r c in
      subst (λ (q : Fact). q.form < 2 * pair_count 0 forms) e (below p.form (operands_in p l).0)

  entry_operands : (r : Fact) → Contains entries r → (r.left < 2 * pair_count 0 forms) × (r.right < 2 * pair_count 0 forms)
  entry_operands r c =
      let (p, l, e) = listed_back r c in
      let in' = operands_in p l in
      let a = below p.left in'.1 in
      let b = below p.right in'.2 in
      subst (λ (q : Fact). (q.left < 2 * pair_count 0 forms) × (q.right < 2 * pair_count 0 forms)) e (omega arith, omega arith)

  root : (f : ℕ) → f / 2 < n → IsRoot reps (rep_of reps f)
  root f lt = record {
    within = known (rep_of reps f) (is.valid.sound f lt).0;
    own = is.flat f (known f lt);
  }

  -- forms of one class have one representative
  one_rep : (f h : ℕ) → f / 2 < n → h / 2 < n → rep_of forms f ≡ rep_of forms h → rep_of reps f ≡ rep_of reps h
  one_rep f h a b e =
      let x = class_of_rep reps forms are count' f (known f a) in
      let y = class_of_rep reps forms are count' h (known h b) in
      class_once reps forms are count' (rep_of reps f) (rep_of reps h) (root f a) (root h b) (x ∙ (e ∙ sym y))

  -- facts whose operands have the same classes have forms of one class
  one_class : (p q : Fact) → Contains nands p → Contains nands q → (canonical_fact forms p).left ≡ (canonical_fact forms q).left → (canonical_fact forms p).right ≡ (canonical_fact forms q).right → rep_of forms p.form ≡ rep_of forms q.form
  one_class p q a b e f =
      let i = operands_in p a in
      let j = operands_in q b in
      let x = class_of_rep reps forms are count' p.form (known p.form i.0) in
      let y = class_of_rep reps forms are count' q.form (known q.form j.0) in
      sym x ∙ (ap (rep_of forms) (agree n nands links reps is p q a b (by_order (min_max_cases (rep_of forms p.left) (rep_of forms p.right)) (min_max_cases (rep_of forms q.left) (rep_of forms q.right)))) ∙ y)
    where
      same : rep_of forms p.left ≡ rep_of forms q.left → rep_of forms p.right ≡ rep_of forms q.right → (min (rep_of reps p.left) (rep_of reps p.right) ≡ min (rep_of reps q.left) (rep_of reps q.right)) × (max (rep_of reps p.left) (rep_of reps p.right) ≡ max (rep_of reps q.left) (rep_of reps q.right))
      same c d =
          let i = operands_in p a in
          let j = operands_in q b in
          min_max_same (rep_of reps p.left) (rep_of reps p.right) (rep_of reps q.left) (rep_of reps q.right) (one_rep p.left q.left i.1 j.1 c) (one_rep p.right q.right i.2 j.2 d)

      exchanged' : rep_of forms p.left ≡ rep_of forms q.right → rep_of forms p.right ≡ rep_of forms q.left → (min (rep_of reps p.left) (rep_of reps p.right) ≡ min (rep_of reps q.left) (rep_of reps q.right)) × (max (rep_of reps p.left) (rep_of reps p.right) ≡ max (rep_of reps q.left) (rep_of reps q.right))
      exchanged' c d =
          let i = operands_in p a in
          let j = operands_in q b in
          min_max_exchanged (rep_of reps p.left) (rep_of reps p.right) (rep_of reps q.left) (rep_of reps q.right) (one_rep p.left q.right i.1 j.2 c) (one_rep p.right q.left i.2 j.1 d)

      by_order : ((min (rep_of forms p.left) (rep_of forms p.right) ≡ rep_of forms p.left) × (max (rep_of forms p.left) (rep_of forms p.right) ≡ rep_of forms p.right)) ⊎ ((min (rep_of forms p.left) (rep_of forms p.right) ≡ rep_of forms p.right) × (max (rep_of forms p.left) (rep_of forms p.right) ≡ rep_of forms p.left)) → ((min (rep_of forms q.left) (rep_of forms q.right) ≡ rep_of forms q.left) × (max (rep_of forms q.left) (rep_of forms q.right) ≡ rep_of forms q.right)) ⊎ ((min (rep_of forms q.left) (rep_of forms q.right) ≡ rep_of forms q.right) × (max (rep_of forms q.left) (rep_of forms q.right) ≡ rep_of forms q.left)) → (min (rep_of reps p.left) (rep_of reps p.right) ≡ min (rep_of reps q.left) (rep_of reps q.right)) × (max (rep_of reps p.left) (rep_of reps p.right) ≡ max (rep_of reps q.left) (rep_of reps q.right))
      by_order (inl (c, d)) (inl (g, h)) = same (sym c ∙ (e ∙ g)) (sym d ∙ (f ∙ h))
      by_order (inl (c, d)) (inr (g, h)) = exchanged' (sym c ∙ (e ∙ g)) (sym d ∙ (f ∙ h))
      by_order (inr (c, d)) (inl (g, h)) = exchanged' (sym d ∙ (f ∙ h)) (sym c ∙ (e ∙ g))
      by_order (inr (c, d)) (inr (g, h)) = same (sym d ∙ (f ∙ h)) (sym c ∙ (e ∙ g))

  module _ (inputs : ℕ) (samples : List Bool) (one : ℕ) (leaves : List ℕ) (pairs : List (List PlainPair)) (known_samples : length samples ≡ n) (members : (c : ℕ) (p : PlainPair) → Contains (slice_index_or pairs c []) p ↔ Contains (pairs_of (filter (of_class c) entries)) p) (rises : (c : ℕ) → AreRising (slice_index_or pairs c [])) (classes : length pairs ≡ 2 * pair_count 0 forms) where
    abbrev draft : PlainDraft
    draft = plain_draft inputs samples nands links

    abbrev graph : PlainGraph
    graph = record { one = one; leaves = leaves; forms = forms; pairs = pairs }

    row_back : (c x y : ℕ) → Contains (slice_index_or pairs c []) (record { x = x; y = y }) → (r : Fact) × Contains entries r × (r.form ≡ c) × (r.left ≡ x) × (r.right ≡ y)
    row_back c x y h =
        let m = (members c (record { x = x; y = y })).0 h in
        let (r, d, e) = contained_in_map (λ (r : Fact). record { x = r.left; y = r.right }) (filter (of_class c) entries) (record { x = x; y = y }) m in
        let (k, t) = filter_back (of_class c) entries r d in
        (r, k, eqb-true r.form c t, ap (λ (p : PlainPair). p.x) e, ap (λ (p : PlainPair). p.y) e)

    row_in : (r : Fact) → Contains entries r → Contains (slice_index_or pairs r.form []) (record { x = r.left; y = r.right })
    row_in r k =
        let d = filter_in (of_class r.form) entries r k (eq-eqb r.form r.form refl) in
        (members r.form (record { x = r.left; y = r.right })).1 (contains_map (λ (r : Fact). record { x = r.left; y = r.right }) (filter (of_class r.form) entries) r d)

    fact_in_draft : (f x y : ℕ) → Contains nands (record { form = f; left = x; right = y }) → Contains draft.nands (record { form = f; left = x; right = y })
    fact_in_draft f x y c = contains_map plain_fact nands (record { form = f; left = x; right = y }) c

    fact_back : (f x y : ℕ) → Contains draft.nands (record { form = f; left = x; right = y }) → Contains nands (record { form = f; left = x; right = y })
    fact_back f x y c =
        let (p, d, e) = contained_in_map plain_fact nands (record { form = f; left = x; right = y }) c in
        subst (λ q. Contains nands q) (fact_is p (record { form = f; left = x; right = y }) (ap (λ (q : NandFact). q.form) e) (ap (λ (q : NandFact). q.left) e) (ap (λ (q : NandFact). q.right) e)) d

    link_back : (f h : ℕ) → Contains draft.links (record { left = f; right = h }) → Contains links (record { left = f; right = h })
    link_back f h c =
        let (l, d, e) = contained_in_map plain_link links (record { left = f; right = h }) c in
        let s : l ≡ record { left = f; right = h } = λ i. record { left = ap (λ (q : FormLink). q.left) e i; right = ap (λ (q : FormLink). q.right) e i } in
        subst (λ q. Contains links q) s d

    nand_in_draft : (f x y : ℕ) → IsNand (family n nands links) f x y → IsNand (facts_of draft) f x y
    nand_in_draft f x y (inl c) = inl (fact_in_draft f x y c)
    nand_in_draft f x y (inr c) = inr (fact_in_draft f y x c)

    nand_back : (f x y : ℕ) → IsNand (facts_of draft) f x y → IsNand (family n nands links) f x y
    nand_back f x y (inl c) = inl (fact_back f x y c)
    nand_back f x y (inr c) = inr (fact_back f y x c)

    to_draft : {f h : ℕ} → Equivalent (family n nands links) f h → Equivalent (facts_of draft) f h
    to_draft e =
        Equivalent-weaker (family n nands links) (facts_of draft) (λ f o. subst (λ m. f / 2 < m) (sym known_samples) o) nand_in_draft (λ f h l. linked (contains_map plain_link links (record { left = f; right = h }) l)) e

    from_draft : {f h : ℕ} → Equivalent (facts_of draft) f h → Equivalent (family n nands links) f h
    from_draft e =
        Equivalent-weaker (facts_of draft) (family n nands links) (λ f o. subst (λ m. f / 2 < m) known_samples o) nand_back (λ f h l. linked (link_back f h l)) e

    classes_are : (f h : ℕ) → f / 2 < length samples → h / 2 < length samples → (class_of graph f ≡ class_of graph h) ↔ Equivalent (facts_of draft) f h
    classes_are f h o p =
        let a : f / 2 < n = subst (λ m. f / 2 < m) known_samples o in
        let b : h / 2 < n = subst (λ m. h / 2 < m) known_samples p in
        let x = class_of_rep reps forms are count' f (known f a) in
        let y = class_of_rep reps forms are count' h (known h b) in
        let k = same_rep_iff n nands links reps is f h a b in
        (λ e. to_draft (k.0 (one_rep f h a b e)), λ e. sym x ∙ (ap (rep_of forms) (k.1 (from_draft e)) ∙ y))

    swapped : (c x y : ℕ) → HasNand (facts_of draft) graph c x y → HasNand (facts_of draft) graph c y x
    swapped c x y h = record {
      form = h.form;
      left = h.right;
      right = h.left;
      is_nand = exchanged' h.is_nand;
      form_at = h.form_at;
      left_at = h.right_at;
      right_at = h.left_at;
    }
      where
        exchanged' : {f a b : ℕ} → IsNand (facts_of draft) f a b → IsNand (facts_of draft) f b a
        exchanged' (inl c) = inr c
        exchanged' (inr c) = inl c

    row_nand : (c x y : ℕ) → Contains (slice_index_or pairs c []) (record { x = x; y = y }) → HasNand (facts_of draft) graph c x y
    row_nand c x y h =
        let (r, k, f, l, t) = row_back c x y h in
        let (p, d, e) = listed_back r k in
        by_order p d (ap (λ (q : Fact). q.form) e ∙ f) (ap (λ (q : Fact). q.left) e ∙ l) (ap (λ (q : Fact). q.right) e ∙ t) (min_max_cases (rep_of forms p.left) (rep_of forms p.right))
      where
        by_order : (p : Fact) → Contains nands p → rep_of forms p.form ≡ c → min (rep_of forms p.left) (rep_of forms p.right) ≡ x → max (rep_of forms p.left) (rep_of forms p.right) ≡ y → ((min (rep_of forms p.left) (rep_of forms p.right) ≡ rep_of forms p.left) × (max (rep_of forms p.left) (rep_of forms p.right) ≡ rep_of forms p.right)) ⊎ ((min (rep_of forms p.left) (rep_of forms p.right) ≡ rep_of forms p.right) × (max (rep_of forms p.left) (rep_of forms p.right) ≡ rep_of forms p.left)) → HasNand (facts_of draft) graph c x y
        by_order p d f l t (inl (a, b)) = record {
          form = p.form;
          left = p.left;
          right = p.right;
          is_nand = inl (fact_in_draft p.form p.left p.right d);
          form_at = f;
          left_at = sym a ∙ l;
          right_at = sym b ∙ t;
        }
        by_order p d f l t (inr (a, b)) = record {
          form = p.form;
          left = p.right;
          right = p.left;
          is_nand = inr (fact_in_draft p.form p.left p.right d);
          form_at = f;
          left_at = sym a ∙ l;
          right_at = sym b ∙ t;
        }

    fact_row : (f x y : ℕ) → Contains nands (record { form = f; left = x; right = y }) → HoldsPair graph (rep_of forms f) (rep_of forms x) (rep_of forms y)
    fact_row f x y c =
        by_order (row_in (canonical_fact forms (record { form = f; left = x; right = y })) (listed_in (record { form = f; left = x; right = y }) c)) (min_max_cases (rep_of forms x) (rep_of forms y))
      where
        by_order : Contains (slice_index_or pairs (rep_of forms f) []) (record { x = min (rep_of forms x) (rep_of forms y); y = max (rep_of forms x) (rep_of forms y) }) → ((min (rep_of forms x) (rep_of forms y) ≡ rep_of forms x) × (max (rep_of forms x) (rep_of forms y) ≡ rep_of forms y)) ⊎ ((min (rep_of forms x) (rep_of forms y) ≡ rep_of forms y) × (max (rep_of forms x) (rep_of forms y) ≡ rep_of forms x)) → HoldsPair graph (rep_of forms f) (rep_of forms x) (rep_of forms y)
        by_order m (inl (a, b)) =
            inl (subst₂ (λ x y. Contains (slice_index_or pairs (rep_of forms f) []) (record { x = x; y = y })) a b m)
        by_order m (inr (a, b)) =
            inr (subst₂ (λ x y. Contains (slice_index_or pairs (rep_of forms f) []) (record { x = x; y = y })) a b m)

    holds_exchanged : (c x y : ℕ) → HoldsPair graph c x y → HoldsPair graph c y x
    holds_exchanged c x y (inl h) = inr h
    holds_exchanged c x y (inr h) = inl h

    nand_row : (c x y : ℕ) → HasNand (facts_of draft) graph c x y → HoldsPair graph c x y
    nand_row c x y h = subst (λ k. HoldsPair graph k x y) h.form_at (subst₂ (λ a b. HoldsPair graph (rep_of forms h.form) a b) h.left_at h.right_at (by_side h.is_nand))
      where
        by_side : {f a b : ℕ} → IsNand (facts_of draft) f a b → HoldsPair graph (rep_of forms f) (rep_of forms a) (rep_of forms b)
        by_side {f} {a} {b} (inl c) = fact_row f a b (fact_back f a b c)
        by_side {f} {a} {b} (inr c) =
            holds_exchanged (rep_of forms f) (rep_of forms b) (rep_of forms a) (fact_row f b a (fact_back f b a c))

    pairs_are : (c x y : ℕ) → HoldsPair graph c x y ↔ HasNand (facts_of draft) graph c x y
    pairs_are c x y = (from_row, nand_row c x y)
      where
        from_row : HoldsPair graph c x y → HasNand (facts_of draft) graph c x y
        from_row (inl h) = row_nand c x y h
        from_row (inr h) = swapped c y x (row_nand c y x h)

    -- the entry of a pair that a class holds, the lower operand first
    pair_entry : (c x y : ℕ) → HoldsPair graph c x y → (r : Fact) × Contains entries r × (r.form ≡ c) × (r.left ≡ min x y) × (r.right ≡ max x y)
    pair_entry c x y (inl h) =
        let (r, k, f, l, t) = row_back c x y h in
        let o = (entry_ordered r k).0 in
        (r, k, f, (omega arith), (omega arith))
    pair_entry c x y (inr h) =
        let (r, k, f, l, t) = row_back c y x h in
        let o = (entry_ordered r k).0 in
        (r, k, f, (omega arith), (omega arith))

    pub pairs_once : PairsInOneClass graph
    pairs_once c d x y p q =
        let (r, k, f, l, t) = pair_entry c x y p in
        let (s, m, g, u, v) = pair_entry d x y q in
        let (v', a, e) = listed_back r k in
        let (w', b, h) = listed_back s m in
        let left = ap (λ (z : Fact). z.left) e ∙ (l ∙ (sym u ∙ sym (ap (λ (z : Fact). z.left) h))) in
        let right = ap (λ (z : Fact). z.right) e ∙ (t ∙ (sym v ∙ sym (ap (λ (z : Fact). z.right) h))) in
        sym f ∙ (sym (ap (λ (z : Fact). z.form) e) ∙ (one_class v' w' a b left right ∙ (ap (λ (z : Fact). z.form) h ∙ g)))

    pub rows_below : (c : ℕ) → All (IsBelow (length pairs)) (slice_index_or pairs c [])
    rows_below c k d lt =
        let m = (members c (get_or (slice_index_or pairs c []) k d)).0 (Contains-get_or (slice_index_or pairs c []) k d lt) in
        let (r, q, e) = contained_in_map (λ (r : Fact). record { x = r.left; y = r.right }) (filter (of_class c) entries) (get_or (slice_index_or pairs c []) k d) m in
        let (a, b) = entry_operands r (filter_back (of_class c) entries r q).0 in
        subst (IsBelow (length pairs)) e (omega arith, omega arith)

    pub reduced : length leaves ≡ inputs → one ≡ class_of graph 0 → ((i : ℕ) → i < inputs → slice_get leaves i ≡ Some (class_of graph (2 * (i + 1)))) → IsReduced draft graph
    reduced leaf_count one_is leaves_are = record {
      written = record {
        form_count = count ∙ sym known_samples;
        leaf_count = leaf_count;
        numbered = are.numbered;
        class_count = classes;
        rising = rises;
      };
      one = one_is;
      leaves = leaves_are;
      classes = classes_are;
      pairs = pairs_are;
    }
