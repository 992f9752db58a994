-- The needed classes from the highest down, each with its chosen match.
use Rattle.std.proofs.Common.{ℕ, suc, ◌<◌, ◌≤◌, ◌≡◌, inl, inr, Bool, true, false, List, [], ◌∷◌, ◌++◌, length, reverse, take, get_or, Contains, All, IsSome, Option, Some, None, slice_get, slice_index_or, option_map, refl, ap, sym, ◌∙◌, subst, arith}
use Rattle.std.proofs.lemmas.List.{take_all, take_more, length_push, length-reverse, reverse-append}
use Rattle.std.proofs.lemmas.List.Elements.{All-from_recursion}
use Rattle.std.proofs.lemmas.Option.{none-some, same_Some, slice_get-map}
use Rattle.lw_facts.proofs.Lists.{contained_at, contains_reverse, some_within, at_contained}
use Rattle.lw_pool.specs.declared.id.ClassId.{ClassId}
use Rattle.lw_pool.specs.declared.id.NetId.{NetId}
use Rattle.lw_laws.specs.Graphs.{Graph}
use Rattle.lw_laws.specs.Costs.{Cost}
use Rattle.lw_laws.specs.Covers.{Pattern}
use Rattle.lw_laws.specs.Extracts.{IsChosen, IsLeafClass, IsNeeded, IsGateBefore}
use Rattle.lw_laws.specs.Extracts.IsNeeded.{by_root, by_pin}
use Rattle.lw_laws.proofs.Extracts.{IsChosen_once}
use Rattle.lw_laws.proofs.Lists.{all_contains}
use Rattle.lw_needed.specs.declared.places.Place.{Place}
use Rattle.lw_needed.specs.Needed.{IsNoted, AreRoots, HasAlso}
use Rattle.lw_needed.specs.Places.{IsPlaceBefore}
use Rattle.lw_needed.proofs.Descent as descent
use Rattle.lw_cost.specs.declared.mark.Mark.{Mark}
use Rattle.lw_cost.specs.declared.mark.Match.{Match}
use Rattle.lw_cost.specs.Values.{plain_match}
use Rattle.lw_extract.specs.declared.choosing.Chosen.{Chosen}
use Rattle.lw_extract.specs.Choosing.{labels, heights, chosen_classes, AreChosen, IsChoice}
use Rattle.lw_extract.specs.Nets.{AreInputNets}
use Rattle.lw_extract.specs.Orders.{ArePlaces, AreByHeight}
use Rattle.lw_extract.proofs.Picking.{height_at, mark_at, pin_label, pins_below, root_mark}
use Rattle.lw_extract.proofs.Sorting.{seen_place, back_place, before_seen}
use Rattle.lw_pool.specs.Numbers.{numbers}

-- the gate of a place's class
abbrev pub gate_at : Place → Match → Chosen
gate_at p found = record { class = p.class; found = found }

module _ (g : Graph) (cost : Cost) (pats : List Pattern) (marks : List (Option Mark)) (roots : List ClassId) where
  abbrev Needed : ℕ → Type 0
  Needed c = IsNeeded g cost pats (labels marks) (heights marks) (numbers roots) c

  -- What holds when some of the places have been seen, with the classes that got a gate, the last one first.
  abbrev pub IsDown : List Place → List Bool → List Chosen → Type 0
  IsDown seen needed ups = descent.IsDown (λ (x : Chosen). x.class.0) (λ (x : Chosen). x.found.pins) (λ (x : Chosen). IsChoice g cost pats marks x.class.0 x.found) (λ (ups : List Chosen) (c : ℕ). Needed c)
      (λ (x y : Chosen). IsGateBefore (heights marks) x.class.0 y.class.0) (length g.pairs) roots seen needed ups

  pub down_start : (needed : List Bool) → AreRoots roots (length g.pairs) needed → IsDown [] needed []
  down_start needed are = descent.down_start (λ (x : Chosen). x.class.0) (λ (x : Chosen). x.found.pins) (λ (x : Chosen). IsChoice g cost pats marks x.class.0 x.found) (λ (ups : List Chosen) (c : ℕ). Needed c)
      (λ (x y : Chosen). IsGateBefore (heights marks) x.class.0 y.class.0) (length g.pairs) roots needed (λ c k. by_root k) are

  -- a place of a class that is not needed
  pub down_skip : (seen : List Place) (needed : List Bool) (ups : List Chosen) (p : Place) → slice_index_or needed p.class.0 false ≡ false → IsDown seen needed ups → IsDown (seen ++ p ∷ []) needed ups
  down_skip = descent.down_skip (λ (x : Chosen). x.class.0) (λ (x : Chosen). x.found.pins) (λ (x : Chosen). IsChoice g cost pats marks x.class.0 x.found) (λ (ups : List Chosen) (c : ℕ). Needed c)
      (λ (x y : Chosen). IsGateBefore (heights marks) x.class.0 y.class.0) (length g.pairs) roots

  -- a place of a needed class
  pub down_take : (seen : List Place) (needed new : List Bool) (ups : List Chosen) (p : Place) (found : Match) → slice_index_or needed p.class.0 false ≡ true → (IsLeafClass g p.class.0 → ⊥) → IsChoice g cost pats marks p.class.0 found → HasAlso needed found.pins new → heights marks p.class.0 ≡ p.depth → ((q : Place) → Contains seen q → heights marks q.class.0 ≡ q.depth) → ((q : Place) → Contains seen q → IsPlaceBefore p q) → IsDown seen needed ups → IsDown (seen ++ p ∷ []) new (gate_at p found ∷ ups)
  down_take seen needed new ups p found noted out (pattern, chosen) also high high_seen before is =
      descent.down_take (λ (x : Chosen). x.class.0) (λ (x : Chosen). x.found.pins) (λ (x : Chosen). IsChoice g cost pats marks x.class.0 x.found) (λ (ups : List Chosen) (c : ℕ). Needed c)
      (λ (x y : Chosen). IsGateBefore (heights marks) x.class.0 y.class.0) (length g.pairs) roots seen needed new ups p (gate_at p found) noted refl (pattern, chosen) also (λ c n. n) (λ c n k. by_pin {c = p.class.0} {q = c} {m = plain_match found} {p = pattern} n out chosen k)
      (λ q k i. not_pin q (before q k) (high_seen q k) i)
      (λ y q k s. subst (λ n. IsGateBefore (heights marks) p.class.0 n) s (gate_before q (before q k) (high_seen q k))) is
    where
      not_pin : (q : Place) → IsPlaceBefore p q → heights marks q.class.0 ≡ q.depth → Contains (numbers found.pins) q.class.0 → ⊥
      not_pin q (inl lt) same k = let lower = all_contains (λ d. suc (heights marks d) ≤ heights marks p.class.0) (numbers found.pins) q.class.0 chosen.supports.lower k in omega (arith, lower, high, same, lt)
      not_pin q (inr (e, lt)) same k = let lower = all_contains (λ d. suc (heights marks d) ≤ heights marks p.class.0) (numbers found.pins) q.class.0 chosen.supports.lower k in omega (arith, lower, high, same, e)

      gate_before : (q : Place) → IsPlaceBefore p q → heights marks q.class.0 ≡ q.depth → IsGateBefore (heights marks) p.class.0 q.class.0
      gate_before q (inl lt) same = inl (omega (arith, high, same, lt))
      gate_before q (inr (e, lt)) same = inr (high ∙ (e ∙ sym same), lt)

  -- the flags and the matches when all places have been seen
  pub down_end : (nets : List (Option NetId)) (places seen : List Place) (needed : List Bool) (ups : List Chosen) → AreInputNets g nets → ArePlaces nets marks places → All (λ (root : ClassId). IsSome (slice_index_or marks root.0 None)) roots → ((p : Place) → Contains places p → Contains seen p) → ((p : Place) → Contains seen p → Contains places p) → IsDown seen needed ups → AreChosen g cost pats marks roots ups
  down_end nets places seen needed ups inputs are covered to from is = record {
    gate_classes = record {
      needed = λ j c e. let (x, at, s) = class_at j c e in needed_at c x (at_contained ups j x at) s;
      all = λ c n out. let (m, at) = marked c n in let (x, k, s) = gate c (flagged c n) m at out in let (j, f) = contained_at ups x k in (j, slice_get-map (λ (z : Chosen). z.class.0) ups j ∙ (ap (option_map (λ (z : Chosen). z.class.0)) f ∙ ap (λ n. Some n) s));
      sorted = λ i j c d e f lt.
          let (x, at, s) = class_at i c e in
          let (y, at', s') = class_at j d f in
          subst (λ n. IsGateBefore (heights marks) n d) s (subst (λ n. IsGateBefore (heights marks) x.class.0 n) s' (is.sorted i j x y at at' lt));
    };
    each = λ j x e. is.each x (at_contained ups j x e);
  }
    where
      class_at : (j c : ℕ) → slice_get (chosen_classes ups) j ≡ Some c → (x : Chosen) × (slice_get ups j ≡ Some x) × (x.class.0 ≡ c)
      class_at j c e = by_case (slice_get ups j) refl (sym (slice_get-map (λ (z : Chosen). z.class.0) ups j) ∙ e)
        where
          by_case : (o : Option Chosen) → slice_get ups j ≡ o → option_map (λ (z : Chosen). z.class.0) o ≡ Some c → (x : Chosen) × (slice_get ups j ≡ Some x) × (x.class.0 ≡ c)
          by_case None s f = absurd (none-some c f)
          by_case (Some x) s f = (x, s, same_Some x.class.0 c f)

      no_leaf : (x : Chosen) → Contains ups x → IsLeafClass g x.class.0 → ⊥
      no_leaf x k leaf =
          let (p, at, s) = is.place x k in
          let (m, mark, high, net) = are.each p (from p at) in
          inputs.none x.class.0 (ap (λ n. slice_index_or nets n None) (sym s) ∙ net) leaf

      needed_at : (c : ℕ) (x : Chosen) → Contains ups x → x.class.0 ≡ c → Needed c × (IsLeafClass g c → ⊥)
      needed_at c x k s = subst (λ n. Needed n × (IsLeafClass g n → ⊥)) s (is.sound x.class.0 (is.noted x k), no_leaf x k)

      no_net : (c : ℕ) → (IsLeafClass g c → ⊥) → slice_index_or nets c None ≡ None
      no_net c out = by_net (slice_index_or nets c None) refl
        where
          by_net : (o : Option NetId) → slice_index_or nets c None ≡ o → slice_index_or nets c None ≡ None
          by_net None e = e
          by_net (Some n) e = absurd (out (n.0, inputs.some c n e))

      gate : (c : ℕ) → IsNoted needed c → (m : Mark) → slice_index_or marks c None ≡ Some m → (IsLeafClass g c → ⊥) → (x : Chosen) × Contains ups x × (x.class.0 ≡ c)
      gate c noted m at out =
          let (p, k, s) = are.all c m at (no_net c out) in
          let (x, i, f) = is.all p (to p k) (ap (λ n. slice_index_or needed n false) s ∙ noted) in
          (x, i, f ∙ s)

      marked : (c : ℕ) → Needed c → (m : Mark) × (slice_index_or marks c None ≡ Some m)
      marked c (by_root k) = root_mark marks roots c covered k
      marked q (by_pin {c = c} {q = d} {m = m} {p = p} n out chosen inside) =
          let (l, e) = pin_label (labels marks) m.pins chosen.supports.pin_labels q chosen.supports.have inside in
          mark_at marks q l e

      flagged : (c : ℕ) → Needed c → IsNoted needed c
      flagged c (by_root k) = is.at_roots c k
      flagged q (by_pin {c = c} {q = d} {m = m} {p = p} n out chosen inside) =
          let noted = flagged c n in
          let (k, at) = mark_at marks c (cost.value p.cell chosen.supports.pin_labels) chosen.supports.value in
          let (x, i, s) = gate c noted k at out in
          let (r, choice) = is.each x i in
          let once = IsChosen_once g cost pats (labels marks) (heights marks) c m (plain_match x.found) p r chosen (subst (λ n. IsChosen g cost pats (labels marks) (heights marks) n (plain_match x.found) r) s choice) in
          is.at_parts x i q (subst (λ qs. Contains qs q) once.1 inside)

-- the place that comes next, from the last down
abbrev pub IsTurn : List Place → ℕ → Place → Type 0
IsTurn places k p = (k < length (reverse places)) × (p ≡ get_or (reverse places) k p)

pub seen_more : {A : Type 0} (ys : List A) (y : A) (places : List Place) (p : Place) → IsTurn places (length ys) p → take (length (ys ++ y ∷ [])) (reverse places) ≡ take (length ys) (reverse places) ++ p ∷ []
seen_more ys y places p (lt, e) =
    ap (λ n. take n (reverse places)) (length_push ys y) ∙ (take_more (reverse places) (length ys) p lt ∙ ap (λ (q : Place). take (length ys) (reverse places) ++ q ∷ []) (sym e))

module _ (g : Graph) (cost : Cost) (pats : List Pattern) (marks : List (Option Mark)) (roots : List ClassId) (places : List Place) (ready : (nets : List (Option NetId)) × AreInputNets g nets × AreByHeight nets marks places) where
  turn_in : (k : ℕ) (p : Place) → IsTurn places k p → Contains places p
  turn_in k p (lt, e) =
      let size : length (reverse places) ≡ length places = length-reverse places in
      subst (λ (q : Place). Contains places q) (sym e) (back_place places k p (omega (arith, lt, size)))

  pub turn_mark : (k : ℕ) (p : Place) → IsTurn places k p → (m : Mark) × (slice_index_or marks p.class.0 None ≡ Some m)
  turn_mark k p turn = let (m, at, high, net) = ready.2.are.each p (turn_in k p turn) in (m, at)

  high_in : (p : Place) → Contains places p → heights marks p.class.0 ≡ p.depth
  high_in p inside = let (m, at, high, net) = ready.2.are.each p inside in height_at marks p.class.0 m at ∙ sym high

  pub turn_no_leaf : (k : ℕ) (p : Place) → IsTurn places k p → IsLeafClass g p.class.0 → ⊥
  turn_no_leaf k p turn = let (m, at, high, net) = ready.2.are.each p (turn_in k p turn) in ready.1.none p.class.0 net

  pub turn_within : (k : ℕ) (p : Place) → length marks ≡ length g.pairs → IsTurn places k p → p.class.0 < length g.pairs
  turn_within k p same turn =
      let (m, at) = turn_mark k p turn in
      let below = some_within marks p.class.0 m at in
      omega (arith, below, same)

  -- the match of the next place
  pub turn_choice : (k : ℕ) (p : Place) (found : Match) → IsTurn places k p → ((mark : Mark) → slice_index_or marks p.class.0 None ≡ Some mark → (f : Match) × (Some found ≡ Some f) × IsChoice g cost pats marks p.class.0 f) → IsChoice g cost pats marks p.class.0 found
  turn_choice k p found turn says =
      let (m, at) = turn_mark k p turn in
      let (f, e, choice) = says m at in
      subst (λ (z : Match). IsChoice g cost pats marks p.class.0 z) (sym (same_Some found f e)) choice

  pub turn_some : (k : ℕ) (p : Place) → IsTurn places k p → ((mark : Mark) → slice_index_or marks p.class.0 None ≡ Some mark → (f : Match) × (None ≡ Some f) × IsChoice g cost pats marks p.class.0 f) → ⊥
  turn_some k p turn says =
      let (m, at) = turn_mark k p turn in
      let (f, e, choice) = says m at in
      none-some f e

  -- its pins are in range
  pub turn_pins : (k : ℕ) (p : Place) (found : Match) → length marks ≡ length g.pairs → IsTurn places k p → IsChoice g cost pats marks p.class.0 found → All (λ (c : ClassId). c.0 < length g.pairs) found.pins
  turn_pins k p found same turn (pattern, chosen) =
      All-from_recursion (λ (c : ClassId). c.0 < length g.pairs) found.pins (pins_below (length g.pairs) (labels marks) found.pins chosen.supports.pin_labels (λ q l e. let (m, at) = mark_at marks q l e in let below = some_within marks q m at in omega (arith, below, same)) chosen.supports.have)

  abbrev DownAt : List Place → List Bool → List Chosen → Type 0
  DownAt seen needed chosen = IsDown g cost pats marks roots seen needed (reverse chosen)

  pub turn_skip : {A : Type 0} (ys : List A) (y : A) (p : Place) (needed : List Bool) (chosen : List Chosen) → IsTurn places (length ys) p → slice_index_or needed p.class.0 false ≡ false → DownAt (take (length ys) (reverse places)) needed chosen → DownAt (take (length (ys ++ y ∷ [])) (reverse places)) needed chosen
  turn_skip ys y p needed chosen turn not is =
      subst (λ (seen : List Place). DownAt seen needed chosen) (sym (seen_more ys y places p turn)) (down_skip g cost pats marks roots (take (length ys) (reverse places)) needed (reverse chosen) p not is)

  pub turn_take : {A : Type 0} (ys : List A) (y : A) (p : Place) (needed new : List Bool) (chosen more : List Chosen) (found : Match) → IsTurn places (length ys) p → slice_index_or needed p.class.0 false ≡ true → IsChoice g cost pats marks p.class.0 found → HasAlso needed found.pins new → more ≡ chosen ++ gate_at p found ∷ [] → DownAt (take (length ys) (reverse places)) needed chosen → DownAt (take (length (ys ++ y ∷ [])) (reverse places)) new more
  turn_take ys y p needed new chosen more found turn noted choice also pushed is =
      let k = length ys in
      let size : length (reverse places) ≡ length places = length-reverse places in
      let back : reverse more ≡ gate_at p found ∷ reverse chosen = ap reverse pushed ∙ reverse-append chosen (gate_at p found ∷ []) in
      subst (λ (seen : List Place). IsDown g cost pats marks roots seen new (reverse more)) (sym (seen_more ys y places p turn)) (subst (λ (ups : List Chosen). IsDown g cost pats marks roots (take k (reverse places) ++ p ∷ []) new ups) (sym back) (down_take g cost pats marks roots (take k (reverse places)) needed new (reverse chosen) p found noted (turn_no_leaf k p turn) choice also (high_in p (turn_in k p turn)) (λ q at. high_in q (seen_place places k q at)) (λ q at. subst (λ (z : Place). IsPlaceBefore z q) (sym turn.1) (before_seen places ready.2.sorted k p q (omega (arith, turn.0, size)) at)) is))

  pub turns_end : (count : ℕ) (needed : List Bool) (chosen : List Chosen) → count ≡ length (reverse places) → All (λ (root : ClassId). IsSome (slice_index_or marks root.0 None)) roots → DownAt (take count (reverse places)) needed chosen → AreChosen g cost pats marks roots (reverse chosen)
  turns_end count needed chosen all covered is =
      down_end g cost pats marks roots ready.0 places (take count (reverse places)) needed (reverse chosen) ready.1 ready.2.are covered
      (λ p at. subst (λ (seen : List Place). Contains seen p) (sym (take_all count (reverse places) (omega (arith, all)))) (contains_reverse places p at))
      (λ p at. seen_place places count p at)
      is
