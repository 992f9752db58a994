-- Listings of what may stand at classes grow by inputs and matches.
use Rattle.std.proofs.Common.{◌≡◌, ℕ, ◌+◌, ◌<◌, ◌≤◌, ◌⊎◌, inl, inr, length, reverse, List, [], ◌∷◌, ◌++◌, Contains, Some, slice_get, refl, ap, sym, ◌∙◌, subst, arith}
use native.Mathlib.Nat.{eq-or-lt_of_le}
use Rattle.std.proofs.lemmas.List.Sorted.{Contains-permutation, IsPermutation-refl, IsPermutation-reverse, IsPermutation-sym}
use Rattle.std.proofs.lemmas.Option.{same_Some, slice_get_within}
use Rattle.lw_laws.specs.Covers.{HasPins, Pattern}
use Rattle.lw_laws.specs.Extracts.{Match, IsMatchOf}
use Rattle.lw_cost.specs.Coming.{AreMatches, IsPatternMatch}
use Rattle.lw_cost.specs.Least.{AreOfCells}
use Rattle.lw_cost.proofs.CellMatches.{of_cell, of_pattern}
use Rattle.lw_genlib.specs.Cells.{CellParts}
use Rattle.lw_choices.specs.Areas.{area_cost}
use Rattle.lw_choices.specs.Choices.{Part, Choice, MayStand, AreAlike, AreListedChoices, IsListedLike, uses_of}
use Rattle.lw_choices.specs.Choices.Part.{input, gate}
use Rattle.lw_choices.specs.Tasks.{Task}
use Rattle.lw_choices.specs.Rows.{IsAmong, IsGateAdded, IsListing}
use Rattle.lw_choices.proofs.Lists.{get_last, get_push, push_cases, contained_at, at_contained}

-- each is alike to itself
pub alike_itself : (cells : List CellParts) (part : Part) → AreAlike cells part part
alike_itself cells (input i) = refl
alike_itself cells (gate cell ps) = (refl, IsPermutation-refl (uses_of cells cell ps))

-- what is among choices is among these with one more
abbrev IsMore : List Choice → List Choice → Choice → Type 0
IsMore xs ys x = (ys ≡ xs) ⊎ (ys ≡ xs ++ x ∷ [])

got_more : (xs ys : List Choice) (x y : Choice) (n : ℕ) → IsMore xs ys x → slice_get xs n ≡ Some y → slice_get ys n ≡ Some y
got_more xs ys x y n (inl same) at = ap (λ zs. slice_get zs n) same ∙ at
got_more xs ys x y n (inr more) at = ap (λ zs. slice_get zs n) more ∙ get_push xs x n y at

pub among_more : (xs ys : List Choice) (x : Choice) (c : ℕ) (part : Part) → IsMore xs ys x → IsAmong xs c part → IsAmong ys c part
among_more xs ys x c part more (n, at) = (n, got_more xs ys x (record { class = c; part = part }) n more at)

pub like_more : (cells : List CellParts) (xs ys : List Choice) (x : Choice) (c : ℕ) (part : Part) → IsMore xs ys x → IsListedLike cells xs c part → IsListedLike cells ys c part
like_more cells xs ys x c part more like = record {
  number = like.number;
  other = like.other;
  at = got_more xs ys x (record { class = c; part = like.other }) like.number more like.at;
  alike = like.alike;
}

module _ (P : Choice → Type 0) where
  -- what holds of each holds of each with one more
  pub each_more : (xs ys : List Choice) (x : Choice) → IsMore xs ys x → ((n : ℕ) (y : Choice) → slice_get xs n ≡ Some y → P y) → P x → (n : ℕ) (y : Choice) → slice_get ys n ≡ Some y → P y
  each_more xs ys x (inl same) each is n y at = each n y (ap (λ zs. slice_get zs n) (sym same) ∙ at)
  each_more xs ys x (inr more) each is n y at = by_case (push_cases xs x n y (ap (λ zs. slice_get zs n) (sym more) ∙ at))
    where
      by_case : (slice_get xs n ≡ Some y) ⊎ ((n ≡ length xs) × (x ≡ y)) → P y
      by_case (inl e) = each n y e
      by_case (inr (e, f)) = subst P f is

module _ (s : Task) where
  abbrev May : Choice → Type 0
  May x = MayStand s x.class x.part

  abbrev IsLow : Choice → Type 0
  IsLow x = x.class < length s.graph.pairs

  pub none_are_listed : IsListing s (length s.graph.leaves) (length s.graph.pairs) []
  none_are_listed = record {
    each = λ n x at. cc;
    within = λ n x at. cc;
    inputs_are = λ i c le at. let lt = slice_get_within s.graph.leaves i c at in absurd (omega arith);
    gates_are = λ c cell ps le lt may. absurd (omega arith);
  }

  -- one more input
  pub input_listed : (k class c : ℕ) (xs : List Choice) → slice_get s.graph.leaves k ≡ Some c → c < length s.graph.pairs → IsListing s (k + 1) class xs → IsListing s k class (xs ++ (record { class = c; part = input k }) ∷ [])
  input_listed k class c xs at low is = record {
    each = each_more May xs ys new (inr refl) is.each at;
    within = each_more IsLow xs ys new (inr refl) is.within low;
    inputs_are = λ i d le e. by_place i d e (eq-or-lt_of_le {n = k} {m = i} le);
    gates_are = λ d cell ps le lt may. like_more s.cells xs ys new d (gate cell ps) (inr refl) (is.gates_are d cell ps le lt may);
  }
    where
      new : Choice
      new = record { class = c; part = input k }

      ys : List Choice
      ys = xs ++ new ∷ []

      by_place : (i d : ℕ) → slice_get s.graph.leaves i ≡ Some d → (k ≡ i) ⊎ (k < i) → IsAmong (xs ++ new ∷ []) d (input i)
      by_place i d e (inl same) =
          let cd : c ≡ d = same_Some c d (sym at ∙ (ap (slice_get s.graph.leaves) same ∙ e)) in
          (length xs, get_last xs new ∙ ap Some (λ j. record { class = cd j; part = input (same j) }))
      by_place i d e (inr lt) = among_more xs ys new d (input i) (inr refl) (is.inputs_are i d (omega arith) e)

  -- Where the matches at a class that are still to come are these, and all others from there on are listed.
  pub record IsListingAt (first c : ℕ) (left : List Match) (xs : List Choice) : Type 0 where
    pub each : (n : ℕ) (x : Choice) → slice_get xs n ≡ Some x → MayStand s x.class x.part
    pub within : (n : ℕ) (x : Choice) → slice_get xs n ≡ Some x → x.class < length s.graph.pairs
    pub inputs_are : (i d : ℕ) → first ≤ i → slice_get s.graph.leaves i ≡ Some d → IsAmong xs d (input i)
    pub gates_are : (d cell : ℕ) (ps : List ℕ) → c < d → d < length s.graph.pairs → MayStand s d (gate cell ps) → IsListedLike s.cells xs d (gate cell ps)
    pub coming : (m : Match) → Contains left m → IsPatternMatch s.graph s.patterns c m
    pub here : (m : Match) (p : Pattern) → IsMatchOf s.graph (area_cost s.cells) s.patterns c m p → Contains left m ⊎ IsListedLike s.cells xs c (gate p.cell m.pins)

  module _ (of_cells : AreOfCells (area_cost s.cells).pin_counts s.patterns) (first c : ℕ) where
    pub listing_start : (ms : List Match) (xs : List Choice) → AreMatches s.graph s.patterns c ms → IsListing s first (c + 1) xs → IsListingAt first c ms xs
    listing_start ms xs are is = record {
      each = is.each;
      within = is.within;
      inputs_are = is.inputs_are;
      gates_are = λ d cell ps le lt may. is.gates_are d cell ps (omega arith) lt may;
      coming = λ m in'. (are.each m).0 in';
      here = λ m p at. inl ((are.each m).1 (of_pattern s.graph (area_cost s.cells) s.patterns c m of_cells (p, at)));
    }

    may_stand : (m : Match) (p : Pattern) → IsMatchOf s.graph (area_cost s.cells) s.patterns c m p → MayStand s c (gate p.cell m.pins)
    may_stand m p at = record { pattern = p; listed = at_contained s.patterns m.pattern p at.listed; cell_is = refl; pins = at.pins; stands = at.stands }

    pub listing_next : (m : Match) (left : List Match) (xs ys : List Choice) (p : Pattern) → c < length s.graph.pairs → slice_get s.patterns m.pattern ≡ Some p → IsGateAdded s.cells xs ys (record { class = c; part = gate p.cell m.pins }) → IsListingAt first c (left ++ m ∷ []) xs → IsListingAt first c left ys
    listing_next m left xs ys p low listed added is = record {
      each = each_more May xs ys new added.only is.each may;
      within = each_more IsLow xs ys new added.only is.within low;
      inputs_are = λ i d le e. among_more xs ys new d (input i) added.only (is.inputs_are i d le e);
      gates_are = λ d cell ps lt in' e. like_more s.cells xs ys new d (gate cell ps) added.only (is.gates_are d cell ps lt in' e);
      coming = λ n in'. is.coming n (earlier n in');
      here = λ n q at. by_case n q at (is.here n q at);
    }
      where
        new : Choice
        new = record { class = c; part = gate p.cell m.pins }

        earlier : (n : Match) → Contains left n → Contains (left ++ m ∷ []) n
        earlier n in' = let (k, at) = contained_at left n in' in at_contained (left ++ m ∷ []) k n (get_push left m k n at)

        may : MayStand s c (gate p.cell m.pins)
        may =
            let (q, at) = of_cell s.graph (area_cost s.cells) s.patterns c m of_cells (is.coming m (at_contained (left ++ m ∷ []) (length left) m (get_last left m))) in
            let same : q ≡ p = same_Some q p (sym at.listed ∙ listed) in
            subst (λ (r : Pattern). MayStand s c (gate r.cell m.pins)) same (may_stand m q at)

        like : (n : Match) (q : Pattern) → slice_get s.patterns n.pattern ≡ Some q → m ≡ n → IsListedLike s.cells ys c (gate q.cell n.pins)
        like n q at e =
            let same : p ≡ q = same_Some p q (sym listed ∙ (ap (λ (k : Match). slice_get s.patterns k.pattern) e ∙ at)) in
            subst (IsListedLike s.cells ys c) (λ j. gate (same j).cell (e j).pins) added.like

        by_case : (n : Match) (q : Pattern) → IsMatchOf s.graph (area_cost s.cells) s.patterns c n q → Contains (left ++ m ∷ []) n ⊎ IsListedLike s.cells xs c (gate q.cell n.pins) → Contains left n ⊎ IsListedLike s.cells ys c (gate q.cell n.pins)
        by_case n q at (inl in') = let (k, kt) = contained_at (left ++ m ∷ []) n in' in by_place (push_cases left m k n kt)
          where
            by_place : {k : ℕ} → (slice_get left k ≡ Some n) ⊎ ((k ≡ length left) × (m ≡ n)) → Contains left n ⊎ IsListedLike s.cells ys c (gate q.cell n.pins)
            by_place {k = k} (inl e) = inl (at_contained left k n e)
            by_place (inr (e, f)) = inr (like n q at.listed f)
        by_case n q at (inr among) = inr (like_more s.cells xs ys new c (gate q.cell n.pins) added.only among)

    pub listing_over : (xs : List Choice) → IsListingAt first c [] xs → IsListing s first c xs
    listing_over xs is = record {
      each = is.each;
      within = is.within;
      inputs_are = is.inputs_are;
      gates_are = λ d cell ps le lt may. by_place d cell ps lt may (eq-or-lt_of_le {n = c} {m = d} le);
    }
      where
        over : {X : Type 0} (m : Match) → Contains [] m → X
        over m (k, lt, e) = absurd (omega arith)

        here : (cell : ℕ) (ps : List ℕ) → MayStand s c (gate cell ps) → IsListedLike s.cells xs c (gate cell ps)
        here cell ps may =
            let (n, at) = contained_at s.patterns may.pattern may.listed in
            let m : Match = record { pattern = n; pins = ps } in
            subst (λ k. IsListedLike s.cells xs c (gate k ps)) may.cell_is (done (is.here m may.pattern (record { listed = at; pins = subst (λ k. HasPins (area_cost s.cells).pin_counts k (length ps)) (sym may.cell_is) may.pins; stands = may.stands })))
          where
            done : {m : Match} {k : ℕ} {ps : List ℕ} → Contains [] m ⊎ IsListedLike s.cells xs c (gate k ps) → IsListedLike s.cells xs c (gate k ps)
            done (inl in') = over _ in'
            done (inr among) = among

        by_place : (d cell : ℕ) (ps : List ℕ) → d < length s.graph.pairs → MayStand s d (gate cell ps) → (c ≡ d) ⊎ (c < d) → IsListedLike s.cells xs d (gate cell ps)
        by_place d cell ps low may (inl same) = subst (λ k. IsListedLike s.cells xs k (gate cell ps)) same (here cell ps (subst (λ k. MayStand s k (gate cell ps)) (sym same) may))
        by_place d cell ps low may (inr lt) = is.gates_are d cell ps lt low may

  -- all are listed, and then the list is turned round
  pub all_choices : (xs : List Choice) → IsListing s 0 0 xs → AreListedChoices s (reverse xs)
  all_choices xs is = record {
    each = λ n x at. let (k, e) = there n x at in is.each k x e;
    within = λ n x at. let (k, e) = there n x at in is.within k x e;
    all = λ c part lt may. all c part lt may;
  }
    where
      there : (n : ℕ) (x : Choice) → slice_get (reverse xs) n ≡ Some x → (k : ℕ) × (slice_get xs k ≡ Some x)
      there n x at = contained_at xs x (Contains-permutation (reverse xs) xs x (IsPermutation-sym xs (reverse xs) (IsPermutation-reverse xs)) (at_contained (reverse xs) n x at))

      back : (k : ℕ) (x : Choice) → slice_get xs k ≡ Some x → (n : ℕ) × (slice_get (reverse xs) n ≡ Some x)
      back k x at = contained_at (reverse xs) x (Contains-permutation xs (reverse xs) x (IsPermutation-reverse xs) (at_contained xs k x at))

      all : (c : ℕ) (part : Part) → c < length s.graph.pairs → MayStand s c part → IsListedLike s.cells (reverse xs) c part
      all c (input i) lt may =
          let (k, at) = is.inputs_are i c (omega arith) may in
          let (n, e) = back k (record { class = c; part = input i }) at in
          record { number = n; other = input i; at = e; alike = refl }
      all c (gate cell ps) lt may =
          let like = is.gates_are c cell ps (omega arith) lt may in
          let (n, e) = back like.number (record { class = c; part = like.other }) like.at in
          record { number = n; other = like.other; at = e; alike = like.alike }
