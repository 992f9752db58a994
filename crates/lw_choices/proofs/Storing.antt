-- Stored matches are listed one by one, the last one first.
use Rattle.std.proofs.Common.{◌≡◌, ℕ, ◌+◌, ◌<◌, ◌≤◌, ◌⊎◌, inl, inr, length, List, [], Some, slice_get, ap, sym, ◌∙◌, subst, arith}
use native.Mathlib.Nat.{eq-or-lt_of_le}
use Rattle.std.proofs.lemmas.Option.{same_Some, slice_get_within}
use Rattle.lw_cost.specs.Least.{AreOfCells}
use Rattle.lw_settle.specs.Stores.{Placed, Stored, IsStoreOf, AreKeptLists, placed, pins_of}
use Rattle.lw_settle.proofs.Agreeing.{match_stored, stored_is}
use Rattle.lw_choices.specs.Areas.{area_cost}
use Rattle.lw_choices.specs.Choices.{Choice, IsListedLike, MayStand}
use Rattle.lw_choices.specs.Choices.Part.{gate}
use Rattle.lw_choices.specs.Tasks.{Task}
use Rattle.lw_choices.specs.Rows.{IsGateAdded, IsListing}
use Rattle.lw_choices.proofs.Growing.{each_more, like_more}

-- of the stored matches from a place on each is listed, or one that is alike
pub record AreStoredFrom (s : Task) (ms : List Placed) (k : ℕ) (xs : List Choice) : Type 0 where
  pub each : (n : ℕ) (x : Choice) → slice_get xs n ≡ Some x → MayStand s x.class x.part
  pub within : (n : ℕ) (x : Choice) → slice_get xs n ≡ Some x → x.class < length s.graph.pairs
  pub gates_are : (i : ℕ) (m : Placed) → k ≤ i → slice_get ms i ≡ Some m → IsListedLike s.cells xs m.class (gate m.stored.cell (pins_of m))

module _ (s : Task) (lists : List (List Stored)) (store : IsStoreOf s.graph s.patterns lists) (of : AreOfCells (area_cost s.cells).pin_counts s.patterns) where
  pub stored_first : (k : ℕ) → k ≡ length (placed lists) → AreStoredFrom s (placed lists) k []
  stored_first k e = record {
    each = λ n x at. cc;
    within = λ n x at. cc;
    gates_are = λ i m le at. let lt = slice_get_within (placed lists) i m at in absurd (omega (arith, e, lt, le));
  }

  -- one more
  pub stored_next : (k : ℕ) (xs ys : List Choice) (x : Choice) (m : Placed) → AreKeptLists lists → slice_get (placed lists) k ≡ Some m → x ≡ record { class = m.class; part = gate m.stored.cell (pins_of m) } → IsGateAdded s.cells xs ys x → AreStoredFrom s (placed lists) (k + 1) xs → AreStoredFrom s (placed lists) k ys
  stored_next k xs ys x m kept at same added is = record {
    each = each_more (λ (y : Choice). MayStand s y.class y.part) xs ys x added.only is.each (subst (λ (y : Choice). MayStand s y.class y.part) (sym same) (stored_is s.graph s.patterns (area_cost s.cells).pin_counts lists of store k m at));
    within = each_more (λ (y : Choice). y.class < length s.graph.pairs) xs ys x added.only is.within (subst (λ (y : Choice). y.class < length s.graph.pairs) (sym same) (let low = kept.class k m at in omega (arith, low, store.one_each)));
    gates_are = λ i n le nt. by_place i n nt (eq-or-lt_of_le {n = k} {m = i} le);
  }
    where
      by_place : (i : ℕ) (n : Placed) → slice_get (placed lists) i ≡ Some n → (k ≡ i) ⊎ (k < i) → IsListedLike s.cells ys n.class (gate n.stored.cell (pins_of n))
      by_place i n nt (inl e) =
          let here : m ≡ n = same_Some m n (sym at ∙ (ap (slice_get (placed lists)) e ∙ nt)) in
          let like = subst (λ (y : Choice). IsListedLike s.cells ys y.class y.part) same added.like in
          subst (λ (p : Placed). IsListedLike s.cells ys p.class (gate p.stored.cell (pins_of p))) here like
      by_place i n nt (inr lt) = like_more s.cells xs ys x n.class (gate n.stored.cell (pins_of n)) added.only (is.gates_are i n (omega arith) nt)

  pub stored_over : (xs : List Choice) → AreStoredFrom s (placed lists) 0 xs → IsListing s (length s.graph.leaves) 0 xs
  stored_over xs is = record {
    each = is.each;
    within = is.within;
    inputs_are = λ i c le at. let lt = slice_get_within s.graph.leaves i c at in absurd (omega arith);
    gates_are = λ c cell ps le lt may.
        let (i, m, at, class, cell_is, pins) = match_stored s.graph s.patterns (area_cost s.cells).pin_counts lists of store c cell ps lt may in
        let here = is.gates_are i m (omega arith) at in
        let here' = subst (λ d. IsListedLike s.cells xs d (gate m.stored.cell (pins_of m))) class here in
        let here'' = subst (λ d. IsListedLike s.cells xs c (gate d (pins_of m))) cell_is here' in
        subst (λ qs. IsListedLike s.cells xs c (gate cell qs)) pins here'';
  }
