-- While nodes are searched for that a node leads to.
use Rattle.std.specs.Prelude.{ℕ, ◌+◌, ◌*◌, ◌<◌, ◌≤◌, ◌≡◌, ◌⊎◌, count_by, vec_len, Bool, true, false, not, List, length}
use Rattle.std.specs.Prelude.{slice_index_or, Contains}
use Rattle.lw_dag.specs.declared.cycles.Reached.{Reached}
use Rattle.lw_dag.specs.Graphs.{fanins_at, Leads}

abbrev pub is_seen : List Bool → ℕ → Bool
is_seen seen x = slice_index_or seen x false

-- how many nodes aren't seen
abbrev pub unseen : List Bool → ℕ
unseen seen = count_by not seen

-- the node p, or one that was seen
abbrev pub IsReached : ℕ → List Bool → ℕ → Type 0
IsReached p seen x = (x ≡ p) ⊎ (is_seen seen x ≡ true)

-- What was seen is led to from p, and each fan-in of a node that was reached was seen, unless the node is still to be
-- looked at, or the fan-in is.
pub record IsSearching (inputs : ℕ) (graph : List (List ℕ)) (p : ℕ) (seen : List Bool)
    (ready later : List ℕ) : Type 0 where
  pub flags : length seen ≡ length graph
  pub reached : (x : ℕ) → is_seen seen x ≡ true → Leads inputs graph p (inputs + x)
  pub nodes : (x : ℕ) → Contains ready x → (x < length graph) × IsReached p seen x
  pub fanins : (s : ℕ) → Contains later s → (s < inputs + length graph) × Leads inputs graph p s
  pub closed : (x y : ℕ) → IsReached p seen x → Contains (fanins_at graph x) (inputs + y)
      → (is_seen seen y ≡ true) ⊎ Contains ready x ⊎ Contains later (inputs + y)

-- Signals were noted: they need not be looked at any more, and there is no more to do than before.
pub record AreLookedAt (inputs : ℕ) (later still : List ℕ) (old new : Reached) : Type 0 where
  pub searching : (graph : List (List ℕ)) (p : ℕ) → IsSearching inputs graph p old.seen.items old.ready.items later
      → IsSearching inputs graph p new.seen.items new.ready.items still
  pub less : 2 * unseen new.seen.items + vec_len new.ready ≤ 2 * unseen old.seen.items + vec_len old.ready
  pub len : vec_len new.seen ≡ vec_len old.seen
