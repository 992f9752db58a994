-- A draft whose names are numbered: inputs, and then what gates and wires drive, as they are given.
use Rattle.std.specs.Prelude.{ℕ, ◌+◌, ◌<◌, ◌≤◌, ◌≡◌, max, nat_lt, cond, Some, None, Result, MatchResult, ⊤, List, []}
use Rattle.std.specs.Prelude.{◌∷◌, map, length, slice_index_or, Contains}
use Rattle.lw_dag.specs.Graphs.{fanins_at, height_at, most_signals}
pub use Rattle.lw_dag.specs.Names.{number_in}
use Rattle.lw_pool.specs.declared.id.NetId.{NetId}
use Rattle.lw_named_netlist.specs.declared.fault.NetlistFault.{NetlistFault}
use Rattle.lw_named_netlist.specs.declared.fault.NetlistFault.TheVariants.{Twice, Undriven, Cycle, Memory}
use Rattle.lw_named_netlist.specs.Closing.{Link, twice_after, undriven_in}

-- The first of these names that is there twice is named.
abbrev pub TellsTwice : List (List ℕ) → NetlistFault → Type 0
TellsTwice names (Twice name) = twice_after [] names ≡ Some name
TellsTwice names (Undriven name) = ⊥
TellsTwice names (Cycle name) = ⊥
TellsTwice names Memory = ⊤

-- The first of these names that nothing drives is named.
abbrev pub TellsUndriven : List (List ℕ) → List (List ℕ) → NetlistFault → Type 0
TellsUndriven driven names (Twice name) = ⊥
TellsUndriven driven names (Undriven name) = undriven_in driven names ≡ Some name
TellsUndriven driven names (Cycle name) = ⊥
TellsUndriven driven names Memory = ⊤

-- All of these names are driven and the promise holds of what is found, or else the first that is not is told.
abbrev pub FindsDriven : {A : Type 0} → List (List ℕ) → List (List ℕ) → Result A NetlistFault → (A → Type 0) → Type 0
FindsDriven driven names result P =
    MatchResult result (λ found. P found × (undriven_in driven names ≡ None)) (TellsUndriven driven names)

-- No name is there twice, and there are numbers for all.
pub record HaveNumbers (names : List (List ℕ)) : Type 0 where
  pub once : twice_after [] names ≡ None
  pub few : length names ≤ most_signals

-- the numbers of the names that each hangs on
abbrev pub numbered : List (List ℕ) → List Link → List (List ℕ)
numbered driven ls = map (λ (link : Link). map (number_in driven) link.needs) ls

-- the net with this number
abbrev pub net_at : List NetId → ℕ → NetId
net_at nets number = slice_index_or nets number (record { 0 = 0 })

abbrev pub depth_at : List ℕ → ℕ → ℕ
depth_at depths s = slice_index_or depths s 0

-- where the net of a name starts: at an input or at a gate
abbrev pub start_at : List ℕ → ℕ → ℕ
start_at starts s = slice_index_or starts s 0

-- the greatest depth of some names
abbrev pub deepest : List ℕ → List ℕ → ℕ
deepest depths [] = 0
deepest depths (s ∷ names) = max (depth_at depths s) (deepest depths names)

-- what a node adds to a depth: a gate 1, and a wire nothing
abbrev pub step_of : ℕ → ℕ → ℕ
step_of gates j = cond (nat_lt j gates) 1 0

-- where the first of some names starts
abbrev pub first_start : List ℕ → ℕ → List ℕ → ℕ
first_start starts own [] = own
first_start starts own (s ∷ names) = start_at starts s

-- where a node starts: a gate at itself, and a wire where its source does
abbrev pub own_start : ℕ → ℕ → List ℕ → ℕ → List ℕ → ℕ
own_start gates j starts own needs = cond (nat_lt j gates) own (first_start starts own needs)

-- the depth and the start of a node are known from those of what it hangs on
pub record IsSettled (gates j own : ℕ) (depths starts needs : List ℕ) : Type 0 where
  pub depth : depth_at depths own ≡ step_of gates j + deepest depths needs
  pub start : start_at starts own ≡ own_start gates j starts own needs

-- The depths and the starts of the nodes that are done are right, and no name is deeper than it is high.
pub record AreSettled (inputs gates : ℕ) (graph : List (List ℕ)) (heights done depths starts : List ℕ) : Type 0 where
  pub depths_each : length depths ≡ inputs + length graph
  pub starts_each : length starts ≡ inputs + length graph
  pub at_inputs : (s : ℕ) → s < inputs → (depth_at depths s ≡ 0) × (start_at starts s ≡ s)
  pub settled : (j : ℕ) → Contains done j → IsSettled gates j (inputs + j) depths starts (fanins_at graph j)
  pub shallow : (s : ℕ) → depth_at depths s ≤ height_at heights s
  pub within : (s : ℕ) → s < inputs + length graph → start_at starts s < inputs + length graph
