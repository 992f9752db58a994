-- Lists of matches that are a cover of the outputs, and the classes that the first of them have seen.
use Rattle.std.specs.Prelude.{ℕ, ◌+◌, ◌<◌, ◌≡◌, Bool, true, false, All, List, length, map, Some, slice_get}
use Rattle.std.specs.Prelude.{slice_index_or}
use Rattle.std.specs.List.{AllByRecursion}
use Rattle.lw_pool.specs.Numbers.{numbers}
use Rattle.lw_laws.specs.Graphs.{Graph}
use Rattle.lw_laws.specs.Covers.{Pattern}
use Rattle.lw_laws.specs.Extracts.{IsMatchBy, IsNetOf}
use Rattle.lw_laws.specs.MatchLists.{AreMatchesInOrder, HasNetBefore}
use Rattle.lw_genlib.specs.Tables.{delays_of_cells}
use Rattle.lw_cost.specs.Values.{plain_match}
use Rattle.lw_extract.specs.declared.choosing.Chosen.{Chosen}
use Rattle.lw_extract.specs.Assembling.{HaveNetsAt}
use Rattle.lw_extract.specs.Choosing.{chosen_classes, plain_matches}
use Rattle.lw_look.specs.declared.look.Look.{Look}

-- how many pins each cell of the library has
abbrev pub pin_counts : Look → List ℕ
pin_counts l = map length (delays_of_cells l.lib.now)

-- Each match is one at its class, no class stands twice or is an input's, and each pin's class is an input's or stands
-- earlier. Each output's class is an input's or stands in the list.
pub record IsRightList (l : Look) (list : List Chosen) : Type 0 where
  pub matches : AreMatchesInOrder l.graph.now (pin_counts l) l.pats.now (plain_matches list)
  pub within : All (λ (x : Chosen). x.class.0 < length l.graph.now.pairs) list
  pub roots : HaveNetsAt l.graph.now (chosen_classes list) l.ports.now.roots

-- Step by step.

abbrev pub IsMatchOfCell : Look → Chosen → Type 0
IsMatchOfCell l x = (p : Pattern) × IsMatchBy l.graph.now (pin_counts l) l.pats.now x.class.0 (plain_match x.found) p

abbrev pub is_seen : List Bool → ℕ → Bool
is_seen seen class = slice_index_or seen class false

-- the class can be marked, and is not
abbrev pub IsNew : List Bool → ℕ → Type 0
IsNew seen class = (class < length seen) × (is_seen seen class ≡ false)

-- the classes of inputs and of the first j gates have been seen, and no other
pub record AreSeen (g : Graph) (gates : List ℕ) (j : ℕ) (seen : List Bool) : Type 0 where
  pub one_each : length seen ≡ length g.pairs
  pub some : (c : ℕ) → is_seen seen c ≡ true → HasNetBefore g gates j c
  pub all : (c net : ℕ) → IsNetOf g gates c net → net < length g.leaves + j → is_seen seen c ≡ true

-- the match may stand at place j: its class is new, those of its pins are not, and it is one at its class
pub record MayStand (l : Look) (gates : List ℕ) (j : ℕ) (x : Chosen) : Type 0 where
  pub within : x.class.0 < length l.graph.now.pairs
  pub fresh : HasNetBefore l.graph.now gates j x.class.0 → ⊥
  pub pins : AllByRecursion (HasNetBefore l.graph.now gates j) (numbers x.found.pins)
  pub is_match : IsMatchOfCell l x

-- each match of the list may stand where it is
abbrev pub AllStand : Look → List Chosen → Type 0
AllStand l list = (j : ℕ) (x : Chosen) → slice_get list j ≡ Some x → MayStand l (chosen_classes list) j x
