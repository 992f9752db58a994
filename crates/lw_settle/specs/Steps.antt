-- How often settling reads the matches of a graph.
use Rattle.std.specs.Prelude.{ℕ, ◌≤◌, ◌≡◌, List, length, Option, Some, None}
use Rattle.lw_laws.specs.Graphs.{Graph}
use Rattle.lw_laws.specs.Covers.{Pattern}
use Rattle.lw_laws.specs.Choices.{Labels}
use Rattle.lw_settle.specs.Stores.{Stored, placed, IsStoreOf, AreTooMany, most_matches}
use Rattle.lw_settle.specs.Settled.{settle_steps}

-- A store of the graph and the patterns is read so often.
pub record IsReadSteps (g : Graph) (pats : List Pattern) (labels : Labels) (steps : ℕ) : Type 0 where
  pub lists : List (List Stored)
  pub store : IsStoreOf g pats lists
  pub few : length (placed lists) ≤ most_matches
  pub steps_are : steps ≡ settle_steps labels lists

-- The steps, or none where there are more matches than a store has.
abbrev pub AreSteps : Graph → List Pattern → Labels → Option ℕ → Type 0
AreSteps g pats labels None = AreTooMany g pats
AreSteps g pats labels (Some steps) = IsReadSteps g pats labels steps
