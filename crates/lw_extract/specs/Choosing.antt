-- The needed classes with their chosen matches, and how they are found from the highest down.
use Rattle.std.specs.Prelude.{ℕ, ◌≡◌, All, IsSome, List, length, map, MatchOption, None, Option, Some, slice_get}
use Rattle.std.specs.Prelude.{slice_index_or}
use Rattle.lw_pool.specs.declared.id.ClassId.{ClassId}
use Rattle.lw_laws.specs.Graphs.{Graph}
use Rattle.lw_laws.specs.Costs.{Cost}
use Rattle.lw_laws.specs.Covers.{Pattern}
use Rattle.lw_laws.specs.Choices.{Labels}
use Rattle.lw_laws.specs.Marks.{heights_of}
use Rattle.lw_laws.specs.Rounds.{labels_in}
use Rattle.lw_laws.specs.Extracts.{IsChosen, IsLeafClass, AreGateClasses}
use Rattle.lw_laws.specs.MatchLists.{Gated}
use Rattle.lw_cost.specs.declared.mark.Mark.{Mark}
use Rattle.lw_cost.specs.declared.mark.Match.{Match}
use Rattle.lw_cost.specs.Values.{marks_in, plain_match}
use Rattle.lw_cost.specs.Labels.{costs_of}
use Rattle.lw_extract.specs.declared.choosing.Chosen.{Chosen}
use Rattle.lw_pool.specs.Numbers.{numbers}

-- the labels and the heights of marks
abbrev pub labels : List (Option Mark) → Labels
labels marks = labels_in (costs_of marks)

abbrev pub heights : List (Option Mark) → ℕ → ℕ
heights marks = heights_of (marks_in marks)

-- each of the classes has a mark
abbrev pub RootsHaveMarks : List (Option Mark) → List ClassId → Type 0
RootsHaveMarks marks roots = All (λ (root : ClassId). IsSome (slice_index_or marks root.0 None)) roots

-- the match is the chosen one of the class
abbrev pub IsChoice : Graph → Cost → List Pattern → List (Option Mark) → ℕ → Match → Type 0
IsChoice g cost pats marks c found =
    (p : Pattern) × IsChosen g cost pats (labels marks) (heights marks) c (plain_match found) p

-- what is found for a class: its chosen match, and nothing if the class is an input's or has no mark
abbrev pub IsClassChoice : Graph → Cost → List Pattern → List (Option Mark) → ℕ → Option Match → Type 0
IsClassChoice g cost pats marks c found =
    MatchOption found ((IsLeafClass g c → ⊥) → slice_index_or marks c None ≡ None)
    (λ m. (IsLeafClass g c → ⊥) × IsChoice g cost pats marks c m)

-- what is found for the classes of the graph, in the order of their numbers
pub record AreClassChoices (g : Graph) (cost : Cost) (pats : List Pattern) (marks : List (Option Mark))
    (all : List (Option Match)) : Type 0 where
  pub one_each : length all ≡ length g.pairs
  pub each : (c : ℕ) (found : Option Match) → slice_get all c ≡ Some found → IsClassChoice g cost pats marks c found

abbrev pub chosen_classes : List Chosen → List ℕ
chosen_classes chosen = map (λ (x : Chosen). x.class.0) chosen

-- the matches with their classes, as plain data
abbrev pub plain_chosen : Chosen → Gated
plain_chosen x = record { class = x.class.0; found = plain_match x.found }

abbrev pub plain_matches : List Chosen → List Gated
plain_matches chosen = map plain_chosen chosen

-- the classes with a gate, in order, each with its chosen match
pub record AreChosen (g : Graph) (cost : Cost) (pats : List Pattern) (marks : List (Option Mark)) (roots : List ClassId)
    (chosen : List Chosen) : Type 0 where
  pub gate_classes : AreGateClasses g cost pats (labels marks) (heights marks) (numbers roots) (chosen_classes chosen)
  pub each : (j : ℕ) (x : Chosen) → slice_get chosen j ≡ Some x → IsChoice g cost pats marks x.class.0 x.found
