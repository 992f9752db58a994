-- The statements of the laws.
use Rattle.std.specs.Prelude.{ℕ, ◌%◌, ◌<◌, ◌≤◌, ◌≡◌, ◌↔◌, ◌^◌, List, length, slice_get, Option, Some, Bool}
use Rattle.std.specs.List.{AllByRecursion}
use Rattle.lw_laws.specs.Modes.{Mode}
use Rattle.lw_laws.specs.Trees.{Tree, tree_value}
use Rattle.lw_laws.specs.Graphs.{Graph, PairsInOneClass, Unfolds, class_of}
use Rattle.lw_laws.specs.Families.{Derives}
use Rattle.lw_laws.specs.NumberedForms.{NumberedForms, family_of, NumberOccurs}
use Rattle.lw_laws.specs.Costs.{Cost, IsCost, cost_of}
use Rattle.lw_laws.specs.Choices.{HasLabelAtMost, IsAttained, Attains}
use Rattle.lw_laws.specs.Covers.{Timing, Pattern, ArePatterns, Cover, tree_of, IsCover}
use Rattle.lw_laws.specs.Matches.{choices_of}
use Rattle.lw_laws.specs.Rounds.{labels_in, IsBoundedAt, AreSound}
use Rattle.lw_laws.specs.HeightRounds.{IsKnown, AreHeightsUpTo}
use Rattle.lw_laws.specs.Forms.{Form, form_value}
use Rattle.lw_laws.specs.Decompositions.{Occurs, HasTree}
use Rattle.lw_laws.specs.Listings.{Listing, IsListed}
use Rattle.lw_laws.specs.Numbering.{number}

-- a tree unfolds at one class at most
abbrev pub TreesUnfoldOnce : Graph → Type 0
TreesUnfoldOnce g = (t : Tree) (c d : ℕ) → Unfolds g t c → Unfolds g t d → c ≡ d

-- the trees of each form's class are those that the rules derive for the form
abbrev pub HasNumberedTrees : Mode → NumberedForms → Graph → Type 0
HasNumberedTrees mode forms g =
    (f : ℕ) (t : Tree) → NumberOccurs forms f → Unfolds g t (class_of g f) ↔ Derives (family_of mode forms) f t

-- each tree of a form's class has the form's truth value
abbrev pub HasNumberedTruth : Mode → NumberedForms → Graph → (ℕ → Bool) → (ℕ → Bool) → Type 0
HasNumberedTruth mode forms g x value =
    (f : ℕ) (t : Tree) → NumberOccurs forms f → Unfolds g t (class_of g f) → tree_value x t ≡ value f

-- each class at which a cover's tree unfolds is labelled, not above the cost of the cover
abbrev pub BoundsCovers : Graph → List Pattern → Cost → List (Option ℕ) → Type 0
BoundsCovers g pats cost labels =
    (k : Cover) (c : ℕ) → IsCover cost.pin_counts pats k → Unfolds g (tree_of k) c
    → HasLabelAtMost (labels_in labels) c (cost_of cost k)

-- the trees of each form's class are those that the rules give the form
abbrev pub HasTheTrees : Mode → Listing → Graph → Type 0
HasTheTrees mode o g =
    (f : Form) (t : Tree) → IsListed o f → Unfolds g t (class_of g (number o.bases f))
    ↔ HasTree mode o.width o.signals f t

-- a form is listed, as it is or by its complement, exactly where it occurs
abbrev pub ListsTheOccurring : Listing → Type 0
ListsTheOccurring o = (f : Form) → IsListed o f ↔ Occurs o.signals f

-- each tree of an occurring form has the form's truth value
abbrev pub TreesHaveValue : Mode → Listing → (ℕ → Bool) → Type 0
TreesHaveValue mode o x =
    (f : Form) (t : Tree) → Occurs o.signals f → HasTree mode o.width o.signals f t → tree_value x t ≡ form_value x f

-- two listed forms are of one class exactly where they have a common tree
abbrev pub ClassesAreSharedTrees : Mode → Listing → Graph → Type 0
ClassesAreSharedTrees mode o g =
    (f h : Form) → IsListed o f → IsListed o h → (class_of g (number o.bases f) ≡ class_of g (number o.bases h))
    ↔ ((t : Tree) × HasTree mode o.width o.signals f t × HasTree mode o.width o.signals h t)

-- each tree of a form's class has the form's truth value
abbrev pub ClassesHaveValue : Listing → Graph → (ℕ → Bool) → Type 0
ClassesHaveValue o g x =
    (f : Form) (t : Tree) → IsListed o f → Unfolds g t (class_of g (number o.bases f)) → tree_value x t ≡ form_value x f

-- what covers are sought for: a graph with each pair in one class at most, patterns of cells, and a cost of these cells
pub record IsCoverProblem (g : Graph) (pats : List Pattern) (cost : Cost) : Type 0 where
  pub few : length g.leaves < 2 ^ 32
  pub once : PairsInOneClass g
  pub patterns : ArePatterns cost.pin_counts pats
  pub cost_is : IsCost cost

-- each label is the cost of a cover
abbrev pub IsAttainedIn : Graph → List Pattern → Cost → List (Option ℕ) → Type 0
IsAttainedIn g pats cost labels = IsAttained (choices_of g cost.pin_counts pats) cost (labels_in labels)

-- an input's class has no other label than the cost of its leaf
abbrev pub AreLeafLabels : Graph → Cost → List (Option ℕ) → Type 0
AreLeafLabels g cost labels =
    (c i l : ℕ) → slice_get g.leaves i ≡ Some c → labels_in labels c ≡ Some l → l ≡ cost.leaf i

abbrev pub AreDelaysUpTo : ℕ → List (List ℕ) → Type 0
AreDelaysUpTo delay delays = AllByRecursion (AllByRecursion (λ d. d ≤ delay)) delays

-- no delay of a cell and no start of an input is above this one
abbrev pub IsTimingUpTo : ℕ → Timing → Type 0
IsTimingUpTo delay timing = AreDelaysUpTo delay timing.delays × AllByRecursion (λ s. s ≤ delay) timing.starts

-- what rounds of labelling keep: labels are costs of covers, and inputs' classes are labelled
abbrev pub AreSoundIn : Graph → List Pattern → Cost → List (Option ℕ) → Type 0
AreSoundIn g pats cost labels = AreSound (choices_of g cost.pin_counts pats) cost (labels_in labels)

-- no match would give its class a lower label, or a label that it lacks
abbrev pub AreBoundedIn : Graph → List Pattern → Cost → List (Option ℕ) → Type 0
AreBoundedIn g pats cost labels = (c : ℕ) → IsBoundedAt (choices_of g cost.pin_counts pats) cost (labels_in labels) c

-- the class is that of an input, which costs l
abbrev pub IsLeafCost : Graph → Cost → ℕ → ℕ → Type 0
IsLeafCost g cost c l = (i : ℕ) × (slice_get g.leaves i ≡ Some c) × (l ≡ cost.leaf i)

-- the heights of the classes that have one of h at most
abbrev pub AreHeightsUpToIn : Graph → List Pattern → Cost → List (Option ℕ) → (ℕ → Option ℕ) → ℕ → Type 0
AreHeightsUpToIn g pats cost labels heights h =
    AreHeightsUpTo (choices_of g cost.pin_counts pats) cost (labels_in labels) heights h

-- a class has a height where some match that attains its label has pins that have one
abbrev pub AreHeightsClosed : Graph → List Pattern → Cost → List (Option ℕ) → (ℕ → Option ℕ) → Type 0
AreHeightsClosed g pats cost labels heights =
    (c cell : ℕ) (ps : List ℕ) → Attains (choices_of g cost.pin_counts pats) cost (labels_in labels) c cell ps
    → AllByRecursion (IsKnown heights) ps → IsKnown heights c

-- classes come in pairs, and true is one of them
pub record HasClasses (g : Graph) (count : ℕ) : Type 0 where
  pub all : length g.pairs ≡ count
  pub even : count % 2 ≡ 0
  pub one : g.one < count
