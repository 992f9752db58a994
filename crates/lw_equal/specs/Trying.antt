-- All assignments of few inputs, 64 at a time: bit k of a word is the value under assignment k of a block.
use Rattle.std.specs.Prelude.{ℕ, ◌+◌, ◌*◌, ◌<◌, ◌≤◌, ◌≡◌, Bool, false, ◌&&◌, ⊤, Some, List, length, slice_get}
use Rattle.std.specs.Prelude.{slice_index, All}
use Rattle.lw_aig.specs.declared.gate.Gate.{Gate}
use Rattle.lw_aig.specs.declared.gate.Gate.TheVariants.{Zero, Input, And}
use Rattle.lw_aig.specs.declared.literal.Literal.{Literal}
use Rattle.lw_aig.specs.Aigs.{AreEqual, AreNodeValues, IsBelow}
use Rattle.lw_aig.specs.Literals.{literal_value}
use Rattle.lw_genlib.specs.Words.{bit}
use Rattle.lw_equal.specs.declared.trying.Ends.{Ends}
use Rattle.lw_equal.specs.declared.trying.Tried.{Tried}
use Rattle.lw_equal.specs.declared.trying.Tried.TheVariants.{Same, Apart}

-- how many inputs there are at most where all assignments are tried
abbrev pub most_tried : ℕ
most_tried = 20

-- the values of the nodes under assignment k of a block
abbrev pub block_value : List ℕ → ℕ → ℕ → Bool
block_value words k n = bit k (slice_index words n)

-- the value of a literal under assignment k of a block
abbrev pub literal_bit : List ℕ → ℕ → Literal → Bool
literal_bit words k l = literal_value (block_value words k) l

-- the word of a node: input i has bit i of the number of an assignment
abbrev pub IsWordOf : Gate → ℕ → ℕ → List ℕ → ℕ → ℕ → Type 0
IsWordOf Zero node block words word k = bit k word ≡ false
IsWordOf Input node block words word k =
    (i : ℕ) → i < most_tried → i + 1 ≡ node → bit k word ≡ bit i (block * 64 + k)
IsWordOf (And a b) node block words word k = bit k word ≡ (literal_bit words k a && literal_bit words k b)

-- The words are the values of the nodes in a block, in which assignment n gives input i bit i of n.
pub record AreBlockWords (gates : List Gate) (block : ℕ) (words : List ℕ) : Type 0 where
  pub one_each : length words ≡ length gates
  pub nodes : (k : ℕ) → k < 64 → AreNodeValues gates (block_value words k)
  pub inputs : (k i : ℕ) → k < 64 → i < most_tried → slice_get gates (i + 1) ≡ Some Input
      → block_value words k (i + 1) ≡ bit i (block * 64 + k)

-- the node is one of the first so many inputs, if it is an input
abbrev pub IsFirst : Gate → ℕ → ℕ → Type 0
IsFirst Zero node inputs = ⊤
IsFirst Input node inputs = node ≤ inputs
IsFirst (And a b) node inputs = ⊤

-- the graph has no inputs but its first so many
abbrev pub HasFewInputs : List Gate → ℕ → Type 0
HasFewInputs gates inputs = (n : ℕ) → slice_get gates n ≡ Some Input → n ≤ inputs

-- both literals are of nodes below n
abbrev pub AreBelow : ℕ → Ends → Type 0
AreBelow n both = IsBelow n both.left × IsBelow n both.right

-- both literals of each pair have one value under every assignment
abbrev pub ArePairsEqual : List Gate → List Ends → Type 0
ArePairsEqual gates ends = All (λ both. AreEqual gates both.left both.right) ends

-- both literals of a pair have the same values in a block
abbrev pub AgreeIn : List ℕ → Ends → Type 0
AgreeIn words both = (k : ℕ) → k < 64 → literal_bit words k both.left ≡ literal_bit words k both.right

-- What trying tells. An assignment that tells a pair apart is looked at before it is believed: nothing is said of it.
abbrev pub Tells : List Gate → List Ends → Tried → Type 0
Tells gates ends Same = ArePairsEqual gates ends
Tells gates ends (Apart place number) = ⊤
