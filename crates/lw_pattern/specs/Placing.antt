-- The nodes of steps in postfix order.
use Rattle.std.specs.Prelude.{ℕ, ◌+◌, ◌-◌, ◌≤◌, List, [], ◌∷◌}
use Rattle.lw_pattern.specs.declared.step.Step.{Step}
use Rattle.lw_pattern.specs.declared.step.Step.TheVariants.{Leaf, True, False, Not, Both}
use Rattle.lw_pattern.specs.declared.node.PatNode.{PatNode}
use Rattle.lw_pattern.specs.declared.node.PatNode.TheVariants.{Pin, One, Zero, Inv, Nand}

-- how many trees before it a step takes
abbrev pub taken : Step → ℕ
taken (Leaf k) = 0
taken True = 0
taken False = 0
taken Not = 1
taken Both = 2

-- the node of a step, given the places of the trees that await an operator, the last one first
abbrev pub node_by : List ℕ → Step → PatNode
node_by roots (Leaf k) = Pin k
node_by roots True = One
node_by roots False = Zero
node_by [] Not = Zero
node_by (p ∷ roots) Not = Inv p
node_by [] Both = Zero
node_by (q ∷ []) Both = Zero
node_by (q ∷ p ∷ roots) Both = Nand p q

-- the places that still await one behind the step
abbrev pub untaken : List ℕ → Step → List ℕ
untaken roots (Leaf k) = roots
untaken roots True = roots
untaken roots False = roots
untaken [] Not = []
untaken (p ∷ roots) Not = roots
untaken [] Both = []
untaken (q ∷ []) Both = []
untaken (q ∷ p ∷ roots) Both = roots

-- the nodes of more steps, the first of them at this place
abbrev pub placed : ℕ → List ℕ → List Step → List PatNode
placed place roots [] = []
placed place roots (step ∷ steps) = node_by roots step ∷ placed (place + 1) (place ∷ untaken roots step) steps

-- where so many trees await an operator, the steps find their operands
abbrev pub CanPlace : ℕ → List Step → Type 0
CanPlace size [] = Unit {0}
CanPlace size (step ∷ steps) = (taken step ≤ size) × CanPlace (size - taken step + 1) steps
