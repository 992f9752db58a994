-- Trees as lists of steps in postfix order.
use Rattle.std.specs.Prelude.{◌≡◌, Bool, true, false, List, [], ◌∷◌, ◌++◌, fold}
use Rattle.lw_laws.specs.Trees.{Tree, leaf, const_one, const_zero, inv, nand}
use Rattle.lw_laws.specs.Patterns.{Operator as LawOperator, inverted}
use Rattle.lw_laws.specs.Patterns.Operator.{and_op, or_op}
use Rattle.lw_pattern.specs.declared.step.Step.{Step}
use Rattle.lw_pattern.specs.declared.step.Step.TheVariants.{Leaf, True, False, Not, Both}
use Rattle.lw_pattern.specs.declared.step.Operator.{Operator}
use Rattle.lw_pattern.specs.declared.step.Operator.TheVariants.{And, Or}

-- the steps that spell a tree: those of its operands in order, and then its own
abbrev pub steps_of : Tree → List Step
steps_of (leaf k) = Leaf k ∷ []
steps_of const_one = True ∷ []
steps_of const_zero = False ∷ []
steps_of (inv t) = steps_of t ++ Not ∷ []
steps_of (nand t u) = steps_of t ++ (steps_of u ++ Both ∷ [])

-- a step that takes no tree before it
abbrev pub is_single : Step → Bool
is_single (Leaf k) = true
is_single True = true
is_single False = true
is_single Not = false
is_single Both = false

-- the trees so far, the last one first, behind one more step
abbrev pub stacked : List Tree → Step → List Tree
stacked trees (Leaf k) = leaf k ∷ trees
stacked trees True = const_one ∷ trees
stacked trees False = const_zero ∷ trees
stacked [] Not = []
stacked (t ∷ trees) Not = inv t ∷ trees
stacked [] Both = []
stacked (u ∷ []) Both = []
stacked (u ∷ t ∷ trees) Both = nand t u ∷ trees

abbrev pub top : List Tree → Tree
top [] = const_one
top (t ∷ trees) = t

-- the tree that the steps spell
abbrev pub spelled : List Step → Tree
spelled steps = top (fold stacked [] steps)

abbrev pub law_operator : Operator → LawOperator
law_operator And = and_op
law_operator Or = or_op

-- what stands under the NAND of the operator
abbrev pub operand_of : Operator → Tree → Tree
operand_of And t = t
operand_of Or t = inverted t

-- what the operator puts behind its operands
abbrev pub operator_steps : Operator → List Step
operator_steps And = Both ∷ Not ∷ []
operator_steps Or = Both ∷ []

-- what stands behind the left operand where the tree is the right one
abbrev pub IsTail : Operator → Tree → List Step → Type 0
IsTail operator u tail = tail ≡ steps_of (operand_of operator u) ++ operator_steps operator

abbrev pub is_complement : Tree → Bool
is_complement (leaf k) = false
is_complement const_one = false
is_complement const_zero = false
is_complement (inv t) = true
is_complement (nand t u) = false
