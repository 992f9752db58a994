-- Trees of an expression out of those of its operands.
use Rattle.std.specs.Prelude.{ℕ, ◌+◌, ◌-◌, ◌*◌, ◌≤◌, ◌≡◌, ◌==◌, if◌then◌else◌, min, List, [], ◌∷◌, map, fold}
use Rattle.lw_laws.specs.Trees.{Tree, leaf}
use Rattle.lw_laws.specs.Patterns.{Operator, constant_tree, empty_tree, inverted, left_chain, bracketings}
use Rattle.lw_laws.specs.Patterns.Operator.{and_op, or_op}
use Rattle.lw_genlib.specs.declared.op.ExprOp.{ExprOp}
use Rattle.lw_genlib.specs.declared.op.ExprOp.TheVariants.{Const, Pin, Not, And, Or}
use Rattle.lw_genlib.specs.Postfix.{arity}
use Rattle.lw_pattern.specs.declared.step.Bracketing.{Bracketing}
use Rattle.lw_pattern.specs.declared.step.Bracketing.TheVariants.{Every, LeftChain}

-- the left chain of all operands
abbrev pub chained_all : Operator → List (List Tree) → List Tree
chained_all op [] = empty_tree op ∷ []
chained_all op (ts ∷ rest) = left_chain op ts rest

abbrev pub joined_by : Bracketing → Operator → List (List Tree) → List Tree
joined_by Every op parts = bracketings op parts
joined_by LeftChain op parts = chained_all op parts

abbrev pub first_trees : List (List Tree) → List Tree
first_trees [] = []
first_trees (ts ∷ rest) = ts

-- what a step of an expression makes of the trees of its operands
abbrev pub trees_by : Bracketing → ExprOp → List (List Tree) → List Tree
trees_by way (Const b) parts = constant_tree b ∷ []
trees_by way (Pin k) parts = leaf k ∷ []
trees_by way Not parts = map inverted (first_trees parts)
trees_by way (And n) parts = joined_by way and_op parts
trees_by way (Or n) parts = joined_by way or_op parts

-- how many bracketings so many operands have
abbrev pub shape_count : ℕ → ℕ
shape_count n = if n == 3 then 2 else (if n == 4 then 5 else 1)

abbrev pub capped : ℕ → ℕ
capped n = min 65 n

abbrev pub first_count : List ℕ → ℕ
first_count [] = 0
first_count (n ∷ counts) = n

abbrev pub capped_product : ℕ → List ℕ → ℕ
capped_product n counts = fold (λ all part. capped (all * part)) n counts

-- what a step makes of the numbers of trees of its operands, none counted past 65
abbrev pub count_by : ExprOp → List ℕ → ℕ
count_by (Const b) counts = 1
count_by (Pin k) counts = 1
count_by Not counts = first_count counts
count_by (And n) counts = capped_product (shape_count n) counts
count_by (Or n) counts = capped_product (shape_count n) counts

-- an operator has two operands or more
abbrev pub IsWideStep : ExprOp → Type 0
IsWideStep (Const b) = Unit {0}
IsWideStep (Pin k) = Unit {0}
IsWideStep Not = Unit {0}
IsWideStep (And n) = 2 ≤ n
IsWideStep (Or n) = 2 ≤ n

-- behind so many values the steps find their operands, and leave one value
abbrev pub CanGrow : ℕ → List ExprOp → Type 0
CanGrow size [] = size ≡ 1
CanGrow size (op ∷ ops) = (arity op ≤ size) × IsWideStep op × CanGrow (size - arity op + 1) ops
