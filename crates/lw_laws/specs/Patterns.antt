-- The patterns of a cell's function: its trees, one for each way to bracket its operators.
use Rattle.std.specs.Prelude.{ℕ, suc, Bool, true, false, cond, leb, List, [], ◌∷◌, ◌++◌, map, length}
use Rattle.lw_laws.specs.Trees.{Tree, leaf, const_one, const_zero, inv, nand}
use Rattle.lw_laws.specs.Covers.{Pattern}
use Rattle.lw_laws.specs.Expressions.{Expr, Exprs}
use Rattle.lw_laws.specs.Expressions.Expr.{expr_const, expr_pin, expr_not, expr_and, expr_or}
use Rattle.lw_laws.specs.Expressions.Exprs.{no_exprs, more_exprs}

-- the inverter of a tree; two inverters in a row fall away
abbrev pub inverted : Tree → Tree
inverted (inv t) = t
inverted (leaf k) = inv (leaf k)
inverted const_one = inv const_one
inverted const_zero = inv const_zero
inverted (nand t u) = inv (nand t u)

pub data Operator : Type 0 where
  and_op : Operator
  or_op : Operator

-- AND is the inverted NAND, and OR the NAND of the inverted operands
abbrev pub tree_by : Operator → Tree → Tree → Tree
tree_by and_op t u = inverted (nand t u)
tree_by or_op t u = nand (inverted t) (inverted u)

-- the operator over no operand
abbrev pub empty_tree : Operator → Tree
empty_tree and_op = const_one
empty_tree or_op = const_zero

abbrev pub each_with : Operator → Tree → List Tree → List Tree
each_with op t us = map (tree_by op t) us

-- each tree of the left list joined with each of the right one, the left one varying slowest
abbrev pub all_pairs : Operator → List Tree → List Tree → List Tree
all_pairs op [] us = []
all_pairs op (t ∷ ts) us = each_with op t us ++ all_pairs op ts us

-- all bracketings of three and of four operands, given the trees of each: the cut as late as possible first
abbrev pub three : Operator → List Tree → List Tree → List Tree → List Tree
three op a b c = all_pairs op (all_pairs op a b) c ++ all_pairs op a (all_pairs op b c)

abbrev pub four : Operator → List Tree → List Tree → List Tree → List Tree → List Tree
four op a b c d =
    all_pairs op (three op a b c) d
    ++ (all_pairs op (all_pairs op a b) (all_pairs op c d) ++ all_pairs op a (three op b c d))

-- the left chain in written order
abbrev pub left_chain : Operator → List Tree → List (List Tree) → List Tree
left_chain op ts [] = ts
left_chain op ts (us ∷ rest) = left_chain op (all_pairs op ts us) rest

-- two to four operands take all bracketings, more of them the left chain
abbrev pub bracketings : Operator → List (List Tree) → List Tree
bracketings op [] = empty_tree op ∷ []
bracketings op (a ∷ []) = a
bracketings op (a ∷ b ∷ []) = all_pairs op a b
bracketings op (a ∷ b ∷ c ∷ []) = three op a b c
bracketings op (a ∷ b ∷ c ∷ d ∷ []) = four op a b c d
bracketings op (a ∷ b ∷ c ∷ d ∷ e ∷ rest) = left_chain op a (b ∷ c ∷ d ∷ e ∷ rest)

abbrev pub constant_tree : Bool → Tree
constant_tree true = const_one
constant_tree false = const_zero

-- the trees of an expression with all bracketings
abbrev mutual
  pub bracketed : Expr → List Tree
  bracketed (expr_const b) = constant_tree b ∷ []
  bracketed (expr_pin k) = leaf k ∷ []
  bracketed (expr_not e) = map inverted (bracketed e)
  bracketed (expr_and es) = bracketings and_op (each_bracketed es)
  bracketed (expr_or es) = bracketings or_op (each_bracketed es)

  pub each_bracketed : Exprs → List (List Tree)
  each_bracketed no_exprs = []
  each_bracketed (more_exprs e es) = bracketed e ∷ each_bracketed es

-- the tree in which every operator takes the left chain
abbrev pub chain_from : Operator → Tree → List Tree → Tree
chain_from op t [] = t
chain_from op t (u ∷ us) = chain_from op (tree_by op t u) us

abbrev pub chain_of : Operator → List Tree → Tree
chain_of op [] = empty_tree op
chain_of op (t ∷ ts) = chain_from op t ts

abbrev mutual
  pub chained : Expr → Tree
  chained (expr_const b) = constant_tree b
  chained (expr_pin k) = leaf k
  chained (expr_not e) = inverted (chained e)
  chained (expr_and es) = chain_of and_op (each_chained es)
  chained (expr_or es) = chain_of or_op (each_chained es)

  pub each_chained : Exprs → List Tree
  each_chained no_exprs = []
  each_chained (more_exprs e es) = chained e ∷ each_chained es

-- an expression has all its bracketings, or its left chain alone where they are more than 64
abbrev pub trees_of_expr : Expr → List Tree
trees_of_expr e = cond (leb (length (bracketed e)) 64) (bracketed e) (chained e ∷ [])

abbrev pub pattern_of_cell : ℕ → Tree → Pattern
pattern_of_cell cell t = record { cell = cell; tree = t }

-- the patterns of a cell with these forms
abbrev pub patterns_of_cell : ℕ → List Expr → List Pattern
patterns_of_cell cell [] = []
patterns_of_cell cell (e ∷ forms) = map (pattern_of_cell cell) (trees_of_expr e) ++ patterns_of_cell cell forms

abbrev pub patterns_from : ℕ → List (List Expr) → List Pattern
patterns_from cell [] = []
patterns_from cell (forms ∷ cells) = patterns_of_cell cell forms ++ patterns_from (suc cell) cells

-- the patterns of a library, given the forms of each cell: by cells, then forms, then bracketings
abbrev pub patterns_of : List (List Expr) → List Pattern
patterns_of cells = patterns_from 0 cells
