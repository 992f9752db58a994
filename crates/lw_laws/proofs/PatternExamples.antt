-- The worked patterns, computed.
use Rattle.std.proofs.Common.{◌≡◌, true, List, [], ◌∷◌, length, refl}
use Rattle.lw_laws.specs.Trees.{leaf, const_one, inv, nand}
use Rattle.lw_laws.specs.Expressions.{Expr, Exprs}
use Rattle.lw_laws.specs.Expressions.Expr.{expr_const, expr_pin, expr_not, expr_and, expr_or}
use Rattle.lw_laws.specs.Expressions.Exprs.{no_exprs, more_exprs}
use Rattle.lw_laws.specs.Patterns.{trees_of_expr}

abbrev pub exprs : List Expr → Exprs
exprs [] = no_exprs
exprs (e ∷ es) = more_exprs e (exprs es)

abbrev a : Expr
a = expr_pin 0

abbrev b : Expr
b = expr_pin 1

abbrev c : Expr
c = expr_pin 2

abbrev d : Expr
d = expr_pin 3

-- the functions !a, a, a*b, !(a*b*c), a*(b+c), a*!b+!a*b and CONST1
pub inverter : trees_of_expr (expr_not a) ≡ inv (leaf 0) ∷ []
inverter = refl

pub buffer : trees_of_expr a ≡ leaf 0 ∷ []
buffer = refl

pub and_2 : trees_of_expr (expr_and (exprs (a ∷ b ∷ []))) ≡ inv (nand (leaf 0) (leaf 1)) ∷ []
and_2 = refl

pub nand_3 : trees_of_expr (expr_not (expr_and (exprs (a ∷ b ∷ c ∷ [])))) ≡ nand (inv (nand (leaf 0) (leaf 1))) (leaf 2) ∷ nand (leaf 0) (inv (nand (leaf 1) (leaf 2))) ∷ []
nand_3 = refl

pub and_or : trees_of_expr (expr_and (exprs (a ∷ expr_or (exprs (b ∷ c ∷ [])) ∷ []))) ≡ inv (nand (leaf 0) (nand (inv (leaf 1)) (inv (leaf 2)))) ∷ []
and_or = refl

pub xor_2 : trees_of_expr (expr_or (exprs (expr_and (exprs (a ∷ expr_not b ∷ [])) ∷ expr_and (exprs (expr_not a ∷ b ∷ [])) ∷ []))) ≡ nand (nand (leaf 0) (inv (leaf 1))) (nand (inv (leaf 0)) (leaf 1)) ∷ []
xor_2 = refl

pub one : trees_of_expr (expr_const true) ≡ const_one ∷ []
one = refl

-- two, three and four operands have 1, 2 and 5 bracketings
pub bracketings_2 : length (trees_of_expr (expr_and (exprs (a ∷ b ∷ [])))) ≡ 1
bracketings_2 = refl

pub bracketings_3 : length (trees_of_expr (expr_and (exprs (a ∷ b ∷ c ∷ [])))) ≡ 2
bracketings_3 = refl

pub bracketings_4 : length (trees_of_expr (expr_and (exprs (a ∷ b ∷ c ∷ d ∷ [])))) ≡ 5
bracketings_4 = refl

-- three of the four operands of an And with two bracketings each make 40, and four of them 80, which is too many
abbrev or_3 : Expr
or_3 = expr_or (exprs (a ∷ b ∷ c ∷ []))

pub forty : length (trees_of_expr (expr_and (exprs (or_3 ∷ or_3 ∷ or_3 ∷ d ∷ [])))) ≡ 40
forty = refl

pub eighty : length (trees_of_expr (expr_and (exprs (or_3 ∷ or_3 ∷ or_3 ∷ or_3 ∷ [])))) ≡ 1
eighty = refl

-- five operands take the left chain, the first operand's patterns varying slowest
pub chain_5 : trees_of_expr (expr_and (exprs (a ∷ b ∷ c ∷ d ∷ expr_not (expr_and (exprs (a ∷ b ∷ c ∷ []))) ∷ []))) ≡ inv (nand (inv (nand (inv (nand (inv (nand (leaf 0) (leaf 1))) (leaf 2))) (leaf 3))) (nand (inv (nand (leaf 0) (leaf 1))) (leaf 2))) ∷ inv (nand (inv (nand (inv (nand (inv (nand (leaf 0) (leaf 1))) (leaf 2))) (leaf 3))) (nand (leaf 0) (inv (nand (leaf 1) (leaf 2))))) ∷ []
chain_5 = refl
