-- Expressions as lists of steps in postfix order.
use Rattle.std.specs.Prelude.{ℕ, ◌+◌, ◌-◌, ◌≤◌, ◌≡◌, ◌↔◌, ◌<◌, false, List, [], ◌∷◌, ◌++◌, length, take, drop}
use Rattle.lw_laws.specs.Expressions.{Expr, Exprs, MentionsPin}
pub use Rattle.lw_laws.specs.Expressions.{exprs_of, first_expr}
use Rattle.lw_laws.specs.Expressions.Expr.{expr_const, expr_pin, expr_not, expr_and, expr_or}
use Rattle.lw_laws.specs.Expressions.Exprs.{no_exprs, more_exprs}
use Rattle.lw_genlib.specs.declared.op.ExprOp.{ExprOp}
use Rattle.lw_genlib.specs.declared.op.ExprOp.TheVariants.{Const, Pin, Not, And, Or}

abbrev pub part_count : Exprs → ℕ
part_count no_exprs = 0
part_count (more_exprs e es) = 1 + part_count es

-- the steps that spell an expression: those of its operands in order, and then its own
abbrev mutual
  pub postfix : Expr → List ExprOp
  postfix (expr_const b) = Const b ∷ []
  postfix (expr_pin k) = Pin k ∷ []
  postfix (expr_not e) = postfix e ++ Not ∷ []
  postfix (expr_and es) = postfixes es ++ And (part_count es) ∷ []
  postfix (expr_or es) = postfixes es ++ Or (part_count es) ∷ []

  pub postfixes : Exprs → List ExprOp
  postfixes no_exprs = []
  postfixes (more_exprs e es) = postfix e ++ postfixes es

-- how many pins and constants stand in it, each counted as often as it stands there
abbrev mutual
  pub literals : Expr → ℕ
  literals (expr_const b) = 1
  literals (expr_pin k) = 1
  literals (expr_not e) = literals e
  literals (expr_and es) = literals_of_all es
  literals (expr_or es) = literals_of_all es

  pub literals_of_all : Exprs → ℕ
  literals_of_all no_exprs = 0
  literals_of_all (more_exprs e es) = literals e + literals_of_all es

-- each AND and each OR has two operands or more
abbrev mutual
  pub IsWide : Expr → Type 0
  IsWide (expr_const b) = Unit {0}
  IsWide (expr_pin k) = Unit {0}
  IsWide (expr_not e) = IsWide e
  IsWide (expr_and es) = (2 ≤ part_count es) × AreWide es
  IsWide (expr_or es) = (2 ≤ part_count es) × AreWide es

  pub AreWide : Exprs → Type 0
  AreWide no_exprs = Unit {0}
  AreWide (more_exprs e es) = IsWide e × AreWide es

-- how many of the expressions before it a step takes
abbrev pub arity : ExprOp → ℕ
arity (Const b) = 0
arity (Pin k) = 0
arity Not = 1
arity (And n) = n
arity (Or n) = n

-- what a step makes of the expressions that it takes
abbrev pub expr_by : ExprOp → List Expr → Expr
expr_by (Const b) es = expr_const b
expr_by (Pin k) es = expr_pin k
expr_by Not es = expr_not (first_expr es)
expr_by (And n) es = expr_and (exprs_of es)
expr_by (Or n) es = expr_or (exprs_of es)

-- the values so far behind one more step, which puts its own in the place of those that it takes
abbrev pub stepped : {A : Type 0} → (ExprOp → List A → A) → ExprOp → List A → List A
stepped by op before = take (length before - arity op) before ++ by op (drop (length before - arity op) before) ∷ []

abbrev pub run : {A : Type 0} → (ExprOp → List A → A) → List ExprOp → List A → List A
run by [] before = before
run by (op ∷ ops) before = run by ops (stepped by op before)

-- the expression that the steps spell
unfoldable pub tree_of : List ExprOp → Expr
tree_of ops = first_expr (run expr_by ops [])

-- the steps spell one whole expression of at most 64 pins and constants
pub record IsPostfix (ops : List ExprOp) : Type 0 where
  pub whole : postfix (tree_of ops) ≡ ops
  pub few : literals (tree_of ops) ≤ 64
  pub wide : IsWide (tree_of ops)

-- the expression is over so many pins: each of them stands in it, and no other
abbrev pub IsOver : ℕ → Expr → Type 0
IsOver pins e = (k : ℕ) → MentionsPin e k ↔ (k < pins)
