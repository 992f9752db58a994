-- Functions of cells: expressions over the cell's pins.
use Rattle.std.specs.Prelude.{ℕ, Bool, true, false, not, ◌&&◌, ◌||◌, ◌≡◌, ◌⊎◌, List, [], ◌∷◌}

-- a constant, a pin, NOT, or AND or OR of some operands
mutual
  pub data Expr : Type 0 where
    expr_const : Bool → Expr
    expr_pin : ℕ → Expr
    expr_not : Expr → Expr
    expr_and : Exprs → Expr
    expr_or : Exprs → Expr

  pub data Exprs : Type 0 where
    no_exprs : Exprs
    more_exprs : Expr → Exprs → Exprs

-- the operands of a list
abbrev pub exprs_of : List Expr → Exprs
exprs_of [] = no_exprs
exprs_of (e ∷ es) = more_exprs e (exprs_of es)

-- the first of some expressions
abbrev pub first_expr : List Expr → Expr
first_expr [] = expr_const false
first_expr (e ∷ es) = e

-- the value of an expression, given those of the pins
abbrev mutual
  pub expr_value : (ℕ → Bool) → Expr → Bool
  expr_value y (expr_const b) = b
  expr_value y (expr_pin k) = y k
  expr_value y (expr_not e) = not (expr_value y e)
  expr_value y (expr_and es) = all_true y es
  expr_value y (expr_or es) = some_true y es

  pub all_true : (ℕ → Bool) → Exprs → Bool
  all_true y no_exprs = true
  all_true y (more_exprs e es) = expr_value y e && all_true y es

  pub some_true : (ℕ → Bool) → Exprs → Bool
  some_true y no_exprs = false
  some_true y (more_exprs e es) = expr_value y e || some_true y es

-- pin k stands somewhere in the expression
abbrev mutual
  pub MentionsPin : Expr → ℕ → Type 0
  MentionsPin (expr_const b) k = ⊥
  MentionsPin (expr_pin j) k = j ≡ k
  MentionsPin (expr_not e) k = MentionsPin e k
  MentionsPin (expr_and es) k = SomeMentionsPin es k
  MentionsPin (expr_or es) k = SomeMentionsPin es k

  pub SomeMentionsPin : Exprs → ℕ → Type 0
  SomeMentionsPin no_exprs k = ⊥
  SomeMentionsPin (more_exprs e es) k = MentionsPin e k ⊎ SomeMentionsPin es k
