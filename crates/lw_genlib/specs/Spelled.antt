-- The expression that tokens spell, read from left to right: what is kept of each group that is open.
use Rattle.std.specs.Prelude.{ℕ, ◌-◌, ◌==◌, zero, suc, List, [], ◌∷◌, ◌++◌, fold, length, take, drop, Option, Some}
use Rattle.std.specs.Prelude.{None, if◌then◌else◌, false}
use Rattle.lw_laws.specs.Expressions.{Expr}
use Rattle.lw_laws.specs.Expressions.Expr.{expr_const, expr_not}
use Rattle.lw_genlib.specs.declared.token.Token.{Token}
use Rattle.lw_genlib.specs.declared.token.Token.TheVariants.{Name, Punct}
use Rattle.lw_genlib.specs.Grammar.{literal_of, product_of, sum_of}

pub record Group : Type 0 where
  -- the products before the last `+`
  pub products : List Expr
  -- the factors of the product behind it
  pub factors : List Expr
  -- how many `!` stand behind those
  pub bangs : ℕ
  -- and then an atom
  pub atom : Option Expr

abbrev pub new_group : Group
new_group = record { products = []; factors = []; bangs = 0; atom = None }

-- so many complements of an expression
abbrev pub complements : ℕ → Expr → Expr
complements zero e = e
complements (suc n) e = complements n (expr_not e)

-- the factors with one more, where there is an atom
abbrev pub with_factor : List Expr → ℕ → Option Expr → List Expr
with_factor factors bangs None = factors
with_factor factors bangs (Some e) = factors ++ complements bangs e ∷ []

-- an atom has no more `!` before it than those that stand behind the last factor
abbrev pub bangs_left : ℕ → Option Expr → ℕ
bangs_left bangs None = bangs
bangs_left bangs (Some e) = 0

-- the group where the factor, if there is one, is at its end
abbrev pub factor_ended : Group → Group
factor_ended g =
    record {
      products = g.products;
      factors = with_factor g.factors g.bangs g.atom;
      bangs = bangs_left g.bangs g.atom;
      atom = None;
    }

abbrev pub product_ended : Group → Group
product_ended g =
    record { products = g.products ++ product_of (factor_ended g).factors ∷ []; factors = []; bangs = 0; atom = None }

abbrev pub with_bang : Group → Group
with_bang g =
    record {
      products = g.products;
      factors = (factor_ended g).factors;
      bangs = suc (factor_ended g).bangs;
      atom = None;
    }

abbrev pub with_atom : Group → Expr → Group
with_atom g e =
    record { products = g.products; factors = (factor_ended g).factors; bangs = (factor_ended g).bangs; atom = Some e }

abbrev pub quoted_atom : Option Expr → Option Expr
quoted_atom None = None
quoted_atom (Some e) = Some (expr_not e)

abbrev pub with_quote : Group → Group
with_quote g = record { products = g.products; factors = g.factors; bangs = g.bangs; atom = quoted_atom g.atom }

-- the expression of the whole group
abbrev pub value_of : Group → Expr
value_of g = sum_of (product_ended g).products

-- the groups that are open, the inmost first, where the inmost is closed
abbrev pub group_closed : Expr → List Group → List Group
group_closed e [] = []
group_closed e (g ∷ groups) = with_atom g e ∷ groups

-- the open groups behind one more token
abbrev pub with_token : List (List ℕ) → List Group → Token → List Group
with_token pins [] token = []
with_token pins (g ∷ groups) (Name name) = with_atom g (literal_of pins name) ∷ groups
with_token pins (g ∷ groups) (Punct b) =
    if b == 33 then with_bang g ∷ groups
    else (if b == 39 then with_quote g ∷ groups
    else (if b == 42 then factor_ended g ∷ groups
    else (if b == 43 then product_ended g ∷ groups
    else (if b == 40 then new_group ∷ factor_ended g ∷ groups
    else (if b == 41 then group_closed (value_of g) groups
    else g ∷ groups)))))

abbrev pub value_of_all : List Group → Expr
value_of_all [] = expr_const false
value_of_all (g ∷ groups) = value_of g

-- the expression of these tokens
unfoldable pub expression_of : List (List ℕ) → List Token → Expr
expression_of pins tokens = value_of_all (fold (with_token pins) (new_group ∷ []) tokens)

-- the tokens of an expression, among those of a function with its `;`
abbrev pub inner_of : List Token → List Token
inner_of tokens = take (length tokens - 1 - 2) (drop 2 tokens)
