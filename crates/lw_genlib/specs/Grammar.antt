-- The functions of cells: which tokens spell which expression.
use Rattle.std.specs.Prelude.{ℕ, ◌+◌, ◌-◌, ◌≤◌, ◌≡◌, ◌==◌, Bool, true, false, not, ◌&&◌, ◌||◌, ◌⊎◌, List, [], ◌∷◌, ◌++◌}
use Rattle.std.specs.Prelude.{unwrap_or, if◌then◌else◌, codes}
use Rattle.std.specs.List.{position}
use Rattle.std.specs.Str.{bytes_eq}
use Rattle.lw_laws.specs.Expressions.{Expr}
use Rattle.lw_laws.specs.Expressions.Expr.{expr_const, expr_pin, expr_not, expr_and, expr_or}
use Rattle.lw_genlib.specs.declared.token.Token.{Token}
use Rattle.lw_genlib.specs.declared.token.Token.TheVariants.{Name, Punct}
use Rattle.lw_genlib.specs.declared.op.ExprOp.{ExprOp}
use Rattle.lw_genlib.specs.Postfix.{exprs_of, postfix}

-- a name: a constant, or a pin by its place among the pins
abbrev pub literal_of : List (List ℕ) → List ℕ → Expr
literal_of pins name =
    if bytes_eq name (codes "CONST0") then expr_const false
    else (if bytes_eq name (codes "CONST1") then expr_const true
    else expr_pin (unwrap_or (position (bytes_eq name) pins) 0))

-- a product of one factor is that factor, and a sum of one product is that product
abbrev pub product_of : List Expr → Expr
product_of [] = expr_and (exprs_of [])
product_of (e ∷ []) = e
product_of (e ∷ f ∷ es) = expr_and (exprs_of (e ∷ f ∷ es))

abbrev pub sum_of : List Expr → Expr
sum_of [] = expr_or (exprs_of [])
sum_of (e ∷ []) = e
sum_of (e ∷ f ∷ es) = expr_or (exprs_of (e ∷ f ∷ es))

abbrev pub open_token : Token
open_token = Punct 40

abbrev pub close_token : Token
close_token = Punct 41

abbrev pub bang_token : Token
bang_token = Punct 33

abbrev pub quote_token : Token
quote_token = Punct 39

abbrev pub star_token : Token
star_token = Punct 42

abbrev pub plus_token : Token
plus_token = Punct 43

-- Tokens that spell a sum of products, a product of factors, a factor, and a name or a group with the `'` behind it.
mutual
  pub data IsSum (pins : List (List ℕ)) : List Token → List Expr → Type 0 where
    first_product : (tokens : List Token) (es : List Expr) → IsProduct pins tokens es
        → IsSum pins tokens (product_of es ∷ [])
    next_product : (before tokens : List Token) (sums es : List Expr) → IsSum pins before sums
        → IsProduct pins tokens es → IsSum pins (before ++ plus_token ∷ tokens) (sums ++ product_of es ∷ [])

  pub data IsProduct (pins : List (List ℕ)) : List Token → List Expr → Type 0 where
    first_factor : (tokens : List Token) (e : Expr) → IsFactor pins tokens e → IsProduct pins tokens (e ∷ [])
    beside_factor : (before tokens : List Token) (es : List Expr) (e : Expr) → IsProduct pins before es
        → IsFactor pins tokens e → IsProduct pins (before ++ tokens) (es ++ e ∷ [])
    times_factor : (before tokens : List Token) (es : List Expr) (e : Expr) → IsProduct pins before es
        → IsFactor pins tokens e → IsProduct pins (before ++ star_token ∷ tokens) (es ++ e ∷ [])

  pub data IsFactor (pins : List (List ℕ)) : List Token → Expr → Type 0 where
    plain_factor : (tokens : List Token) (e : Expr) → IsAtom pins tokens e → IsFactor pins tokens e
    bang_factor : (tokens : List Token) (e : Expr) → IsFactor pins tokens e
        → IsFactor pins (bang_token ∷ tokens) (expr_not e)

  pub data IsAtom (pins : List (List ℕ)) : List Token → Expr → Type 0 where
    name_atom : (name : List ℕ) → IsAtom pins (Name name ∷ []) (literal_of pins name)
    group_atom : (tokens : List Token) (es : List Expr) → IsSum pins tokens es
        → IsAtom pins (open_token ∷ (tokens ++ close_token ∷ [])) (sum_of es)
    quoted_atom : (tokens : List Token) (e : Expr) → IsAtom pins tokens e
        → IsAtom pins (tokens ++ quote_token ∷ []) (expr_not e)

-- What may follow.

abbrev pub is_punct : ℕ → Token → Bool
is_punct m (Name name) = false
is_punct m (Punct b) = b == m

abbrev pub is_name : Token → Bool
is_name (Name name) = true
is_name (Punct b) = false

-- a name, `(` or `!`
abbrev pub begins_operand : Token → Bool
begins_operand (Name name) = true
begins_operand (Punct b) = b == 40 || b == 33

-- behind `(`, `!`, `+` and `*` an operand has to follow
abbrev pub awaits_behind : Token → Bool
awaits_behind (Name name) = false
awaits_behind (Punct b) = b == 40 || b == 33 || b == 43 || b == 42

-- a name or one of the punctuation bytes of expressions
abbrev pub is_inner : Token → Bool
is_inner (Name name) = true
is_inner (Punct b) = b == 40 || b == 41 || b == 33 || b == 39 || b == 43 || b == 42

-- how many groups are open behind a token
abbrev pub depth_behind : Token → ℕ → ℕ
depth_behind (Name name) depth = depth
depth_behind (Punct b) depth = if b == 40 then depth + 1 else (if b == 41 then depth - 1 else depth)

-- the token may stand where so many groups are open, and an operand is awaited or not
abbrev pub fits : Bool → ℕ → Token → Bool
fits true depth token = begins_operand token
fits false depth token = is_inner token && not (is_punct 41 token && depth == 0)

-- the tokens may stand one after the other, and end where no group is open and no operand awaited
abbrev pub go_on : Bool → ℕ → List Token → Bool
go_on awaits depth [] = not awaits && depth == 0
go_on awaits depth (token ∷ tokens) =
    fits awaits depth token && go_on (awaits_behind token) (depth_behind token depth) tokens

-- how many names stand among the tokens
abbrev pub names_in : List Token → ℕ
names_in [] = 0
names_in (Name name ∷ tokens) = 1 + names_in tokens
names_in (Punct b ∷ tokens) = names_in tokens

-- the tokens begin with one of these
abbrev pub begins_with : (Token → Bool) → List Token → Bool
begins_with p [] = false
begins_with p (token ∷ tokens) = p token

-- What a reader did: the tokens before those that are left spell this expression, whose steps were appended, and none
-- of these tokens follows.
pub record Reads (Spells : List Token → Expr → Type 0) (follows : Token → Bool) (depth : ℕ) (tokens rest : List Token)
    (old new : List ExprOp) : Type 0 where
  pub read : List Token
  pub tree : Expr
  pub whole : tokens ≡ read ++ rest
  pub spelled : Spells read tree
  pub some : 1 ≤ names_in read
  pub steps : new ≡ old ++ postfix tree
  pub left : go_on false depth rest ≡ true
  pub stops : begins_with follows rest ≡ false

-- the tokens spell the product, or the sum, of some expressions
abbrev pub SpellsProduct : List (List ℕ) → List Token → Expr → Type 0
SpellsProduct pins tokens e = (es : List Expr) × IsProduct pins tokens es × (e ≡ product_of es)

abbrev pub SpellsSum : List (List ℕ) → List Token → Expr → Type 0
SpellsSum pins tokens e = (es : List Expr) × IsSum pins tokens es × (e ≡ sum_of es)

-- what cannot follow an atom, a factor, a product and a sum
abbrev pub after_atom : Token → Bool
after_atom token = false

abbrev pub after_factor : Token → Bool
after_factor token = is_punct 39 token

abbrev pub after_product : Token → Bool
after_product token = is_punct 39 token || is_punct 42 token || begins_operand token

abbrev pub after_sum : Token → Bool
after_sum token = is_punct 39 token || is_punct 42 token || begins_operand token || is_punct 43 token

-- one more factor follows, behind `*` or right away
abbrev pub IsNextFactor : List Token → List Token → Type 0
IsNextFactor rest behind = (rest ≡ star_token ∷ behind) ⊎ ((rest ≡ behind) × (begins_with begins_operand rest ≡ true))
