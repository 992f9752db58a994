-- What is kept of an expression while it is read: how many operands each open group has, and the steps of all.
use Rattle.std.specs.Prelude.{ℕ, ◌+◌, ◌≤◌, ◌≡◌, ◌^◌, nat_le, Bool, false, true, if◌then◌else◌, List, [], ◌∷◌, ◌++◌}
use Rattle.std.specs.Prelude.{length, Some}
use Rattle.lw_laws.specs.Expressions.{Expr}
use Rattle.lw_genlib.specs.declared.token.Token.{Token}
use Rattle.lw_genlib.specs.declared.op.ExprOp.{ExprOp}
use Rattle.lw_genlib.specs.declared.open_group.OpenGroup.{OpenGroup}
use Rattle.lw_genlib.specs.declared.parsing.Reading.{Reading}
use Rattle.lw_genlib.specs.Grammar.{fits, names_in}
use Rattle.lw_genlib.specs.Postfix.{exprs_of, postfixes}
use Rattle.lw_genlib.specs.Spelled.{Group, factor_ended, with_token}

abbrev pub no_group : OpenGroup
no_group = record { products = 0; factors = 0; bangs = 0 }

-- the operator behind so many operands: none behind one alone
abbrev pub operator : (ℕ → ExprOp) → ℕ → List ExprOp
operator op count = if nat_le 2 count then op count ∷ [] else []

-- a group is kept: its operands are counted, and these are their steps
pub record IsKept (g : Group) (o : OpenGroup) (ops : List ExprOp) : Type 0 where
  pub products : length g.products ≡ o.products
  pub factors : length (factor_ended g).factors ≡ o.factors
  pub bangs : (factor_ended g).bangs ≡ o.bangs
  pub steps : ops ≡ postfixes (exprs_of g.products) ++ postfixes (exprs_of (factor_ended g).factors)

-- groups, the inmost first, are kept in a list, the inmost last
abbrev pub AreKept : List Group → List OpenGroup → List ExprOp → Type 0
AreKept [] kept ops = (kept ≡ []) × (ops ≡ [])
AreKept (g ∷ groups) kept ops =
    (before : List OpenGroup) × (o : OpenGroup) × (first : List ExprOp) × (last : List ExprOp)
    × (kept ≡ before ++ o ∷ []) × (ops ≡ first ++ last) × AreKept groups before first × IsKept g o last

-- nothing was read
pub record IsNew (reading : Reading) : Type 0 where
  pub outer : reading.outer.items ≡ []
  pub inner : reading.inner ≡ no_group
  pub ops : reading.ops.items ≡ []

-- the open groups are kept
pub record HasRead (groups : List Group) (reading : Reading) : Type 0 where
  pub inmost : Group
  pub around : List Group
  pub first : List ExprOp
  pub last : List ExprOp
  pub whole : groups ≡ inmost ∷ around
  pub steps : reading.ops.items ≡ first ++ last
  pub outer : AreKept around reading.outer.items first
  pub inner : IsKept inmost reading.inner last

-- how many operands the groups have that are factors or products
abbrev pub operands_in : List Group → ℕ
operands_in [] = 0
operands_in (g ∷ groups) = length g.products + length (factor_ended g).factors + operands_in groups

-- an operand stands last
abbrev pub EndsInAtom : List Group → Type 0
EndsInAtom [] = ⊥
EndsInAtom (g ∷ groups) = (e : Expr) × (g.atom ≡ Some e)

abbrev pub bangs_in : List Group → ℕ
bangs_in [] = 0
bangs_in (g ∷ groups) = (factor_ended g).bangs

-- what is known of the groups that are open behind tokens with so many names
pub record AreOpen (awaits : Bool) (depth names long : ℕ) (groups : List Group) : Type 0 where
  pub open_groups : length groups ≡ depth + 1
  pub atom : awaits ≡ false → EndsInAtom groups
  pub few : operands_in groups ≤ names
  pub bangs : bangs_in groups ≤ long

-- the groups that are read, behind which the token may stand
pub record MayTakeAt (token : Token) (groups : List Group) : Type 0 where
  pub awaits : Bool
  pub depth : ℕ
  pub names : ℕ
  pub long : ℕ
  pub groups_open : AreOpen awaits depth names long groups
  pub token_fits : fits awaits depth token ≡ true
  pub few : names + names_in (token ∷ []) ≤ 64
  pub short : long + 1 ≤ 2 ^ 32

abbrev pub MayTake : Token → Reading → Type 0
MayTake token reading = (groups : List Group) × HasRead groups reading × MayTakeAt token groups

-- one more token was read
abbrev pub Takes : List (List ℕ) → Token → Reading → Reading → Type 0
Takes pins token old new =
    (groups : List Group) → HasRead groups old → MayTakeAt token groups → HasRead (with_token pins groups token) new
