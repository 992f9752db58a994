-- The functions of cells: the first token that may not stand where it does, and the pins.
use Rattle.std.specs.Prelude.{ℕ, ◌==◌, ◌≡◌, ◌≤◌, ◌<◌, ◌^◌, nat_le, Bool, false, not, ◌&&◌, ◌||◌, List, [], ◌∷◌, ◌++◌}
use Rattle.std.specs.Prelude.{length, drop, fold, Option, Some, None, if◌then◌else◌, codes}
use Rattle.std.specs.List.{list_any, count_by}
use Rattle.std.specs.Str.{bytes_eq}
use Rattle.lw_genlib.specs.declared.token.Token.{Token}
use Rattle.lw_genlib.specs.declared.token.Token.TheVariants.{Name, Punct}
use Rattle.lw_genlib.specs.declared.fault.LibKind.{LibKind}
use Rattle.lw_genlib.specs.declared.fault.LibKind.TheVariants.{Expected, BadByte, ConstInside, LimitLiterals, LimitPins}
use Rattle.lw_genlib.specs.declared.fault.LibFault.{LibFault}
use Rattle.lw_genlib.specs.declared.fault.LibFault.TheVariants.{Line}
use Rattle.lw_genlib.specs.Cells.{ends_in_stroke, is_punct_byte}
use Rattle.lw_laws.specs.Expressions.{Expr}
use Rattle.lw_genlib.specs.Grammar.{is_punct, is_name, awaits_behind, depth_behind, fits, names_in, SpellsSum}

-- What tokens say.

abbrev pub is_constant_name : List ℕ → Bool
is_constant_name name = bytes_eq name (codes "CONST0") || bytes_eq name (codes "CONST1")

abbrev pub is_constant : Token → Bool
is_constant (Name name) = is_constant_name name
is_constant (Punct b) = false

-- no parenthesis
abbrev pub is_no_paren : Token → Bool
is_no_paren token = not (is_punct 40 token || is_punct 41 token)

-- behind the last of the tokens an operand has to follow: it is `=`, or awaits one
abbrev pub awaits : List Token → Bool
awaits [] = false
awaits (token ∷ []) = is_punct 61 token || awaits_behind token
awaits (token ∷ next ∷ tokens) = awaits (next ∷ tokens)

-- how many groups are open behind the tokens
abbrev pub depth_in : List Token → ℕ
depth_in tokens = fold (λ depth token. depth_behind token depth) 0 tokens

abbrev pub is_among : List ℕ → List (List ℕ) → Bool
is_among name names = list_any (bytes_eq name) names

-- the names so far, and one more where it is a new pin
abbrev pub with_pin : List (List ℕ) → Token → List (List ℕ)
with_pin pins (Punct b) = pins
with_pin pins (Name name) = if is_constant_name name || is_among name pins then pins else pins ++ name ∷ []

-- the pins, in the order in which they first stand behind the output's name
abbrev pub pins_in : List Token → List (List ℕ)
pins_in tokens = fold with_pin [] (drop 1 tokens)

-- Which token may follow these.

-- `&`, `|`, `^` or `"`, a second `=`, or a name that ends in `\`
abbrev pub is_bad : List Token → Token → Bool
is_bad before (Name name) = ends_in_stroke name
is_bad before (Punct b) = b == 38 || b == 124 || b == 94 || b == 34 || (b == 61 && list_any (is_punct 61) before)

-- the output's name, `=`, and then an expression up to its `;`
abbrev pub may_follow : List Token → Token → Bool
may_follow [] token = is_name token
may_follow (output ∷ []) token = is_punct 61 token
may_follow (output ∷ equals ∷ before) token =
    if is_punct 59 token then not (awaits (output ∷ equals ∷ before)) && depth_in (output ∷ equals ∷ before) == 0
    else fits (awaits (output ∷ equals ∷ before)) (depth_in (output ∷ equals ∷ before)) token

abbrev pub is_new_pin : List Token → Token → Bool
is_new_pin before (Punct b) = false
is_new_pin before (Name name) = not (is_constant_name name || is_among name (pins_in before))

-- a constant stands in the expression, and something beside it and parentheses: the output's name and `=` are two more
abbrev pub has_constant_inside : List Token → Bool
has_constant_inside tokens = list_any is_constant (drop 1 tokens) && not (count_by is_no_paren tokens == 3)

-- The first rule that a token breaks behind the tokens before it. One of the names before it is the output's.
unfoldable pub token_fault : List Token → Token → Option LibKind
token_fault before token =
    if is_bad before token then Some BadByte
    else (if not (may_follow before token) then Some Expected
    else (if is_name token && nat_le 65 (names_in before) then Some LimitLiterals
    else (if is_new_pin before token && nat_le 16 (length (pins_in before)) then Some LimitPins
    else (if is_punct 59 token && has_constant_inside before then Some ConstInside
    else None))))

-- this fault on this line, else what follows
abbrev pub fault_or : ℕ → Option LibKind → Option LibFault → Option LibFault
fault_or line (Some kind) other = Some (Line line kind)
fault_or line None other = other

-- the first of the tokens on these lines, behind the tokens before them, that breaks a rule
unfoldable pub first_fault : List Token → List ℕ → List Token → Option LibFault
first_fault before lines [] = None
first_fault before [] (token ∷ tokens) = None
first_fault before (line ∷ lines) (token ∷ tokens) =
    fault_or line (token_fault before token) (first_fault (before ++ token ∷ []) lines tokens)

-- each token has the number of its line, and there are fewer than 2 ^ 32
pub record AreLined (tokens : List Token) (lines : List ℕ) : Type 0 where
  pub paired : length lines ≡ length tokens
  pub short : length tokens < 2 ^ 32

-- The tokens of a function's text: its one `;` is the last.
pub record IsText (tokens : List Token) : Type 0 where
  pub before : List Token
  pub whole : tokens ≡ before ++ Punct 59 ∷ []
  pub no_end : list_any (is_punct 59) before ≡ false

-- what a function's text says: the output, the pins, and an expression over them
pub record Says (tokens : List Token) (output : List ℕ) (pins : List (List ℕ)) (form : Expr) : Type 0 where
  pub inner : List Token
  pub whole : tokens ≡ Name output ∷ Punct 61 ∷ (inner ++ Punct 59 ∷ [])
  pub named : pins ≡ pins_in tokens
  pub few : length pins ≤ 16
  pub spelled : SpellsSum pins inner form

-- Words as tokens.

-- one more byte before the first name, or a name of its own
abbrev pub with_byte : ℕ → List Token → List Token
with_byte b [] = Name (b ∷ []) ∷ []
with_byte b (Name name ∷ tokens) = Name (b ∷ name) ∷ tokens
with_byte b (Punct m ∷ tokens) = Name (b ∷ []) ∷ Punct m ∷ tokens

-- the tokens of a word: the runs of bytes that are no punctuation, and the punctuation bytes
abbrev pub tokens_in : List ℕ → List Token
tokens_in [] = []
tokens_in (b ∷ bytes) = if is_punct_byte b then Punct b ∷ tokens_in bytes else with_byte b (tokens_in bytes)
