-- The grammar in its usual notation, and what it derives.
use Rattle.std.specs.Prelude.{◌≡◌, ◌⊎◌, List, [], ◌∷◌, Some, map}
use Rattle.lw_verilog.specs.declared.kind.Kind.{Kind}
use Rattle.lw_verilog.specs.declared.kind.Kind.TheVariants as kind
use Rattle.lw_verilog.specs.declared.place.Move.{Move}
use Rattle.lw_verilog.specs.declared.place.Place.{Place}
use Rattle.lw_verilog.specs.declared.place.Place.TheVariants as place
use Rattle.lw_verilog.specs.Grammar.{move_at}
use Rattle.lw_verilog.specs.Tokens.{Token}

-- A token, two phrases one behind the other, one of two, one or none, or any number.
pub data Phrase : Type 0 where
  token : Kind → Phrase
  both : Phrase → Phrase → Phrase
  either : Phrase → Phrase → Phrase
  optional : Phrase → Phrase
  many : Phrase → Phrase

-- any number of steps from one list to another
pub data Repeats (step : List Kind → List Kind → Type 0) (rest : List Kind) : List Kind → Type 0 where
  stop : {tokens : List Kind} → tokens ≡ rest → Repeats step rest tokens
  again : {tokens next : List Kind} → step tokens next → Repeats step rest next → Repeats step rest tokens

-- The phrase derives what stands in the first list before the second.
abbrev pub DerivesBefore : Phrase → List Kind → List Kind → Type 0
DerivesBefore (token k) tokens rest = tokens ≡ k ∷ rest
DerivesBefore (both a b) tokens rest = (next : List Kind) × DerivesBefore a tokens next × DerivesBefore b next rest
DerivesBefore (either a b) tokens rest = DerivesBefore a tokens rest ⊎ DerivesBefore b tokens rest
DerivesBefore (optional a) tokens rest = (tokens ≡ rest) ⊎ DerivesBefore a tokens rest
DerivesBefore (many a) tokens rest = Repeats (DerivesBefore a) rest tokens

abbrev pub Derives : Phrase → List Kind → Type 0
Derives phrase tokens = DerivesBefore phrase tokens []

-- phrases one behind the other
abbrev pub in_order : Phrase → List Phrase → Phrase
in_order first [] = first
in_order first (second ∷ others) = both first (in_order second others)

abbrev pub name : Phrase
name = token kind.Name

-- further names: ( "," name )*
abbrev pub further_names : Phrase
further_names = many (both (token kind.Comma) name)

-- names := name ( "," name )*
abbrev pub names : Phrase
names = both name further_names

-- ports := "(" [ names ] ")"
abbrev pub ports : Phrase
ports = in_order (token kind.Open) (optional names ∷ token kind.Close ∷ [])

-- declaration := ( "input" | "output" ) [ "wire" ] names ";"
abbrev pub declaration : Phrase
declaration = in_order (either (token kind.Input) (token kind.Output))
    (optional (token kind.Wire) ∷ names ∷ token kind.Semicolon ∷ [])

-- wires := "wire" names ";"
abbrev pub wires : Phrase
wires = in_order (token kind.Wire) (names ∷ token kind.Semicolon ∷ [])

-- assignment := "assign" name "=" name ";"
abbrev pub assignment : Phrase
assignment = in_order (token kind.Assign) (name ∷ token kind.Equals ∷ name ∷ token kind.Semicolon ∷ [])

-- connection := "." name "(" name ")"
abbrev pub connection : Phrase
connection = in_order (token kind.Point) (name ∷ token kind.Open ∷ name ∷ token kind.Close ∷ [])

-- further connections: ( "," connection )*
abbrev pub further_connections : Phrase
further_connections = many (both (token kind.Comma) connection)

-- connections := connection ( "," connection )*
abbrev pub connections : Phrase
connections = both connection further_connections

-- instance := name name "(" [ connections ] ")" ";"
abbrev pub instance : Phrase
instance = in_order name (name ∷ token kind.Open ∷ optional connections ∷ token kind.Close ∷ token kind.Semicolon ∷ [])

-- item := declaration | wires | assignment | instance
abbrev pub item : Phrase
item = either declaration (either wires (either assignment instance))

-- file := "module" name [ ports ] ";" item* "endmodule"
abbrev pub file : Phrase
file =
    in_order (token kind.Module) (name ∷ optional ports ∷ token kind.Semicolon ∷ many item ∷ token kind.EndModule ∷ [])

-- By the table the tokens lead from one place to another.
abbrev pub Runs : Place → List Kind → Place → Type 0
Runs from [] to = from ≡ to
Runs from (k ∷ tokens) to = (m : Move) × (move_at from k ≡ Some m) × Runs m.next tokens to

-- The table takes these tokens from the begin of a text to the end of its module.
abbrev pub Accepts : List Kind → Type 0
Accepts tokens = Runs place.Begin tokens place.Done

abbrev pub kind_of : Token → Kind
kind_of t = t.kind

abbrev pub kinds_of : List Token → List Kind
kinds_of tokens = map kind_of tokens
