-- The tokens of a text.
use Rattle.std.specs.Prelude.{ℕ, zero, suc, ◌+◌, ◌-◌, ◌^◌, ◌≡◌, ◌<◌, ◌≤◌, ◌==◌, Bool, true, false, List, [], ◌∷◌, ◌++◌}
use Rattle.std.specs.Prelude.{length, take, drop, if◌then◌else◌, count_by}
use Rattle.lw_verilog.specs.declared.kind.Kind.{Kind}
use Rattle.lw_verilog.specs.declared.kind.Kind.TheVariants as kind
use Rattle.lw_verilog.specs.declared.kind.Piece.{Piece}
use Rattle.lw_verilog.specs.Pieces.{byte_at, first_piece, stroke}
use Rattle.lw_words.specs.Lines.{is_line_feed}

-- what a token is, its name, and the line in which it begins
pub record Token : Type 0 where
  pub kind : Kind
  pub name : List ℕ
  pub line : ℕ

abbrev pub is_gap : Kind → Bool
is_gap kind.Gap = true
is_gap other = false

abbrev pub is_end : Kind → Bool
is_end kind.End = true
is_end other = false

abbrev pub is_name : Kind → Bool
is_name kind.Name = true
is_name other = false

abbrev pub is_strange : Kind → Bool
is_strange kind.Strange = true
is_strange other = false

-- The piece is no name, and has a byte or more, and no more than so many.
pub record IsNameless (most : ℕ) (p : Piece) : Type 0 where
  pub sign : is_name p.kind ≡ false
  pub some : 0 < p.size
  pub within : p.size ≤ most

-- numbers of lines are less
abbrev pub line_limit : ℕ
line_limit = 2 ^ 32

abbrev pub line_feeds : List ℕ → ℕ
line_feeds bytes = count_by is_line_feed bytes

-- the number of the last line, which a line feed at the end of the text ends
abbrev pub last_line : List ℕ → ℕ
last_line text = 1 + line_feeds (take (length text - 1) text)

-- a name without the backslash before it
abbrev pub name_of : List ℕ → List ℕ
name_of bytes = if byte_at bytes 0 == stroke then drop 1 bytes else bytes

-- the token of a piece in this line; the end of the text is in the last one
abbrev pub token : ℕ → ℕ → Piece → List ℕ → Token
token last line p bytes =
    record { kind = p.kind; name = name_of (take p.size bytes); line = if is_end p.kind then last else line }

abbrev pub token_if : ℕ → ℕ → Piece → List ℕ → List Token
token_if last line p bytes = if is_gap p.kind then [] else token last line p bytes ∷ []

-- the tokens of so many pieces from this line on
unfoldable pub tokens_from : ℕ → ℕ → ℕ → List ℕ → List Token
tokens_from zero last line bytes = []
tokens_from (suc n) last line bytes =
    token_if last line (first_piece bytes) bytes
    ++ tokens_from n last (line + line_feeds (take (first_piece bytes).size bytes))
    (drop (first_piece bytes).size bytes)

-- The tokens of a text, and behind them its end. There are no more pieces than bytes.
abbrev pub tokens : List ℕ → List Token
tokens text = tokens_from (length text + 1) (last_line text) 1 text
