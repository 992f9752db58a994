-- The pieces of a text: names, keywords and signs, and what stands between them.
use Rattle.std.specs.Prelude.{ℕ, ◌+◌, Bool, not, ◌&&◌, ◌||◌, ◌==◌, nat_lt, nat_le, List, [], ◌∷◌, length, drop, take}
use Rattle.std.specs.Prelude.{if◌then◌else◌, codes, slice_index_or}
use Rattle.std.specs.List.{position_or_len}
use Rattle.std.specs.Str.{bytes_eq}
use Rattle.lw_verilog.specs.declared.kind.Kind.{Kind}
use Rattle.lw_verilog.specs.declared.kind.Kind.TheVariants as kind
use Rattle.lw_verilog.specs.declared.kind.Piece.{Piece}
use Rattle.lw_words.specs.Lines.{is_line_feed}

-- the backslash before an escaped name
abbrev pub stroke : ℕ
stroke = 92

-- the bytes that comments begin and end with
abbrev pub slash : ℕ
slash = 47

abbrev pub star : ℕ
star = 42

abbrev pub open_bracket : ℕ
open_bracket = 40

abbrev pub close_bracket : ℕ
close_bracket = 41

-- a byte of the text, and 0 behind its end
abbrev pub byte_at : List ℕ → ℕ → ℕ
byte_at bytes i = slice_index_or bytes i 0

-- space, tab, line feed, form feed or carriage return
abbrev pub is_separator : ℕ → Bool
is_separator b = b == 32 || b == 9 || b == 10 || b == 12 || b == 13

-- a byte of an escaped name
abbrev pub is_visible : ℕ → Bool
is_visible b = nat_le 33 b && nat_le b 126

abbrev pub is_letter : ℕ → Bool
is_letter b = (nat_le 65 b && nat_le b 90) || (nat_le 97 b && nat_le b 122)

-- a letter or `_`
abbrev pub begins_name : ℕ → Bool
begins_name b = is_letter b || b == 95

-- a letter, a digit, `_` or `$`
abbrev pub is_name_byte : ℕ → Bool
is_name_byte b = begins_name b || (nat_le 48 b && nat_le b 57) || b == 36

-- how many bytes stand before the first that is no separator, and the like
abbrev pub separators : List ℕ → ℕ
separators bytes = position_or_len (λ b. not (is_separator b)) bytes

abbrev pub visibles : List ℕ → ℕ
visibles bytes = position_or_len (λ b. not (is_visible b)) bytes

abbrev pub name_bytes : List ℕ → ℕ
name_bytes bytes = position_or_len (λ b. not (is_name_byte b)) bytes

-- how many bytes stand before the end of the line
abbrev pub line_bytes : List ℕ → ℕ
line_bytes bytes = position_or_len is_line_feed bytes

-- how many bytes stand before the first place where these two follow each other, or all
abbrev pub before_pair : ℕ → ℕ → List ℕ → ℕ
before_pair a b [] = 0
before_pair a b (x ∷ bytes) = if x == a && byte_at bytes 0 == b then 0 else 1 + before_pair a b bytes

-- the keywords, and all other names
unfoldable pub word_kind : List ℕ → Kind
word_kind word =
    if bytes_eq word (codes "module") then kind.Module
    else (if bytes_eq word (codes "endmodule") then kind.EndModule
    else (if bytes_eq word (codes "input") then kind.Input
    else (if bytes_eq word (codes "output") then kind.Output
    else (if bytes_eq word (codes "wire") then kind.Wire
    else (if bytes_eq word (codes "assign") then kind.Assign else kind.Name)))))

-- the signs, and bytes with which no token begins
unfoldable pub sign_kind : ℕ → Kind
sign_kind b =
    if b == open_bracket then kind.Open
    else (if b == close_bracket then kind.Close
    else (if b == 44 then kind.Comma
    else (if b == 59 then kind.Semicolon
    else (if b == 46 then kind.Point
    else (if b == 61 then kind.Equals else kind.Strange)))))

abbrev pub piece : Kind → ℕ → Piece
piece k n = record { kind = k; size = n }

-- a comment with this much between its two signs, if it is closed
abbrev pub closed : List ℕ → ℕ → Piece
closed inside n = if nat_lt n (length inside) then piece kind.Gap (n + 4) else piece kind.Unclosed 1

-- a backslash and the bytes behind it
abbrev pub escaped : ℕ → Piece
escaped n = if n == 0 then piece kind.Strange 1 else piece kind.Name (n + 1)

-- a name or a keyword of so many bytes
abbrev pub word : List ℕ → ℕ → Piece
word bytes n = piece (word_kind (take n bytes)) n

-- what begins with a slash or an opening bracket is a comment, or else a sign
unfoldable pub comment_or_sign : List ℕ → Piece
comment_or_sign bytes =
    if byte_at bytes 0 == slash && byte_at bytes 1 == slash then piece kind.Gap (2 + line_bytes (drop 2 bytes))
    else (if byte_at bytes 0 == slash && byte_at bytes 1 == star then closed (drop 2 bytes)
    (before_pair star slash (drop 2 bytes))
    else (if byte_at bytes 0 == open_bracket && byte_at bytes 1 == star then closed (drop 2 bytes)
    (before_pair star close_bracket (drop 2 bytes))
    else piece (sign_kind (byte_at bytes 0)) 1))

-- The piece with which a text begins.
unfoldable pub first_piece : List ℕ → Piece
first_piece bytes =
    if length bytes == 0 then piece kind.End 0
    else (if is_separator (byte_at bytes 0) then piece kind.Gap (1 + separators (drop 1 bytes))
    else (if byte_at bytes 0 == stroke then escaped (visibles (drop 1 bytes))
    else (if begins_name (byte_at bytes 0) then word bytes (1 + name_bytes (drop 1 bytes)) else comment_or_sign bytes)))
