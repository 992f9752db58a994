-- Which token of a text breaks a rule, and why.
use Rattle.std.specs.Prelude.{ℕ, suc, ◌≡◌, ◌≢◌, ◌<◌, ◌⊎◌, true, false, List, ◌++◌, take, slice_get, Some, Result, Ok}
use Rattle.std.specs.Prelude.{Err}
use Rattle.lw_genlib.specs.Cells.{CellParts}
use Rattle.lw_verilog.specs.declared.fault.VerilogKind.{VerilogKind}
use Rattle.lw_verilog.specs.declared.fault.VerilogKind.TheVariants as broken
use Rattle.lw_verilog.specs.declared.kind.Kind.{Kind}
use Rattle.lw_verilog.specs.declared.place.Move.{Move}
use Rattle.lw_verilog.specs.Grammar.{move_at}
use Rattle.lw_verilog.specs.Phrases.{Derives, file, kinds_of}
use Rattle.lw_verilog.specs.Readings.{FaultAt, Reading, is_done, nothing_read, read, rule_fault}
use Rattle.lw_verilog.specs.Statements.{ports_of}
use Rattle.lw_verilog.specs.Tokens.{Token, is_strange}

-- some text of the grammar begins with these tokens
abbrev pub CanGoOn : List Kind → Type 0
CanGoOn tokens = (rest : List Kind) × Derives file (tokens ++ rest)

-- The token at a place may stand there, and breaks the rule that the names and ports before it give.
pub record BreaksRule (cells : List CellParts) (ts : List Token) (n : ℕ) (fault : FaultAt) : Type 0 where
  pub token : Token
  pub is : slice_get ts n ≡ Some token
  pub line : token.line ≡ fault.line
  pub before : Reading
  pub read_before : read cells nothing_read (take n ts) ≡ Ok before
  pub move : Move
  pub moves : move_at before.place token.kind ≡ Some move
  pub breaks : rule_fault cells before.names (ports_of before.said) before.declared move.task token.name ≡
      Some fault.kind

-- no token begins with its byte
abbrev pub IsBadByte : Token → VerilogKind → Type 0
IsBadByte t k = (is_strange t.kind ≡ true) × (k ≡ broken.BadByte)

-- no text of the grammar begins with the tokens up to this one
abbrev pub IsUnexpected : List Token → ℕ → Token → VerilogKind → Type 0
IsUnexpected ts n t k = (is_strange t.kind ≡ false) × (k ≡ broken.Expected) × (CanGoOn (take (suc n) (kinds_of ts)) → ⊥)

-- some text begins with them, and the token breaks a further rule
abbrev pub IsFurther : List CellParts → List Token → ℕ → FaultAt → Type 0
IsFurther cells ts n fault =
    CanGoOn (take (suc n) (kinds_of ts)) × (fault.kind ≢ broken.Expected) × BreaksRule cells ts n fault

-- The fault stands at this token: some text begins with the tokens before it, which are no whole text.
pub record IsFaultAt (cells : List CellParts) (ts : List Token) (fault : FaultAt) (n : ℕ) : Type 0 where
  pub token : Token
  pub is : slice_get ts n ≡ Some token
  pub line : token.line ≡ fault.line
  pub before : CanGoOn (take n (kinds_of ts))
  pub unended : Derives file (take n (kinds_of ts)) → ⊥
  pub cause : IsBadByte token fault.kind ⊎ (IsUnexpected ts n token fault.kind ⊎ IsFurther cells ts n fault)

-- All is read, or one of the first tokens breaks a further rule.
abbrev pub ReadsOrBreaks : List CellParts → List Token → ℕ → Result Reading FaultAt → Type 0
ReadsOrBreaks cells ts count (Ok r) = is_done r.place ≡ true
ReadsOrBreaks cells ts count (Err fault) = (n : ℕ) × (n < count) × BreaksRule cells ts n fault
