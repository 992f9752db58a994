-- What a list of steps needs of the values before it.
use Rattle.std.specs.Prelude.{ℕ, ◌+◌, ◌-◌, ◌<◌, ◌≤◌, ◌≡◌, ◌^◌, Bool, true, false, List, [], ◌∷◌, fold, slice_index}
use Rattle.std.specs.Prelude.{bit_and, bit_or}
use Rattle.std.specs.Int.{bit_not, w64}
use Rattle.lw_genlib.specs.declared.op.ExprOp.{ExprOp}
use Rattle.lw_genlib.specs.declared.op.ExprOp.TheVariants.{Const, Pin, Not, And, Or}
use Rattle.lw_genlib.specs.Postfix.{arity}

-- the pin that a step reads, if it does, is one of so many
abbrev pub IsPinOf : ℕ → ExprOp → Type 0
IsPinOf pins (Pin k) = k < pins
IsPinOf pins (Const b) = Unit {0}
IsPinOf pins Not = Unit {0}
IsPinOf pins (And n) = Unit {0}
IsPinOf pins (Or n) = Unit {0}

-- Behind so many values the steps find their operands, never hold more than 64 values, and leave one.
abbrev pub CanRun : ℕ → ℕ → List ExprOp → Type 0
CanRun pins size [] = size ≡ 1
CanRun pins size (op ∷ ops) =
    (arity op ≤ size) × (size - arity op < 64) × IsPinOf pins op × CanRun pins (size - arity op + 1) ops

abbrev pub constant_word : Bool → ℕ
constant_word true = 2 ^ 64 - 1
constant_word false = 0

-- what a step makes of words, given those of the pins
abbrev pub word_by : List ℕ → ExprOp → List ℕ → ℕ
word_by pins (Const b) words = constant_word b
word_by pins (Pin k) words = slice_index pins k
word_by pins Not words = bit_not w64 (slice_index words 0)
word_by pins (And n) words = fold bit_and (2 ^ 64 - 1) words
word_by pins (Or n) words = fold bit_or 0 words
