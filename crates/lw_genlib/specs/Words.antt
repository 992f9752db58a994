-- Truth values of 64 assignments at once: bit k of a word is the value under assignment k.
use Rattle.std.specs.Prelude.{ℕ, ◌+◌, ◌-◌, ◌*◌, ◌^◌, ◌<◌, ◌≡◌, ◌==◌, Bool, List, slice_index}
use Rattle.std.specs.Int.{bit_at}
use Rattle.lw_laws.specs.Expressions.{Expr, expr_value}

abbrev pub bit : ℕ → ℕ → Bool
bit k word = bit_at word k == 1

-- the values of pins under assignment k
abbrev pub pins_at : ℕ → List ℕ → ℕ → Bool
pins_at k words pin = bit k (slice_index words pin)

-- assignment n gives pin p the bit p of n
abbrev pub assigned : ℕ → ℕ → Bool
assigned n p = bit p n

-- the expressions have the same values under the 64 assignments of a block
abbrev pub AgreeIn : Expr → Expr → ℕ → Type 0
AgreeIn e f block =
    (k : ℕ) → k < 64 → expr_value (assigned (block * 64 + k)) e ≡ expr_value (assigned (block * 64 + k)) f

-- how many blocks the assignments of so many pins have
abbrev pub block_count : ℕ → ℕ
block_count pins = 2 ^ (pins - 6)
