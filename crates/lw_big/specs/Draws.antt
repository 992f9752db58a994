-- Numbers that are drawn from a seed, by a linear congruential generator.
use Rattle.std.specs.Prelude.{ℕ, zero, suc, ◌+◌, ◌*◌, ◌/◌, ◌%◌, ◌^◌}

-- the state that comes after another
unfoldable pub next_state : ℕ → ℕ
next_state state = (state * 6364136223846793005 + 1442695040888963407) % 2 ^ 64

-- the state after so many draws: the seed is the first
unfoldable pub state_after : ℕ → ℕ → ℕ
state_after seed zero = seed
state_after seed (suc count) = next_state (state_after seed count)

-- the upper 31 bits of a state
unfoldable pub upper_bits : ℕ → ℕ
upper_bits state = state / 2 ^ 33

-- the number that is drawn after so many others
abbrev pub draw : ℕ → ℕ → ℕ
draw seed count = upper_bits (state_after seed (count + 1))
