-- Numbers by their bits.
use Rattle.std.specs.Prelude.{ℕ, zero, suc, ◌+◌, ◌*◌, ◌/◌, ◌%◌, ◌^◌, Bool, not, ◌&&◌, length, if◌then◌else◌}
use Rattle.lw_lut.specs.Cuts.{PlainCut, is_set, turned, is_odd}

-- so many bits, from a place on, the first as the lowest
abbrev pub packed : (ℕ → Bool) → ℕ → ℕ → ℕ
packed f place zero = 0
packed f place (suc count) = (if f place then 1 else 0) + 2 * packed f (suc place) count

-- the value of the NAND of two cuts at classes x and y, as that of the first class of c's pair, where the pins of both
-- have the values that a number spells
abbrev pub joined_value : PlainCut → ℕ → PlainCut → ℕ → ℕ → ℕ → Bool
joined_value a x b y c place =
    turned (is_odd c)
    (not (turned (is_odd x) (is_set a.bits (place / 2 ^ length b.pins))
    && turned (is_odd y) (is_set b.bits (place % 2 ^ length b.pins))))

abbrev pub joined_bits : PlainCut → ℕ → PlainCut → ℕ → ℕ → ℕ
joined_bits a x b y c = packed (joined_value a x b y c) 0 (2 ^ (length a.pins + length b.pins))
