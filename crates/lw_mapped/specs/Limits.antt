-- What labels, words and gates are limited to.
use Rattle.std.specs.Prelude.{ℕ, ◌-◌, ◌^◌}
use Rattle.lw_fixed.specs.Decimals.{most_units}

-- labels have fewer units
abbrev pub label_units : ℕ
label_units = most_units

-- a reader is given fewer words
abbrev pub word_limit : ℕ
word_limit = 2 ^ 32 - 1

-- the words of a gate's line weigh so much or more
abbrev pub gate_weight : ℕ
gate_weight = 12
