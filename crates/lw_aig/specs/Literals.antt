-- Literals and their values.
use Rattle.std.specs.Prelude.{ℕ, ◌*◌, ◌/◌, ◌%◌, ◌==◌, Bool, not, if◌then◌else◌, bit_xor}
use Rattle.lw_aig.specs.declared.literal.Literal.{Literal}

-- the node of a literal
abbrev pub node_of : Literal → ℕ
node_of l = l.0 / 2

-- the literal with its last bit changed
abbrev pub complement : Literal → Literal
complement l = record { 0 = bit_xor l.0 1 }

-- the value of a literal, where v gives the values of the nodes
abbrev pub literal_value : (ℕ → Bool) → Literal → Bool
literal_value v l = if l.0 % 2 == 0 then v (node_of l) else not (v (node_of l))
