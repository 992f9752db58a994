-- What is drawn from the seed 0.
use Rattle.std.proofs.Common.{◌≡◌, refl}
use Rattle.lw_big.specs.Draws.{next_state, state_after, upper_bits, draw}
use Rattle.lw_big.specs.Generated.{first_fanin, second_fanin, node_kind, node_with, drawn_node}

first_state : state_after 0 1 ≡ 1442695040888963407
unfolding state_after next_state
first_state = refl

second_state : state_after 0 2 ≡ 1876011003808476466
unfolding state_after next_state
second_state = refl

third_state : state_after 0 3 ≡ 11166244414315200793
unfolding state_after next_state
third_state = refl

first_draw : draw 0 0 ≡ 167951807
unfolding state_after next_state upper_bits
first_draw = refl

second_draw : draw 0 1 ≡ 218396424
unfolding state_after next_state upper_bits
second_draw = refl

third_draw : draw 0 2 ≡ 1299921937
unfolding state_after next_state upper_bits
third_draw = refl

-- g0 is the OR of i15 and i8
first_node : drawn_node 0 0 ≡ node_with 0 15 8 1
unfolding state_after next_state upper_bits first_fanin second_fanin node_kind drawn_node
first_node = refl
