-- The fan-ins of a drawn node are signals before it, so that no node reaches itself.
use Rattle.std.proofs.Common.{◌≡◌, ℕ, zero, suc, ◌+◌, ◌*◌, ◌%◌, ◌<◌, ◌≤◌, ◌⊎◌, inl, inr, ◌==◌, Bool, true, false, cond, List, [], ◌∷◌, Contains, refl, sym, ap, subst, ◌∙◌, arith}
use Rattle.std.proofs.lemmas.List.FromFn.{length-map-range_with_len, get_or-map-range_with_len}
use Rattle.lw_net.specs.declared.draft.DraftNode.{DraftNode}
use Rattle.lw_net.specs.Closing.{Reaches, HasNoCycle, out_of}
use Rattle.lw_net.specs.Closing.Reaches.{by_fanin, by_path}
use Rattle.lw_big.specs.Draws.{draw}
use Rattle.lw_big.specs.Generated.{most_nodes, signal_name, first_fanin, second_fanin, other_than, drawn_node, drawn_nodes}
use Rattle.lw_big.proofs.SignalNames.{same_signal}

pub first_before : (seed k : ℕ) → first_fanin seed k < 16 + k
unfolding first_fanin
first_before seed k = omega arith

other_before : (first drawn signals : ℕ) → 0 < signals → drawn < signals → other_than first drawn signals < signals
other_before first drawn signals some below = by_test (drawn == first)
  where
    by_test : (b : Bool) → cond b ((first + 1) % signals) drawn < signals
    by_test true = omega arith
    by_test false = below

pub second_before : (seed k : ℕ) → second_fanin seed k < 16 + k
unfolding second_fanin
second_before seed k = other_before (first_fanin seed k) (draw seed (3 * k + 1) % (16 + k)) (16 + k) (omega arith) (omega arith)

-- From the first of two names the other is reached: both are those of signals, and the other's stands before.
record IsLower (n : ℕ) (from to : List ℕ) : Type 0 where
  high : ℕ
  low : ℕ
  from_is : from ≡ signal_name high
  to_is : to ≡ signal_name low
  below : low < high
  within : high < 16 + n

one_of_two : (a b x : List ℕ) → Contains (a ∷ b ∷ []) x → (a ≡ x) ⊎ (b ≡ x)
one_of_two a b x (zero, lt, e) = inl e
one_of_two a b x (suc zero, lt, e) = inr e
one_of_two a b x (suc (suc k), lt, e) = absurd (omega arith)

drawn_fanin : (seed k : ℕ) (name : List ℕ) → Contains (drawn_node seed k).fanins name → (signal_name (first_fanin seed k) ≡ name) ⊎ (signal_name (second_fanin seed k) ≡ name)
unfolding drawn_node
drawn_fanin seed k name among = one_of_two (signal_name (first_fanin seed k)) (signal_name (second_fanin seed k)) name among

drawn_out : (seed k : ℕ) → (drawn_node seed k).out ≡ signal_name (16 + k)
unfolding drawn_node
drawn_out seed k = refl

-- the place of a node among those that are drawn
record IsDrawnAt (seed n : ℕ) (node : DraftNode) : Type 0 where
  place : ℕ
  within : place < n
  drawn : drawn_node seed place ≡ node

drawn_at : (seed n : ℕ) (node : DraftNode) → Contains (drawn_nodes seed 0 n) node → IsDrawnAt seed n node
unfolding drawn_nodes
drawn_at seed n node (k, lt, e) =
    let within : k < n = omega (arith, length-map-range_with_len (drawn_node seed) 0 n) in
    record { place = k; within = within; drawn = sym (get_or-map-range_with_len (drawn_node seed) 0 n k k node within (omega arith)) ∙ e }

fanin_lower : (seed n : ℕ) (from to : List ℕ) (node : DraftNode) → Contains (drawn_nodes seed 0 n) node → node.out ≡ from → Contains node.fanins to → IsLower n from to
fanin_lower seed n from to node among named at = by_place (drawn_at seed n node among)
  where
    by_place : IsDrawnAt seed n node → IsLower n from to
    by_place d = by_fanins (drawn_fanin seed d.place to (subst (λ (m : DraftNode). Contains m.fanins to) (sym d.drawn) at))
      where
        out : from ≡ signal_name (16 + d.place)
        out = sym named ∙ (ap out_of (sym d.drawn) ∙ drawn_out seed d.place)

        by_fanins : (signal_name (first_fanin seed d.place) ≡ to) ⊎ (signal_name (second_fanin seed d.place) ≡ to) → IsLower n from to
        by_fanins (inl e) = record { high = 16 + d.place; low = first_fanin seed d.place; from_is = out; to_is = sym e; below = first_before seed d.place; within = omega (arith, d.within) }
        by_fanins (inr e) = record { high = 16 + d.place; low = second_fanin seed d.place; from_is = out; to_is = sym e; below = second_before seed d.place; within = omega (arith, d.within) }

then_lower : (n : ℕ) → n ≤ most_nodes → (from next to : List ℕ) → IsLower n from next → IsLower n next to → IsLower n from to
then_lower n few from next to first second =
    let same : first.low ≡ second.high = same_signal first.low second.high (omega arith) (omega arith) (sym first.to_is ∙ second.from_is) in
    record { high = first.high; low = second.low; from_is = first.from_is; to_is = second.to_is; below = omega arith; within = first.within }

reached_lower : (seed n : ℕ) → n ≤ most_nodes → (from to : List ℕ) → Reaches (drawn_nodes seed 0 n) from to → IsLower n from to
reached_lower seed n few from to (by_fanin node among named at) = fanin_lower seed n from to node among named at
reached_lower seed n few from to (by_path {next = next} node among named at rest) =
    then_lower n few from next to (fanin_lower seed n from next node among named at) (reached_lower seed n few next to rest)

pub no_cycle : (seed n : ℕ) → n ≤ most_nodes → HasNoCycle (drawn_nodes seed 0 n)
no_cycle seed n few name path =
    let lower = reached_lower seed n few name name path in
    let same : lower.high ≡ lower.low = same_signal lower.high lower.low (omega (arith, lower.within)) (omega (arith, lower.within, lower.below)) (sym lower.from_is ∙ lower.to_is) in
    omega (arith, same, lower.below)
