-- One more number is drawn, and one more node.
use Rattle.std.proofs.Common.{◌≡◌, ℕ, suc, ◌+◌, ◌*◌, ◌%◌, ◌^◌, List, [], ◌∷◌, ◌++◌, refl, sym, ap, ap₂, ◌∙◌, arith}
use Rattle.std.proofs.Math.Nat.{mod-add-mod}
use Rattle.std.proofs.lemmas.List.FromFn.{map-range_with_len_more}
use Rattle.lw_net.specs.declared.draft.DraftNode.{DraftNode}
use Rattle.lw_big.specs.declared.draws.Draws.{Draws}
use Rattle.lw_big.specs.Draws.{next_state, state_after, draw}
use Rattle.lw_big.specs.Drawing.{HasDrawn}
use Rattle.lw_big.specs.Generated.{signal_name, signal_names, first_fanin, second_fanin, node_kind, node_with, drawn_node, drawn_nodes}

-- the next state of 64 bits
pub one_more : (seed count old new : ℕ) → old ≡ state_after seed count → new ≡ (old * 6364136223846793005 % 2 ^ 64 + 1442695040888963407) % 2 ^ 64 → new ≡ state_after seed (count + 1)
unfolding state_after next_state
one_more seed count old new was now =
    let next : suc count ≡ count + 1 = omega arith in
    now
    ∙ (mod-add-mod (old * 6364136223846793005) (2 ^ 64) 1442695040888963407
    ∙ (ap (λ state. (state * 6364136223846793005 + 1442695040888963407) % 2 ^ 64) was ∙ ap (state_after seed) next))

-- the same count of draws
pub drawn_as : (seed count other : ℕ) (draws : Draws) → count ≡ other → HasDrawn seed count draws → HasDrawn seed other draws
drawn_as seed count other draws same has = has ∙ ap (state_after seed) same

pub draw_as : (seed count other : ℕ) → count ≡ other → draw seed count ≡ draw seed other
draw_as seed count other same = ap (draw seed) same

pub names_more : (first count : ℕ) (name : List ℕ) (old new : List (List ℕ)) → old ≡ signal_names first count → name ≡ signal_name (first + count) → new ≡ old ++ name ∷ [] → new ≡ signal_names first (count + 1)
unfolding signal_names
names_more first count name old new was is grown =
    grown ∙ (ap₂ (λ l n. l ++ n ∷ []) was is ∙ sym (map-range_with_len_more signal_name first count (first + count) refl))

pub nodes_more : (seed count : ℕ) (node : DraftNode) (old new : List DraftNode) → old ≡ drawn_nodes seed 0 count → node ≡ drawn_node seed count → new ≡ old ++ node ∷ [] → new ≡ drawn_nodes seed 0 (count + 1)
unfolding drawn_nodes
nodes_more seed count node old new was is grown =
    grown ∙ (ap₂ (λ l n. l ++ n ∷ []) was is ∙ sym (map-range_with_len_more (drawn_node seed) 0 count count (omega arith)))

-- the node that is made of what is drawn
pub node_drawn : (seed k first second kind : ℕ) → first ≡ first_fanin seed k → second ≡ second_fanin seed k → kind ≡ node_kind seed k → node_with k first second kind ≡ drawn_node seed k
unfolding drawn_node
node_drawn seed k first second kind one other made =
    ap₂ (λ p q. node_with k p q kind) one other ∙ ap (node_with k (first_fanin seed k) (second_fanin seed k)) made
