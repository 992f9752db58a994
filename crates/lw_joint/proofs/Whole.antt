-- Literals of the nets of a network, node by node.
use Rattle.std.proofs.Common.{ℕ, ◌+◌, ◌<◌, ◌≡◌, Bool, true, false, not, List, [], ◌∷◌, ◌++◌, map, length, get_or, slice_get, Some, All, ap, sym, ◌∙◌, arith}
use Rattle.std.specs.Option.{option_map}
use Rattle.std.proofs.lemmas.List.{get_or_append_left, get_or_push, length_push}
use Rattle.std.proofs.lemmas.List.Elements.{All-push}
use Rattle.std.proofs.lemmas.Option.{get_or_from_slice_get, slice_get-map}
use native.Mathlib.Decide.{dec_lt}
use Rattle.lw_aig.specs.declared.gate.Gate.{Gate}
use Rattle.lw_aig.specs.declared.literal.Literal.{Literal}
use Rattle.lw_aig.specs.Aigs.{AreNodeValues, IsBelow}
use Rattle.lw_aig.specs.Literals.{complement, literal_value}
use Rattle.lw_aig.proofs.Literals.{value_of_complement}
use Rattle.lw_laws.specs.Networks.{AreValues, Network, agrees, node_value}
use Rattle.lw_net.specs.declared.node.Node.{Node}
use Rattle.lw_net.specs.Plain.{plain_node}
use Rattle.lw_sweep.specs.Sweeps.{IsExtended}
use Rattle.lw_sweep.proofs.Growing.{values_before}
use Rattle.lw_joint.specs.Joint.{Carry, Computes, HaveNetValues, sum_of}
use Rattle.lw_joint.proofs.Columns.{all_below, complement_below}

-- a node whose rows say where it is true, and where it is false
pub node_on : (gates : List Gate) (lits : List Literal) (node : Node) (l : Literal) → node.on ≡ true → Computes gates lits (sum_of node.fanins node.rows) l → Computes gates lits (λ values. node_value values (plain_node node)) l
node_on gates lits node l on is = record {
  within = is.within;
  always = λ v values are carry. is.always v values are carry ∙ ap (λ o. agrees o (sum_of node.fanins node.rows values)) (sym on);
}

pub node_off : (gates : List Gate) (lits : List Literal) (node : Node) (l off : Literal) → node.on ≡ false → off ≡ complement l → Computes gates lits (sum_of node.fanins node.rows) l → Computes gates lits (λ values. node_value values (plain_node node)) off
node_off gates lits node l off on turned is = record {
  within = complement_below (length gates) l off turned is.within;
  always = λ v values are carry.
      ap (literal_value v) turned
      ∙ (value_of_complement v l
      ∙ (ap not (is.always v values are carry) ∙ ap (λ o. agrees o (sum_of node.fanins node.rows values)) (sym on)));
}

-- the literals of the inputs
pub inputs_have_values : (gates : List Gate) (net : Network) (inputs : List Literal) → length inputs ≡ net.inputs → All (IsBelow (length gates)) inputs → HaveNetValues gates net inputs inputs
inputs_have_values gates net inputs one within = record {
  within = within;
  always = λ v x values are ins right k d lt. ins k d lt ∙ sym (get_or_from_slice_get values k (x k) false (right.inputs k (omega arith)));
}

-- the same in a longer graph
pub have_values_later : (old new : List Gate) (net : Network) (inputs lits : List Literal) → IsExtended old new → HaveNetValues old net inputs lits → HaveNetValues new net inputs lits
have_values_later old new net inputs lits extended have = record {
  within = all_below old new lits extended have.within;
  always = λ v x values are ins right. have.always v x values (values_before old new v extended are) ins right;
}

-- one more node
pub node_has_value : (old new : List Gate) (net : Network) (nodes : List Node) (inputs lits : List Literal) (j : ℕ) (node : Node) (l : Literal) → IsExtended old new → net.nodes ≡ map plain_node nodes → length lits ≡ net.inputs + j → slice_get nodes j ≡ Some node → HaveNetValues old net inputs lits → Computes new lits (λ values. node_value values (plain_node node)) l → HaveNetValues new net inputs (lits ++ l ∷ [])
node_has_value old new net nodes inputs lits j node l extended same size at have is = record {
  within = All-push (IsBelow (length new)) lits l (all_below old new lits extended have.within) is.within;
  always = λ v x values are ins right k d lt. by_place v values (have.always v x values (values_before old new v extended are) ins right) are (value_at x values right) k d lt (dec_lt k (length lits));
}
  where
    plain_at : slice_get net.nodes j ≡ Some (plain_node node)
    plain_at = ap (λ ns. slice_get ns j) same ∙ (slice_get-map plain_node nodes j ∙ ap (option_map plain_node) at)

    value_at : (x : ℕ → Bool) (values : List Bool) → AreValues net x values → get_or values (length lits) false ≡ node_value values (plain_node node)
    value_at x values right = ap (λ k. get_or values k false) size ∙ get_or_from_slice_get values (net.inputs + j) (node_value values (plain_node node)) false (right.nodes j (plain_node node) plain_at)

    by_place : (v : ℕ → Bool) (values : List Bool) → Carry v lits values → AreNodeValues new v → get_or values (length lits) false ≡ node_value values (plain_node node) → (k : ℕ) (d : Literal) → k < length (lits ++ l ∷ []) → Dec (k < length lits) → literal_value v (get_or (lits ++ l ∷ []) k d) ≡ get_or values k false
    by_place v values carry are value k d lt (yes low) = ap (literal_value v) (get_or_append_left lits (l ∷ []) d k low) ∙ carry k d low
    by_place v values carry are value k d lt (no high) =
        let more = length_push lits l in
        let here : length lits ≡ k = omega arith in
        ap (literal_value v) (get_or_push lits l d k here) ∙ (is.always v values are carry ∙ (sym value ∙ ap (λ m. get_or values m false) here))
