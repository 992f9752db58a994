-- Whatever values the inputs are given, all nodes have values with these.
use Rattle.std.proofs.Common.{ℕ, zero, suc, ◌+◌, ◌<◌, ◌≡◌, Bool, false, ◌&&◌, Some, List, [], ◌∷◌, ◌++◌, length, slice_get, get_or, refl, ap, ap₂, sym, ◌∙◌, subst, arith}
use Rattle.std.proofs.lemmas.List.{get_or_append_left, length_push, get_or_push}
use Rattle.lw_aig.specs.declared.gate.Gate.{Gate}
use Rattle.lw_aig.specs.declared.gate.Gate.TheVariants.{Zero, Input, And}
use Rattle.lw_aig.specs.Aigs.{Allows, AreNodeValues, HasValues, IsAig, IsLater}
use Rattle.lw_aig.specs.Literals.{literal_value, node_of}
use Rattle.lw_aig.proofs.Literals.{value_agrees}

-- the values of nodes that a list gives
abbrev values_in : List Bool → ℕ → Bool
values_in vs n = get_or vs n false

-- what a gate gives, at these values of the nodes before it
abbrev gate_value : (ℕ → Bool) → (ℕ → Bool) → ℕ → Gate → Bool
gate_value x v n Zero = false
gate_value x v n Input = x n
gate_value x v n (And a b) = literal_value v a && literal_value v b

-- the values of the nodes in order
abbrev values_after : (ℕ → Bool) → List Bool → List Gate → List Bool
values_after x vs [] = vs
values_after x vs (gate ∷ gates) = values_after x (vs ++ gate_value x (values_in vs) (length vs) gate ∷ []) gates

module _ (x : ℕ → Bool) where
  earlier_stay : (vs : List Bool) (gates : List Gate) (k : ℕ) → k < length vs → values_in (values_after x vs gates) k ≡ values_in vs k
  earlier_stay vs [] k lt = refl
  earlier_stay vs (gate ∷ gates) k lt =
      let w = gate_value x (values_in vs) (length vs) gate in
      let size : length (vs ++ w ∷ []) ≡ length vs + 1 = length_push vs w in
      earlier_stay (vs ++ w ∷ []) gates k (omega arith) ∙ get_or_append_left vs (w ∷ []) false k lt

  gate_agrees : (v w : ℕ → Bool) (n : ℕ) (gate : Gate) → IsLater gate n → ((k : ℕ) → k < n → v k ≡ w k) → gate_value x v n gate ≡ gate_value x w n gate
  gate_agrees v w n Zero later agree = refl
  gate_agrees v w n Input later agree = refl
  gate_agrees v w n (And a b) later agree = ap₂ (λ s t. s && t) (value_agrees v w a (agree (node_of a) later.0)) (value_agrees v w b (agree (node_of b) later.1))

  values_are : (vs : List Bool) (gates : List Gate) (j : ℕ) (gate : Gate) → slice_get gates j ≡ Some gate → IsLater gate (length vs + j) → values_in (values_after x vs gates) (length vs + j) ≡ gate_value x (values_in (values_after x vs gates)) (length vs + j) gate
  values_are vs [] j gate e later = cc
  values_are vs (first ∷ gates) zero gate e later =
      let same : first ≡ gate = cc in
      let w = gate_value x (values_in vs) (length vs) first in
      let all = values_after x (vs ++ w ∷ []) gates in
      let size : length (vs ++ w ∷ []) ≡ length vs + 1 = length_push vs w in
      let here : length vs + 0 ≡ length vs = omega arith in
      let stays : values_in all (length vs) ≡ w = earlier_stay (vs ++ w ∷ []) gates (length vs) (omega arith) ∙ get_or_push vs w false (length vs) refl in
      let agree : (k : ℕ) → k < length vs → values_in vs k ≡ values_in all k = λ k lt. sym (earlier_stay (vs ++ w ∷ []) gates k (omega arith) ∙ get_or_append_left vs (w ∷ []) false k lt) in
      let later' : IsLater gate (length vs) = subst (IsLater gate) here later in
      let P : ℕ → Type 0 = λ n. values_in all n ≡ gate_value x (values_in all) n gate in
      subst P (sym here)
      (stays ∙ (ap (gate_value x (values_in vs) (length vs)) same ∙ gate_agrees (values_in vs) (values_in all) (length vs) gate later' agree))
  values_are vs (first ∷ gates) (suc j) gate e later =
      let w = gate_value x (values_in vs) (length vs) first in
      let all = values_after x (vs ++ w ∷ []) gates in
      let size : length (vs ++ w ∷ []) ≡ length vs + 1 = length_push vs w in
      let place : length (vs ++ w ∷ []) + j ≡ length vs + suc j = omega arith in
      let P : ℕ → Type 0 = λ n. values_in all n ≡ gate_value x (values_in all) n gate in
      subst P place (values_are (vs ++ w ∷ []) gates j gate e (subst (IsLater gate) (sym place) later))

  allowed_by : (v : ℕ → Bool) (n : ℕ) (gate : Gate) → v n ≡ gate_value x v n gate → Allows gate v n
  allowed_by v n Zero e = e
  allowed_by v n Input e = tt
  allowed_by v n (And a b) e = e

  pub inputs_are_free : (gates : List Gate) → IsAig gates → HasValues gates x
  inputs_are_free gates aig =
      let all = values_after x [] gates in
      let at : (n : ℕ) (gate : Gate) → slice_get gates n ≡ Some gate → values_in all n ≡ gate_value x (values_in all) n gate =
      λ n gate e.
      let place : 0 + n ≡ n = omega arith in
      let P : ℕ → Type 0 = λ m. values_in all m ≡ gate_value x (values_in all) m gate in
      subst P place (values_are [] gates n gate e (subst (IsLater gate) (sym place) (aig.in_order n gate e))) in
      record {
        values = values_in all;
        are = record { allowed = λ n gate e. allowed_by (values_in all) n gate (at n gate e) };
        inputs = λ n e. at n Input e;
      }
