-- What is placed in a graph stays placed when it grows.
use Rattle.std.proofs.Common.{ℕ, zero, suc, ◌+◌, ◌<◌, ◌≡◌, Some, List, All, get_or, replicate, slice_get, refl, ap, ◌∙◌, arith}
use Rattle.lw_aig.specs.declared.gate.Gate.{Gate}
use Rattle.lw_aig.specs.declared.gate.Gate.TheVariants.{Input}
use Rattle.lw_aig.specs.declared.literal.Literal.{Literal}
use Rattle.lw_net.specs.Networks.{NetworkParts}
use Rattle.lw_net.specs.Plain.{plain}
use Rattle.lw_sweep.specs.Sweeps.{IsExtended, inputs_alone}
use Rattle.lw_joint.specs.Pairs.{HasInputs, IsPlaced}
use Rattle.lw_joint.proofs.Whole.{have_values_later}

input_at : (n i : ℕ) → i < n → slice_get (replicate n Input) i ≡ Some Input
input_at zero i lt = absurd (omega arith)
input_at (suc n) zero lt = refl
input_at (suc n) (suc i) lt = input_at n i (omega arith)

pub inputs_begin : (inputs : ℕ) (places : List ℕ) → All (λ i. i < inputs) places → HasInputs (inputs_alone inputs) places
inputs_begin inputs places all k d lt =
    let next : get_or places k d + 1 ≡ suc (get_or places k d) = omega arith in
    ap (slice_get (inputs_alone inputs)) next ∙ input_at inputs (get_or places k d) (all k d lt)

pub inputs_stay : (old new : List Gate) (places : List ℕ) → IsExtended old new → HasInputs old places → HasInputs new places
inputs_stay old new places extended has k d lt = extended.kept (get_or places k d + 1) Input (has k d lt)

pub placed_stays : (old new : List Gate) (net : NetworkParts) (places : List ℕ) (lits : List Literal) → IsExtended old new → IsPlaced old net places lits → IsPlaced new net places lits
placed_stays old new net places lits extended placed = record {
  inputs = inputs_stay old new places extended placed.inputs;
  values = have_values_later old new (plain net) _ lits extended placed.values;
  whole = placed.whole;
}
