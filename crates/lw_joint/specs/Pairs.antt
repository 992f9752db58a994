-- Nets of two networks that have one value under every assignment.
use Rattle.std.specs.Prelude.{ℕ, ◌+◌, ◌*◌, ◌≡◌, Bool, false, ⊤, Some, List, map, length, slice_get, slice_index_or, All}
use Rattle.lw_aig.specs.declared.gate.Gate.{Gate}
use Rattle.lw_aig.specs.declared.gate.Gate.TheVariants.{Input}
use Rattle.lw_aig.specs.declared.literal.Literal.{Literal}
use Rattle.lw_laws.specs.Networks.{AreValues, Network}
use Rattle.lw_net.specs.Networks.{NetworkParts}
use Rattle.lw_net.specs.Plain.{plain}
use Rattle.lw_search.specs.declared.found.Found.{Found}
use Rattle.lw_search.specs.declared.found.Found.TheVariants.{Equal, Apart, Open}
use Rattle.lw_joint.specs.Joint.{HaveNetValues}

-- Input i of each network has the value of a shared input, whose number stands at place i. Under every assignment of
-- the shared inputs, net k of the one and net m of the other have one value.
pub record HaveEqualValues (one : Network) (ones : List ℕ) (k : ℕ) (other : Network) (others : List ℕ)
    (m : ℕ) : Type 0 where
  pub always : (x : ℕ → Bool) (values values' : List Bool) → AreValues one (λ i. x (slice_index_or ones i 0)) values
      → AreValues other (λ i. x (slice_index_or others i 0)) values'
      → slice_index_or values k false ≡ slice_index_or values' m false

-- the literal of a shared input
abbrev pub input_literal : ℕ → Literal
input_literal i = record { 0 = 2 * (i + 1) }

-- the graph has these shared inputs
abbrev pub HasInputs : List Gate → List ℕ → Type 0
HasInputs gates places = All (λ i. slice_get gates (i + 1) ≡ Some Input) places

-- These literals have the values of the nets of a network, whose inputs are these shared inputs.
pub record IsPlaced (gates : List Gate) (net : NetworkParts) (places : List ℕ) (lits : List Literal) : Type 0 where
  pub inputs : HasInputs gates places
  pub values : HaveNetValues gates (plain net) (map input_literal places) lits
  pub whole : length lits ≡ length net.names

-- where a comparison ended as `Equal`, both nets have one value under every assignment of the shared inputs
abbrev pub TellsNets : NetworkParts → List ℕ → ℕ → NetworkParts → List ℕ → ℕ → Found → Type 0
TellsNets one ones k other others m Equal = HaveEqualValues (plain one) ones k (plain other) others m
TellsNets one ones k other others m Apart = ⊤
TellsNets one ones k other others m Open = ⊤
