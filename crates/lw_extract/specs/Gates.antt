-- The gates of chosen matches.
use Rattle.std.specs.Prelude.{ℕ, ◌+◌, ◌≡◌, List, length, map, All, IsSome, Some, slice_get}
use Rattle.lw_pool.specs.declared.id.ClassId.{ClassId}
use Rattle.lw_laws.specs.Covers.{Pattern}
use Rattle.lw_netlist.specs.declared.gate.Gate.{Gate}
use Rattle.lw_extract.specs.declared.choosing.Chosen.{Chosen}
use Rattle.lw_extract.specs.Nets.{Nets, net_in}

-- the gate of a match: its pattern's cell, the nets of its pins, and the next net
pub record IsGateOf (pats : List Pattern) (nets : Nets) (net : ℕ) (x : Chosen) (gate : Gate) : Type 0 where
  pub cell : (p : Pattern) → slice_get pats x.found.pat.0 ≡ Some p → gate.cell.0 ≡ p.cell
  pub pins : map Some gate.pins ≡ map (net_in nets) x.found.pins
  pub out : gate.out.0 ≡ net

-- a gate for each match, in order
pub record AreGatesOf (pats : List Pattern) (nets : Nets) (inputs : ℕ) (chosen : List Chosen)
    (gates : List Gate) : Type 0 where
  pub one_each : length gates ≡ length chosen
  pub each : (j : ℕ) (x : Chosen) (gate : Gate) → slice_get chosen j ≡ Some x → slice_get gates j ≡ Some gate
      → IsGateOf pats nets (inputs + j) x gate

-- each of the classes has a net
abbrev pub HaveNets : Nets → List ClassId → Type 0
HaveNets nets classes = All (λ class. IsSome (net_in nets class)) classes
