-- Outputs at their roots, and on time.
use Rattle.std.specs.Prelude.{ℕ, ◌<◌, ◌≡◌, List, length, map, Option, None, Some}
use Rattle.lw_fixed.specs.declared.micro.Micro.{Micro}
use Rattle.lw_pool.specs.declared.id.NetId.{NetId}
use Rattle.lw_laws.specs.Netlists.{AreArrivals}
use Rattle.lw_genlib.specs.Tables.{millionths}
use Rattle.lw_netlist.specs.Plain.{plain}
use Rattle.lw_check.specs.Claims.{Claim, class_of_net, label_of_class, timing_in, IsAtRoot, AreAtRoots, IsOnTimeAt}
use Rattle.lw_check.specs.Claims.{AreOnTime}

-- the place of the first output that is off its root
pub record IsOffRootAt (k : Claim) (place : ℕ) : Type 0 where
  pub within : place < length k.mapped.netlist.outputs
  pub off : IsAtRoot k place → ⊥
  pub before : (j : ℕ) → j < place → IsAtRoot k j

abbrev pub FindsOffRoot : Claim → Option ℕ → Type 0
FindsOffRoot k None = AreAtRoots k
FindsOffRoot k (Some place) = IsOffRootAt k place

-- the label of the class of a net, if it has both
abbrev pub label_at : Claim → Option ℕ → Option Micro
label_at k None = None
label_at k (Some class) = label_of_class k class

abbrev pub label_of_net : Claim → NetId → Option Micro
label_of_net k net = label_at k (class_of_net k net)

-- when the nets arrive
abbrev pub AreArrivalsOf : Claim → List Micro → Type 0
AreArrivalsOf k arrivals = AreArrivals (timing_in k) (plain k.mapped.netlist) (map millionths arrivals)

-- there is one arrival for each net, and it is when the net arrives
pub record ArriveAt (k : Claim) (arrivals : List Micro) : Type 0 where
  pub one_each : length arrivals ≡ length k.mapped.netlist.names
  pub are : AreArrivalsOf k arrivals

-- the place of the first output that is not on time
pub record IsOffTimeAt (k : Claim) (place : ℕ) : Type 0 where
  pub within : place < length k.mapped.netlist.outputs
  pub off : IsOnTimeAt k place → ⊥
  pub before : (j : ℕ) → j < place → IsOnTimeAt k j

abbrev pub FindsOffTime : Claim → Option ℕ → Type 0
FindsOffTime k None = AreOnTime k
FindsOffTime k (Some place) = IsOffTimeAt k place
