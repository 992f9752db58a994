-- A claim in hand, what is asked of it, and what its tests tell.
use Rattle.std.specs.Prelude.{◌≤◌, ◌≡◌, All, length, Option, None, Some}
use Rattle.lw_genlib.specs.Cells.{IsSmall}
use Rattle.lw_cost.specs.Least.{AreOfCells}
use Rattle.lw_netlist.specs.Netlists.{most_gates}
use Rattle.lw_netlist.specs.Plain.{IsOver}
use Rattle.lw_mapped.specs.Standing.{AreLabels}
use Rattle.lw_check.specs.declared.case.Case.{Case}
use Rattle.lw_check.specs.declared.verdict.Reason.{Reason}
use Rattle.lw_check.specs.declared.verdict.Verdict.TheVariants.{No}
use Rattle.lw_check.specs.Claims.{AreAtRoots, AreMatches, Claim, HasKnownClasses, HasPotential, HasSamePorts, cost_in}
use Rattle.lw_check.specs.Verdicts.{claim, IsVerdictOn}

abbrev pub claim_of : Case → Claim
claim_of case =
    claim case.net.now case.frame.now case.starts.now case.lib.now case.graph.now case.pats.now case.roots.now
    case.mapped.now

-- what is asked of a claim
pub record IsAskable (k : Claim) : Type 0 where
  pub over : IsOver k.cells k.mapped.netlist
  pub of_cells : AreOfCells (cost_in k).pin_counts k.pats
  pub one_leaf : length k.graph.leaves ≡ k.net.inputs
  pub one_start : length k.starts ≡ k.net.inputs
  pub early : All IsSmall k.starts
  pub one_root : length k.roots ≡ length k.net.outputs
  pub few_gates : length k.mapped.netlist.gates ≤ most_gates
  pub one_class : length k.mapped.cert.nets ≡ length k.mapped.netlist.gates
  pub labels : AreLabels k.mapped.cert

-- it has passed the tests of its ports and its class numbers
pub record PassesClasses (k : Claim) : Type 0 where
  pub askable : IsAskable k
  pub ports : HasSamePorts k
  pub classes : HasKnownClasses k

-- and that of its gates
pub record PassesGates (k : Claim) : Type 0 where
  pub askable : IsAskable k
  pub ports : HasSamePorts k
  pub classes : HasKnownClasses k
  pub matches : AreMatches k

-- and that of its labels
pub record PassesLabels (k : Claim) : Type 0 where
  pub gates : PassesGates k
  pub potential : HasPotential k

-- and that of its outputs' classes
pub record PassesRoots (k : Claim) : Type 0 where
  pub gates : PassesGates k
  pub potential : HasPotential k
  pub roots : AreAtRoots k

-- the reason of the verdict, or none where the test is passed
abbrev pub Tells : Claim → Type 0 → Option Reason → Type 0
Tells k Test None = Test
Tells k Test (Some reason) = IsVerdictOn k (No reason)
