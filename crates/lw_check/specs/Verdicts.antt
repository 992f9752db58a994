-- The verdict on a claim: yes, or the first of six tests that fails, with what fails first.
use Rattle.std.specs.Prelude.{◌≡◌, List, Some}
use Rattle.lw_fixed.specs.declared.micro.Micro.{Micro}
use Rattle.lw_pool.specs.declared.id.ClassId.{ClassId}
use Rattle.lw_pool.specs.declared.latch.Frame.{Frame}
use Rattle.lw_laws.specs.Covers.{Pattern}
use Rattle.lw_laws.specs.Graphs.{Graph}
use Rattle.lw_net.specs.Networks.{NetworkParts}
use Rattle.lw_genlib.specs.Cells.{CellParts}
use Rattle.lw_mapped.specs.declared.closing.Mapped.{Mapped}
use Rattle.lw_check.specs.declared.verdict.Reason.TheVariants.{Ports, Class, NotMatch, Label, Root, Value}
use Rattle.lw_check.specs.declared.verdict.Verdict.{Verdict}
use Rattle.lw_check.specs.declared.verdict.Verdict.TheVariants.{Yes, No}
use Rattle.lw_check.specs.Claims.{Claim, HasSamePorts, HasKnownClasses, first_unknown_class, AreMatches, IsFirstNoMatch}
use Rattle.lw_check.specs.Claims.{HasPotential, IsFirstUnbounded, AreAtRoots, IsFirstOffRoot, AreOnTime, IsFirstOffTime}

-- No test fails, or the reason's test is the first that does. The tests are: the ports, the class numbers, the gates,
-- the labels, the outputs' classes, and the outputs' arrivals.
abbrev pub IsVerdictOn : Claim → Verdict → Type 0
IsVerdictOn k Yes = HasSamePorts k × HasKnownClasses k × AreMatches k × HasPotential k × AreAtRoots k × AreOnTime k
IsVerdictOn k (No Ports) = HasSamePorts k → ⊥
IsVerdictOn k (No (Class class)) = HasSamePorts k × (first_unknown_class k ≡ Some class)
IsVerdictOn k (No (NotMatch name)) = HasSamePorts k × HasKnownClasses k × IsFirstNoMatch k name
IsVerdictOn k (No (Label class label value)) =
    HasSamePorts k × HasKnownClasses k × AreMatches k × IsFirstUnbounded k class label value
IsVerdictOn k (No (Root name found root)) =
    HasSamePorts k × HasKnownClasses k × AreMatches k × HasPotential k × IsFirstOffRoot k name found root
IsVerdictOn k (No (Value name arrival label)) =
    HasSamePorts k × HasKnownClasses k × AreMatches k × HasPotential k × AreAtRoots k
    × IsFirstOffTime k name arrival label

-- the claim that the netlist, which was read with its frame and certificate, is a fastest mapping of the network
abbrev pub claim : NetworkParts → Frame → List Micro → List CellParts → Graph → List Pattern → List ClassId → Mapped
    → Claim
claim net frame starts cells g pats roots mapped =
    record {
      net = net;
      frame = frame;
      starts = starts;
      cells = cells;
      graph = g;
      pats = pats;
      roots = roots;
      mapped = mapped;
    }

-- the verdict on a mapped netlist
abbrev pub IsVerdict : NetworkParts → Frame → List Micro → List CellParts → Graph → List Pattern → List ClassId → Mapped
    → Verdict → Type 0
IsVerdict net frame starts cells g pats roots mapped verdict =
    IsVerdictOn (claim net frame starts cells g pats roots mapped) verdict
