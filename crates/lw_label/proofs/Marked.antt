-- Labels without heights are in range.
use Rattle.std.proofs.Common.{◌<◌, ◌≡◌, ◌↔◌, List, [], ◌∷◌, Option, ◌∙◌, arith}
use Rattle.lw_laws.specs.Graphs.{Graph}
use Rattle.lw_laws.specs.Costs.{Cost}
use Rattle.lw_laws.specs.Covers.{Pattern}
use Rattle.lw_laws.specs.Laws.{IsCoverProblem}
use Rattle.lw_laws.proofs.RoundLaws.{labels_capped}
use Rattle.lw_cost.specs.Values.{AreInRange}
use Rattle.lw_label.specs.Lowering.{AreLowering}
use Rattle.lw_cost.specs.declared.mark.Mark.{Mark}
use Rattle.lw_cost.specs.Labels.{costs_of}
use Rattle.lw_cost.proofs.MarksAsLabels.{label_of_mark}

-- sound marks without heights are in range
pub lowering_in_range : (g : Graph) (cost : Cost) (pats : List Pattern) (marks : List (Option Mark)) → IsCoverProblem g pats cost → AreLowering g cost pats marks → AreInRange cost.cap marks
lowering_in_range g cost pats marks is low c m e =
    (labels_capped g pats cost (costs_of marks) is low.sound.attained c m.cost (label_of_mark marks c m e), let zero_height = low.flat c m e in omega (arith, zero_height))
