-- The certificate of a mapping is that of its netlist.
use Rattle.std.proofs.Common.{ℕ, zero, suc, ◌≡◌, List, [], ◌∷◌, length, map, Option, Some, None, option_map, slice_index_or, refl, ap, sym, ◌∙◌}
use Rattle.std.proofs.lemmas.List.{length-map}
use Rattle.lw_pool.specs.declared.id.ClassId.{ClassId}
use Rattle.lw_fixed.specs.declared.micro.Micro.{Micro}
use Rattle.lw_laws.specs.Rounds.{labels_in}
use Rattle.lw_net.specs.Networks.{NetworkParts}
use Rattle.lw_genlib.specs.Cells.{CellParts}
use Rattle.lw_cost.specs.declared.mark.Mark.{Mark}
use Rattle.lw_cost.specs.Labels.{cost_in, costs_of}
use Rattle.lw_netlist.specs.Plain.{plain_gate}
use Rattle.lw_mapped.specs.declared.certificate.Certificate.{Certificate}
use Rattle.lw_mapped.specs.Certified.{IsCertificateOf}
use Rattle.lw_map.specs.declared.choices.Choices.{Choices}
use Rattle.lw_map.specs.declared.covering.Mapping.{Mapping}
use Rattle.lw_map.specs.declared.labelling.Labeller.{Labeller}
use Rattle.lw_map.specs.Mappings.{IsMappingOf, AreCertified, label_of}
use Rattle.lw_pool.specs.Numbers.{numbers}

abbrev micros : Micro → ℕ
micros label = label.0

abbrev class_number : ClassId → ℕ
class_number class = class.0

label_same : (m : Option Mark) → option_map micros (option_map label_of m) ≡ cost_in m
label_same None = refl
label_same (Some m) = refl

pub labels_same : (marks : List (Option Mark)) (c : ℕ) → option_map micros (slice_index_or (map (option_map label_of) marks) c None) ≡ labels_in (costs_of marks) c
labels_same [] c = refl
labels_same (m ∷ marks) zero = label_same m
labels_same (m ∷ marks) (suc c) = labels_same marks c

pub nets_same : (classes : List ClassId) → map (option_map class_number) (map Some classes) ≡ map Some (numbers classes)
nets_same [] = refl
nets_same (c ∷ classes) = ap (λ (ns : List (Option ℕ)). Some c.0 ∷ ns) (nets_same classes)

module _ (labeller : Labeller) (cells : List CellParts) (net : NetworkParts) (starts : List Micro) (c : Choices) (m : Mapping) (is : IsMappingOf labeller cells net starts c m) (certificate : Certificate) (are : AreCertified m.labels m.classes certificate) where
  pub certificate_of_netlist : IsCertificateOf is.mapped.is certificate
  certificate_of_netlist = record {
    labels = λ k. ap (λ (ls : List (Option Micro)). option_map micros (slice_index_or ls k None)) are.labels_are ∙ (labels_same m.labels k ∙ ap (λ (ls : List (Option ℕ)). labels_in ls k) (sym is.labels));
    nets = ap (map (option_map class_number)) are.nets_are ∙ (nets_same m.classes ∙ ap (map Some) (sym is.gates));
  }

  pub certificate_one_each : length certificate.labels ≡ length is.mapped.is.graph.pairs
  certificate_one_each = ap length are.labels_are ∙ (length-map m.labels (option_map label_of) ∙ (is.one_each ∙ ap (λ g. length g.pairs) (sym is.graph)))

  pub certificate_gates : length certificate.nets ≡ length m.netlist.gates
  certificate_gates =
      ap length are.nets_are ∙ (length-map m.classes Some
      ∙ (sym (length-map m.classes class_number) ∙ (ap length (sym is.gates) ∙ (sym is.mapped.is.extracted.one_each ∙ length-map m.netlist.gates plain_gate))))
