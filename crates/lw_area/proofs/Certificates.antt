-- The certificate of a cover.
use Rattle.std.proofs.Common.{◌≡◌, ◌∙◌, ℕ, true, List, length, map, Option, Some, None, option_map, slice_index_or, ap, sym, subst}
use Rattle.std.proofs.lemmas.List.{length-map}
use Rattle.lw_fixed.specs.declared.micro.Micro.{Micro}
use Rattle.lw_pool.specs.declared.id.ClassId.{ClassId}
use Rattle.lw_pool.specs.Numbers.{numbers}
use Rattle.lw_laws.specs.Graphs.{Graph}
use Rattle.lw_laws.specs.Matches.{IsLeastCover}
use Rattle.lw_genlib.specs.Cells.{CellParts}
use Rattle.lw_genlib.specs.Tables.{millionths}
use Rattle.lw_pattern.specs.Libraries.{library_patterns}
use Rattle.lw_cost.specs.declared.mark.Mark.{Mark}
use Rattle.lw_cost.specs.Labels.{AreLeastMarks}
use Rattle.lw_label.specs.Delays.{time_cost}
use Rattle.lw_netlist.specs.Netlists.{NetlistParts}
use Rattle.lw_netlist.specs.Plain.{plain_gate}
use Rattle.lw_mapped.specs.declared.certificate.Certificate.{Certificate}
use Rattle.lw_mapped.specs.Texts.{HasGateClasses}
use Rattle.lw_map.specs.Mappings.{AreCertified, label_of}
use Rattle.lw_map.proofs.Certified.{labels_same, nets_same}
use Rattle.lw_area.specs.Recovered.{IsAskedFor, IsCertificateOver, class_number}

module _ (cells : List CellParts) (starts : List Micro) (g : Graph) (marks : List (Option Mark)) (classes : List ClassId) (least : AreLeastMarks g (time_cost cells starts) (library_patterns cells) marks) (certificate : Certificate) (are : AreCertified marks classes certificate) where
  certificate_over : IsCertificateOver cells starts g (numbers classes) certificate
  certificate_over = record {
    one_each = ap length are.labels_are ∙ (length-map marks (option_map label_of) ∙ least.one_each);
    least = λ class. subst (IsLeastCover g (library_patterns cells) (time_cost cells starts) class)
        (sym (ap (λ (ls : List (Option Micro)). option_map millionths (slice_index_or ls class None)) are.labels_are ∙ labels_same marks class)) (least.least class);
    classes = ap (map (option_map class_number)) are.nets_are ∙ nets_same classes;
  }

  -- it is that of a netlist with these classes
  pub certificate_asked : (h : Graph) (gates : List ℕ) → h ≡ g → gates ≡ numbers classes → IsAskedFor cells starts h gates true (Some certificate)
  certificate_asked h gates same_graph same_gates =
      subst (λ (x : Graph). IsCertificateOver cells starts x gates certificate) (sym same_graph)
      (subst (λ (xs : List ℕ). IsCertificateOver cells starts g xs certificate) (sym same_gates) certificate_over)

  pub certificate_gates : (n : NetlistParts) → length (map plain_gate n.gates) ≡ length (numbers classes) → HasGateClasses n (Some certificate)
  certificate_gates n one_each =
      ap length are.nets_are ∙ (length-map classes Some ∙ (sym (length-map classes class_number) ∙ (sym one_each ∙ length-map n.gates plain_gate)))
