-- The netlist that a model is mapped to, with its certificate where one is asked for.
use Rattle.std.specs.Prelude.{◌≡◌, Bool, true, false, List, length, Option, Some, None}
use Rattle.lw_fixed.specs.declared.micro.Micro.{Micro}
use Rattle.lw_net.specs.Networks.{NetworkParts}
use Rattle.lw_genlib.specs.Cells.{CellParts}
use Rattle.lw_blif.specs.declared.parsed.Parsed.{Parsed}
use Rattle.lw_netlist.specs.Netlists.{NetlistParts}
use Rattle.lw_netlist.specs.Plain.{IsOver}
use Rattle.lw_mapped.specs.declared.certificate.Certificate.{Certificate}
use Rattle.lw_mapped.specs.Certified.{IsCertificateOf}
use Rattle.lw_mapped.specs.Texts.{HasGateClasses}
use Rattle.lw_map.specs.declared.covering.Mapping.{Mapping}
use Rattle.lw_map.specs.declared.mapping.CertifiedNetlist.{CertifiedNetlist}
use Rattle.lw_map.specs.Options.{Options}
use Rattle.lw_map.specs.Mapped.{IsMappedNetlist, IsWithinLimits}
use Rattle.lw_map.specs.Mappings.{AreCertified}

-- There is a certificate where one is asked for, that of the netlist, with a place for each class and no more.
pub record HasCertificate (options : Options) (cells : List CellParts) (net : NetworkParts) (starts : List Micro)
    (n : NetlistParts) (is : IsMappedNetlist options cells net starts n) (certificate : Certificate) : Type 0 where
  pub is_of : IsCertificateOf is.is certificate
  pub one_each : length certificate.labels ≡ length is.is.graph.pairs

abbrev pub IsAskedFor : (options : Options) (cells : List CellParts) (net : NetworkParts) (starts : List Micro)
    (n : NetlistParts) → IsMappedNetlist options cells net starts n → Bool → Option Certificate → Type 0
IsAskedFor options cells net starts n is false None = Unit {0}
IsAskedFor options cells net starts n is true (Some certificate) =
    HasCertificate options cells net starts n is certificate
IsAskedFor options cells net starts n is certified certificate = ⊥

-- the certificate of a mapping in hand, where it is asked for
abbrev pub IsCertificateFor : Mapping → Bool → Option Certificate → Type 0
IsCertificateFor m false None = Unit {0}
IsCertificateFor m true (Some certificate) = AreCertified m.labels m.classes certificate
IsCertificateFor m certified certificate = ⊥

-- The netlist that the model is mapped to, of the library's cells, with its certificate where it is asked for, which
-- has a class for each gate.
pub record IsCertified (options : Options) (certified : Bool) (cells : List CellParts) (model : Parsed)
    (c : CertifiedNetlist) : Type 0 where
  pub within : IsWithinLimits options model.network
  pub is_mapped : IsMappedNetlist options cells model.network model.starts c.netlist
  pub asked : IsAskedFor options cells model.network model.starts c.netlist is_mapped certified c.certificate
  pub over : IsOver cells c.netlist
  pub one_each : HasGateClasses c.netlist c.certificate
