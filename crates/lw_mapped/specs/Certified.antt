-- The certificate of the netlist that a network is mapped to.
use Rattle.std.specs.Prelude.{ℕ, ◌≡◌, List, map, None, Some, slice_index_or, option_map}
use Rattle.lw_fixed.specs.declared.micro.Micro.{Micro}
use Rattle.lw_pool.specs.declared.id.ClassId.{ClassId}
use Rattle.lw_laws.specs.Modes.{Mode}
use Rattle.lw_laws.specs.Networks.{Network}
use Rattle.lw_laws.specs.Headline.{Ports}
use Rattle.lw_laws.specs.Covers.{Pattern, Timing}
use Rattle.lw_laws.specs.Netlists.{Netlist}
use Rattle.lw_laws.specs.MappedNetlists.{IsNetlistOf}
use Rattle.lw_laws.specs.Rounds.{labels_in}
use Rattle.lw_mapped.specs.declared.certificate.Certificate.{Certificate}

-- Each class of the graph has its least time as its label, whether the netlist uses it or not, and none where it has no
-- cover; each gate has its class.
pub record IsCertificateOf {mode : Mode} {width : ℕ} {net : Network} {ports : Ports} {pats : List Pattern}
    {timing : Timing} {cap : ℕ} {n : Netlist} {names : List (List ℕ)} {mapped : Ports}
    (is : IsNetlistOf mode width net ports pats timing cap n names mapped) (certificate : Certificate) : Type 0 where
  pub labels : (c : ℕ) → option_map (λ (label : Micro). label.0) (slice_index_or certificate.labels c None) ≡
      labels_in is.labels c
  pub nets : map (option_map (λ (class : ClassId). class.0)) certificate.nets ≡ map Some is.gates

-- The two give each class the same label, a place past the end counting as none, and each gate the same class.
pub record AreSameCertificates (a b : Certificate) : Type 0 where
  pub labels : (c : ℕ) → slice_index_or a.labels c None ≡ slice_index_or b.labels c None
  pub nets : a.nets ≡ b.nets
