-- What a verdict says of a claim over the graph of a network's forms.
use Rattle.std.specs.Prelude.{ℕ, ◌≤◌, ◌≡◌, List, length, map, Option, Some, option_map, slice_index_or}
use Rattle.std.specs.List.{AllZip}
use Rattle.lw_pool.specs.declared.id.NetId.{NetId}
use Rattle.lw_laws.specs.Classes.{IsGraphOf}
use Rattle.lw_laws.specs.Covers.{ArePatterns}
use Rattle.lw_laws.specs.Listings.{listing_of}
use Rattle.lw_laws.specs.Encodings.{Encodes}
use Rattle.lw_laws.specs.Headline.{HasLeastArrival, IsMapping}
use Rattle.lw_laws.specs.Mapped.{forms_of, root_class}
use Rattle.lw_laws.specs.MappedNetlists.{IsMatchNetlistOf, IsNetlistOf}
use Rattle.lw_laws.specs.Matches.{IsLeastCover}
use Rattle.lw_laws.specs.Modes.{Mode}
use Rattle.lw_laws.specs.Netlists.{AreArrivals, CellTruth}
use Rattle.lw_laws.specs.Networks.{IsInOrder}
use Rattle.lw_laws.specs.NumberedForms.{family_of}
use Rattle.lw_laws.specs.Rounds.{labels_in}
use Rattle.lw_genlib.specs.Tables.{millionths}
use Rattle.lw_net.specs.Networks.{IsNetwork}
use Rattle.lw_net.specs.Plain.{plain as plain_network}
use Rattle.lw_graph.specs.Graphs.{IsGraph}
use Rattle.lw_label.specs.Delays.{most_time}
use Rattle.lw_netlist.specs.Netlists.{IsNetlist}
use Rattle.lw_netlist.specs.Plain.{plain as plain_netlist, mapped_ports}
use Rattle.lw_mapped.specs.declared.certificate.Certificate.{Certificate}
use Rattle.lw_mapped.specs.declared.closing.Mapped.{Mapped}
use Rattle.lw_mapped.specs.Certified.{IsCertificateOf, AreSameCertificates}
use Rattle.lw_mapped.specs.Standing.{AreLabels}
use Rattle.lw_check.specs.Claims.{Claim, class_number, label_of_class, timing_in, cost_in}
use Rattle.lw_pool.specs.Numbers.{numbers}
use Rattle.lw_net.specs.Ports.{ports_of}

-- the classes of the outputs' sums of products are those of the claim
abbrev pub HasRootClasses : ℕ → Claim → Type 0
HasRootClasses width k =
    numbers k.roots ≡ map (λ (output : NetId). root_class width (plain_network k.net) k.graph output.0) k.net.outputs

-- what is kept of the network and of the netlist, whoever wrote it
pub record IsKept (k : Claim) : Type 0 where
  pub network : IsNetwork k.net
  pub in_order : IsInOrder (plain_network k.net)
  pub netlist : IsNetlist k.mapped.netlist
  pub one_class : length k.mapped.cert.nets ≡ length k.mapped.netlist.gates

-- The claim is over a graph that encodes the network's forms, with the classes of the outputs' sums of products as
-- roots.
pub record IsOverForms (mode : Mode) (width : ℕ) (k : Claim) : Type 0 where
  pub wide : 2 ≤ width
  pub encodes : Encodes (family_of mode (forms_of width (plain_network k.net))) k.graph
  pub one_leaf : length k.graph.leaves ≡ k.net.inputs
  pub roots : HasRootClasses width k
  pub patterns : ArePatterns (cost_in k).pin_counts k.pats

-- The netlist has the frame, the ports and the values of the network, and each output arrives at the least time of any
-- cover of any tree that the rules derive for it.
pub record IsFastestMapping (mode : Mode) (width : ℕ) (truth : CellTruth) (k : Claim) : Type 0 where
  pub frame : k.mapped.frame ≡ k.frame
  pub mapping_is : IsMapping mode width (plain_network k.net) (ports_of k.net) k.pats (timing_in k) truth
      (plain_netlist k.mapped.netlist) (mapped_ports k.mapped.netlist)

-- The claim is over the graph of the network's forms, with the classes of the outputs' sums of products as roots.
pub record IsOverGraph (mode : Mode) (width : ℕ) (k : Claim) : Type 0 where
  pub wide : 2 ≤ width
  pub is_graph : IsGraphOf mode k.net.inputs (listing_of width (plain_network k.net)) k.graph
  pub kept : IsGraph k.graph
  pub roots : HasRootClasses width k
  pub patterns : ArePatterns (cost_in k).pin_counts k.pats

-- The netlist is the one that the network is mapped to, with its frame and its certificate.
pub record IsMappingOf (mode : Mode) (width : ℕ) (k : Claim) : Type 0 where
  pub is : IsNetlistOf mode width (plain_network k.net) (ports_of k.net) k.pats (timing_in k) most_time
      (plain_netlist k.mapped.netlist) k.mapped.netlist.names (mapped_ports k.mapped.netlist)
  pub frame : k.mapped.frame ≡ k.frame
  pub certificate : Certificate
  pub of_mapping : IsCertificateOf is certificate
  pub same : AreSameCertificates k.mapped.cert certificate
  pub labels : AreLabels k.mapped.cert

-- The netlist is one of matches of the network, with its frame, with its nets named as `map` names them, and no class
-- twice. The certificate has the least time of each class and the class of each gate, and each output arrives at its
-- least time.
pub record IsTimelyNetlist (mode : Mode) (width : ℕ) (k : Claim) : Type 0 where
  pub is : IsMatchNetlistOf mode width (plain_network k.net) (ports_of k.net) k.pats (cost_in k).pin_counts
      (plain_netlist k.mapped.netlist) k.mapped.netlist.names (mapped_ports k.mapped.netlist)
  pub frame : k.mapped.frame ≡ k.frame
  pub labels : List (Option ℕ)
  pub least : (c : ℕ) → IsLeastCover is.graph k.pats (cost_in k) c (labels_in labels c)
  pub labels_are : (c : ℕ) → option_map millionths (label_of_class k c) ≡ labels_in labels c
  pub classes_are : map (option_map class_number) k.mapped.cert.nets ≡ map Some is.gates
  pub limits : AreLabels k.mapped.cert
  pub timely : (ds : List ℕ) → AreArrivals (timing_in k) (plain_netlist k.mapped.netlist) ds
      → AllZip (λ p q. HasLeastArrival mode width (plain_network k.net) k.pats (timing_in k) p.net
      (slice_index_or ds q.net 0)) (ports_of k.net).outputs (mapped_ports k.mapped.netlist).outputs

-- one netlist with one frame, and certificates that are the same
pub record AreAlike (a b : Mapped) : Type 0 where
  pub netlist : a.netlist ≡ b.netlist
  pub frame : a.frame ≡ b.frame
  pub certificates : AreSameCertificates a.cert b.cert
