-- What was read can be compared.
use Rattle.std.proofs.Common.{◌≡◌, ◌<◌, ℕ, List, [], ◌∷◌, length, map, take, refl, sym, ap, ◌∙◌, subst, subst₂}
use Rattle.std.specs.List.{IsDistinct}
use Rattle.std.specs.Str.{bytes_eq}
use Rattle.std.specs.Borrow.{Bor}
use Rattle.lw_facts.proofs.Lists.{distinct_take, distinct_of}
use Rattle.lw_pool.specs.declared.id.NetId.{NetId}
use Rattle.lw_pool.specs.declared.latch.Frame.{Frame}
use Rattle.lw_frame.specs.Frames.{Fits}
use Rattle.lw_net.specs.Networks as net
use Rattle.lw_netlist.specs.Netlists as netlist
use Rattle.lw_netlist.specs.declared.gate.Port.{Port}
use Rattle.lw_genlib.specs.Cells.{CellParts}
use Rattle.lw_blif.specs.declared.parsed.Parsed.{Parsed}
use Rattle.lw_blif.specs.BlifNetworks.{IsModel}
use Rattle.lw_mapped.specs.declared.closing.Mapped.{Mapped}
use Rattle.lw_mapped.specs.Readable.{IsNamed}
use Rattle.lw_files.specs.Read.{IsReadNetlist}
use Rattle.lw_equal.specs.declared.side.Logic.{Logic}
use Rattle.lw_equal.specs.declared.side.Logic.TheVariants.{Rows, Cells}
use Rattle.lw_equal.specs.declared.side.Side.{Side}
use Rattle.lw_equal.specs.Sides.{IsSide, port_name}
use Rattle.lw_equal_top.specs.declared.source.Source.TheVariants.{Network, Netlist}
use Rattle.lw_equal_top.specs.Sources.{IsLogicOf, IsSideOf, IsSource}

-- Names of roots.

root_names : (n : net.NetworkParts) (ids : List NetId) → map port_name (map (net.output_port n) ids) ≡ map (net.name_in n) ids
root_names n [] = refl
root_names n (id ∷ ids) = ap (λ names. net.name_in n id ∷ names) (root_names n ids)

port_names : (ports : List Port) → map port_name (map netlist.plain_port ports) ≡ map netlist.port_name ports
port_names [] = refl
port_names (port ∷ ports) = ap (λ names. port.name ∷ names) (port_names ports)

-- Names that differ.

-- Networks.

module _ (cells : List CellParts) (model : Parsed) (is : IsModel model) where
  abbrev names : List (List ℕ)
  names = map (net.name_in model.network) model.network.outputs

  abbrev RootsOf : net.NetworkParts → List (List ℕ)
  RootsOf n = map port_name (map (net.output_port n) n.outputs)

  same_roots : RootsOf model.network ≡ names
  same_roots = root_names model.network model.network.outputs

  network_logic : (logic : Logic) (frame : Bor Frame) → IsLogicOf cells (Network model) logic → frame.now ≡ model.frame → IsSide (record { logic = logic; frame = frame })
  network_logic (Rows n) frame same framed = record {
    inputs = subst (λ (p : net.NetworkParts). IsDistinct bytes_eq (net.input_names p)) (sym same) is.inputs;
    roots = subst (λ (p : net.NetworkParts). IsDistinct bytes_eq (RootsOf p)) (sym same) (subst (IsDistinct bytes_eq) (sym same_roots) is.outputs);
    frame = subst₂ (λ (p : net.NetworkParts) (f : Frame). Fits f (net.input_names p) (RootsOf p)) (sym same) (sym framed) (subst (Fits model.frame (net.input_names model.network)) (sym same_roots) is.frame);
    evaluated = tt;
  }
  network_logic (Cells n library) frame same framed = absurd same

  pub network_source : IsSource cells (Network model)
  network_source side of = network_logic side.logic side.frame of.logic of.frame

-- Netlists.

module _ (cells : List CellParts) (mapped : Mapped) (is : IsReadNetlist cells mapped) (named : IsNamed mapped.netlist) where
  abbrev InputsOf : netlist.NetlistParts → List (List ℕ)
  InputsOf n = take n.inputs n.names

  abbrev PortsOf : netlist.NetlistParts → List (List ℕ)
  PortsOf n = map port_name (map netlist.plain_port n.outputs)

  same_ports : PortsOf mapped.netlist ≡ map netlist.port_name mapped.netlist.outputs
  same_ports = port_names mapped.netlist.outputs

  netlist_logic : (logic : Logic) (frame : Bor Frame) → IsLogicOf cells (Netlist mapped) logic → frame.now ≡ mapped.frame → IsSide (record { logic = logic; frame = frame })
  netlist_logic (Rows n) frame same framed = absurd same
  netlist_logic (Cells n library) frame same framed = record {
    inputs = subst (λ (p : netlist.NetlistParts). IsDistinct bytes_eq (InputsOf p)) (sym same.0) (distinct_take mapped.netlist.inputs mapped.netlist.names (distinct_of mapped.netlist.names named.names.nets_differ));
    roots = subst (λ (p : netlist.NetlistParts). IsDistinct bytes_eq (PortsOf p)) (sym same.0) (distinct_of (PortsOf mapped.netlist) named.names.outputs_differ);
    frame = subst₂ (λ (p : netlist.NetlistParts) (f : Frame). Fits f (InputsOf p) (PortsOf p)) (sym same.0) (sym framed) (subst (Fits mapped.frame (InputsOf mapped.netlist)) (sym same_ports) is.fits.frame);
    evaluated = rw (same.0, same.1) (is.over, is.few);
  }

  pub netlist_source : IsSource cells (Netlist mapped)
  netlist_source side of = netlist_logic side.logic side.frame of.logic of.frame
