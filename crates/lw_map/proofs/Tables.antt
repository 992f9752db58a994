-- The ports of a network fit the graph of its forms, each of its outputs has a depth, and the tables for them are those it comes to.
use Rattle.std.proofs.Common.{ℕ, ◌≡◌, [], ap, sym, ◌∙◌, subst}
use Rattle.std.specs.List.{IsDistinct}
use Rattle.std.specs.Prelude.{All}
use Rattle.std.specs.Str.{bytes_eq}
use Rattle.lw_pool.specs.declared.id.ClassId.{ClassId}
use Rattle.lw_laws.specs.MappedNetlists.{root_classes}
use Rattle.lw_laws.proofs.InputClasses.{distinct_leaves}
use Rattle.lw_net.specs.Networks.{NetworkParts, IsNetwork, input_names, output_names}
use Rattle.lw_net.specs.Plain as network
use Rattle.lw_extract.specs.declared.ports.Ports.{Ports}
use Rattle.lw_lut.specs.declared.ports.TablePorts.{TablePorts}
use Rattle.lw_lut.specs.Depths.{DepthLists, AreLeastDepths}
use Rattle.lw_lut_text.specs.Meaning.{ArePortsOf as AreTablePortsOf}
use Rattle.lw_lut.specs.Searches.{IsKnown}
use Rattle.lw_lut.specs.Nets.{PlainTableNet, IsTableNet, AreFit, IsTableNetOf}
use Rattle.lw_lut.proofs.FormDepths.{some_depth}
use Rattle.lw_lut_text.proofs.PortsFit as fitting
use Rattle.lw_map.specs.declared.choices.Choices.{Choices}
use Rattle.lw_map.specs.Options.{Options, plain_options}
use Rattle.lw_map.specs.Choices.{AreChoicesOf}
use Rattle.lw_map.specs.Ports.{ArePortsOf}
use Rattle.lw_map.specs.Tabled.{IsTabled}
use Rattle.lw_map.proofs.Composed.{ports_fit}
use Rattle.lw_map.proofs.PortNames.{has_ports, port_list}
use Rattle.lw_pool.specs.Numbers.{numbers}
use Rattle.lw_net.specs.Ports.{ports_of}

-- the same ports, for tables
abbrev pub table_ports : Ports → TablePorts
table_ports ports = record { model = ports.model; inputs = ports.inputs; outputs = ports.outputs; roots = ports.roots }

module _ (net : NetworkParts) (c : Choices) (ports : Ports) (kept : IsNetwork net) (are : AreChoicesOf net c) (named : ArePortsOf net c ports) where
  abbrev options : Options
  options = plain_options c.options

  pub table_ports_fit : IsDistinct bytes_eq (output_names net) → AreFit c.graph (table_ports ports)
  table_ports_fit differ =
      let fit = ports_fit net [] c ports kept are named differ in
      record {
        one_name = fit.one_name;
        one_root = fit.one_root;
        few_outputs = fit.few_outputs;
        in_range = fit.in_range;
        apart = distinct_leaves options.mode options.width (network.plain net) c.graph are.wide.least are.graph;
      }

  of_network : AreTablePortsOf options.width (network.plain net) (ports_of net) c.graph (table_ports ports)
  of_network = record {
    inputs = named.inputs;
    outputs = named.outputs ∙ sym (port_list net kept net.outputs);
    roots = ap numbers named.roots ∙ are.roots;
  }

  module _ (most : ℕ) (lists : DepthLists) (least : AreLeastDepths c.graph most lists) where
    pub roots_known : All (λ (root : ClassId). IsKnown lists.depths root.0) ports.roots
    roots_known =
        fitting.roots_known options.mode options.width (network.plain net) (ports_of net) c.graph (table_ports ports) are.wide.least are.graph of_network most lists (has_ports net kept) least
        (λ f o. some_depth options.mode options.width (network.plain net) c.graph are.wide.least are.graph most f o)

    pub network_tabled : (n : PlainTableNet) → IsDistinct bytes_eq (output_names net) → IsTableNet n → IsTableNetOf c.graph most lists.depths (table_ports ports) n → IsTabled options most net n
    network_tabled n differ own is = record {
      kept = own;
      graph = c.graph;
      is_graph = are.graph;
      lists = lists;
      least = least;
      model = subst (λ (p : TablePorts). p.model ≡ net.model) (sym is.ports_are) named.model;
      inputs = subst (λ (p : TablePorts). p.inputs ≡ input_names net) (sym is.ports_are) named.inputs;
      outputs = subst (λ (p : TablePorts). p.outputs ≡ output_names net) (sym is.ports_are) named.outputs;
      roots = subst (λ (p : TablePorts). numbers p.roots ≡ root_classes options.width (network.plain net) c.graph (ports_of net).outputs) (sym is.ports_are) of_network.roots;
      fit = subst (AreFit c.graph) (sym is.ports_are) (table_ports_fit differ);
      is_net = subst (λ (p : TablePorts). IsTableNetOf c.graph most lists.depths p n) (sym is.ports_are) is;
    }
