-- The graph of a network within the limits is what each graph is, and each output has a class in it.
use Rattle.std.proofs.Common.{ℕ, ◌≡◌, List, length, map, ap, ◌∙◌, arith}
use Rattle.std.proofs.lemmas.List.{length-map}
use Rattle.lw_pool.specs.declared.id.ClassId.{ClassId}
use Rattle.lw_pool.specs.declared.id.NetId.{NetId}
use Rattle.lw_pool.specs.Numbers.{numbers}
use Rattle.lw_laws.specs.Classes.{IsGraphOf}
use Rattle.lw_laws.specs.Graphs.{Graph}
use Rattle.lw_laws.specs.Listings.{listing_of}
use Rattle.lw_laws.specs.Mapped.{root_class}
use Rattle.lw_laws.specs.MappedNetlists.{root_classes}
use Rattle.lw_net.specs.Networks.{NetworkParts, IsNetwork}
use Rattle.lw_net.specs.Plain as network
use Rattle.lw_net.specs.Ports.{ports_of}
use Rattle.lw_graph.specs.Graphs.{IsGraph}
use Rattle.lw_assoc.proofs.Built.{pairs_bound}
use Rattle.lw_map.specs.Options.{Options, IsWide}
use Rattle.lw_map.specs.Mapped.{IsWithinLimits}
use Rattle.lw_answers.proofs.FormGraphs.{form_graph}
use Rattle.lw_answers.proofs.MappedChecks.{class_id, class_ids, roots_again}

module _ (options : Options) (net : NetworkParts) (wide : IsWide options) (kept : IsNetwork net) (within : IsWithinLimits options net) (g : Graph) (is : IsGraphOf options.mode net.inputs (listing_of options.width (network.plain net)) g) where
  pub graph_kept : IsGraph g
  graph_kept =
      form_graph options.mode options.width (network.plain net) g wide.least is (let a = kept.named in let b = kept.few in omega arith)
      (let few = within.forms in let p = pairs_bound 0 g.forms in let w = is.written.class_count in let f = is.written.form_count in omega arith)

  abbrev root_numbers : List ℕ
  root_numbers = root_classes options.width (network.plain net) g (ports_of net).outputs

  abbrev pub output_classes : List ClassId
  output_classes = map class_id root_numbers

  pub classes_are : numbers output_classes ≡ root_numbers
  classes_are = class_ids root_numbers

  pub one_class : length output_classes ≡ length net.outputs
  one_class =
      length-map root_numbers class_id
      ∙ (ap length (roots_again options.width (network.plain net) g net net.outputs)
      ∙ length-map net.outputs (λ (o : NetId). root_class options.width (network.plain net) g o.0))
