-- The text of the tables that a network is covered by cannot fail to be there, or why there is none.
use Rattle.std.proofs.Common.{ℕ, ◌<◌, List, length, map, All, Result, Ok, Err, refl, sym, arith}
use Rattle.std.proofs.lemmas.List.{length-map}
use Rattle.std.proofs.lemmas.List.Elements.{All-weaker}
use native.Mathlib.Decide.{dec_lt}
use Rattle.lw_facts.proofs.Lists.{some_within}
use Rattle.lw_pool.specs.declared.id.ClassId.{ClassId}
use Rattle.lw_pool.specs.Numbers.{numbers}
use Rattle.lw_laws.specs.Classes.{IsGraphOf}
use Rattle.lw_laws.specs.Graphs.{Graph}
use Rattle.lw_laws.specs.Listings.{listing_of}
use Rattle.lw_laws.specs.Networks.{Network}
use Rattle.lw_laws.proofs.InputClasses.{distinct_leaves}
use Rattle.lw_net.specs.Networks.{NetworkParts, input_names, output_names, name_in}
use Rattle.lw_net.specs.Plain as network
use Rattle.lw_net.specs.Ports.{ports_of}
use Rattle.lw_form.specs.Limits.{most_bases}
use Rattle.lw_assoc.specs.Splits.{most_splits}
use Rattle.lw_blif.specs.declared.parsed.Parsed.{Parsed}
use Rattle.lw_lut.specs.declared.ports.TablePorts.{TablePorts}
use Rattle.lw_lut.specs.declared.table.Table.{Table}
use Rattle.lw_lut.specs.Choosing.{AreTables}
use Rattle.lw_lut.specs.Depths.{DepthLists, AreLeastDepths}
use Rattle.lw_lut.specs.Nets.{PlainTableNet, AreFit, table_names}
use Rattle.lw_lut.specs.Searches.{IsKnown}
use Rattle.lw_lut.specs.Texts.{tables_text}
use Rattle.lw_lut.proofs.FormDepths.{some_depth}
use Rattle.lw_lut.proofs.TableNets.{net_kept}
use Rattle.lw_lut_text.specs.Meaning.{ArePortsOf}
use Rattle.lw_lut_text.proofs.PortsFit as fitting
use Rattle.lw_map.specs.Options.{Options, IsWide}
use Rattle.lw_map.specs.Mapped.{base_count, splits_count, IsWithinLimits}
use Rattle.lw_map.specs.Tabled.{AreLeaves}
use Rattle.lw_map.proofs.PortNames.{port_list, has_ports, port_names, few_outputs}
use Rattle.lw_files.specs.Steps.{Files}
use Rattle.lw_files.proofs.Kept.{AreKept}
use Rattle.lw_top.specs.declared.refusal.Refusal.{Refusal}
use Rattle.lw_top.specs.declared.refusal.Refusal.TheVariants.{Forms, Splits}
use Rattle.lw_top.specs.Tables.{Tabulates}
use Rattle.lw_answers.proofs.MappedChecks.{class_id, class_ids}
use Rattle.lw_exists.specs.Weakly.{Weakly}
use Rattle.lw_exists.proofs.Weak.{sure, and_then, weaker}
use Rattle.lw_exists.proofs.SomeGraph.{some_graph}
use Rattle.lw_exists.proofs.SomeCuts.{some_least_depths}
use Rattle.lw_exists.proofs.SomeTables.{some_tables}
use Rattle.lw_exists.proofs.OutputClasses.{graph_kept, output_classes, classes_are}

module _ (options : Options) (most : ℕ) (model : Parsed) (files : Files) (wide : IsWide options) (leaves : AreLeaves most) (kept : AreKept model) where
  abbrev HasSome : Type 0
  HasSome = (a : Result (List ℕ) Refusal) × Tabulates most options model files a

  abbrev parts : NetworkParts
  parts = model.network

  abbrev net : Network
  net = network.plain parts

  module _ (within : IsWithinLimits options parts) (g : Graph) (is : IsGraphOf options.mode parts.inputs (listing_of options.width net) g) where
    abbrev roots : List ClassId
    roots = output_classes options parts wide kept.network within g is

    abbrev ports : TablePorts
    ports = record { model = parts.model; inputs = input_names parts; outputs = output_names parts; roots = roots }

    of_network : ArePortsOf options.width net (ports_of parts) g ports
    of_network = record {
      inputs = refl;
      outputs = sym (port_list parts kept.network parts.outputs);
      roots = classes_are options parts wide kept.network within g is;
    }

    module _ (lists : DepthLists) (least : AreLeastDepths g most lists) where
      known : All (λ (root : ClassId). IsKnown lists.depths root.0) roots
      known =
          fitting.roots_known options.mode options.width net (ports_of parts) g ports wide.least is of_network most lists (has_ports parts kept.network) least
          (λ f o. some_depth options.mode options.width net g wide.least is most f o)

      fit : AreFit g ports
      fit =
          let names = port_names parts kept.network kept.names_differ kept.fits.inputs kept.fits.outputs in
          let few = few_outputs parts kept.network kept.fits.outputs in
          let room = kept.network.few in
          let count = length-map parts.outputs (name_in parts) in
          let one_each = least.one_each in
          fitting.ports_fit options.mode options.width net (ports_of parts) g ports wide.least is of_network names (distinct_leaves options.mode options.width net g wide.least is) (omega arith)
          (All-weaker (λ (root : ClassId). IsKnown lists.depths root.0) (λ (root : ClassId). root.0 < length g.pairs) (λ root (e, at). let lt = some_within lists.depths root.0 e at in omega arith) roots known)

      tabled : (tables : List Table) × AreTables g most lists.depths (numbers roots) tables → HasSome
      tabled (tables, are) =
          let names = table_names ports tables in
          let inputs = map class_id g.leaves in
          let n : PlainTableNet = record { ports = ports; inputs = inputs; tables = tables; names = names } in (
            Ok (tables_text n model.frame),
            record {
              within = within;
              net = n;
              tabled = record {
                kept = net_kept g most lists least ports fit known tables are inputs (class_ids g.leaves) names;
                graph = g;
                is_graph = is;
                lists = lists;
                least = least;
                model = refl;
                inputs = refl;
                outputs = refl;
                roots = of_network.roots;
                fit = fit;
                is_net = record { ports_are = refl; inputs = class_ids g.leaves; tables = are; names = refl };
              };
              says = refl;
            },
          )

      covered : Weakly HasSome
      covered = weaker tabled (some_tables g most lists least roots known)

    by_graph : Weakly HasSome
    by_graph =
        and_then (some_least_depths g (graph_kept options parts wide kept.network within g is) most leaves.least) (λ (lists, least). covered lists least)

  by_limits : Dec (most_bases < base_count options parts) → Dec (most_splits < splits_count options parts) → Weakly HasSome
  by_limits (yes many) d = sure (Err Forms, many)
  by_limits (no few) (yes many) = sure (Err Splits, (omega arith, many))
  by_limits (no few) (no none) =
      and_then (some_graph options.mode options.width net wide.least) (λ (g, is). by_graph (record { forms = omega arith; splits = omega arith }) g is)

  pub some_tabled : Weakly ((a : Result (List ℕ) Refusal) × Tabulates most options model files a)
  some_tabled = by_limits (dec_lt most_bases (base_count options parts)) (dec_lt most_splits (splits_count options parts))
