-- What steps that read no file answer.
use Rattle.std.proofs.Common.{ℕ, Bool, List, length, map, Ok, Err, ap, arith}
use Rattle.std.proofs.lemmas.List.{length-map, length-take-le}
use Rattle.std.proofs.lemmas.Slice.Zip.{AllZip-long}
use Rattle.lw_fixed.specs.declared.micro.Micro.{Micro}
use Rattle.lw_net.specs.Networks.{NetworkParts, name_in}
use Rattle.lw_net.specs.Ports.{output_port}
use Rattle.lw_genlib.specs.Cells.{CellParts}
use Rattle.lw_blif.specs.declared.parsed.Parsed.{Parsed}
use Rattle.lw_blif.specs.BlifNetworks.{IsModel}
use Rattle.lw_netlist.specs.Plain.{plain_port}
use Rattle.lw_mapped.specs.Texts.{IsFramed}
use Rattle.lw_lut.specs.Nets.{PlainTableNet}
use Rattle.lw_map.specs.declared.counting.Counts.{Counts as GraphCounts}
use Rattle.lw_map.specs.declared.counting.Sizes.{Sizes}
use Rattle.lw_map.specs.declared.fault.MapFault.{MapFault}
use Rattle.lw_map.specs.declared.fault.MapFault.TheVariants as map_fault
use Rattle.lw_map.specs.declared.mapping.CertifiedNetlist.{CertifiedNetlist}
use Rattle.lw_map.specs.Options.{Options}
use Rattle.lw_map.specs.Mapped.{IsWithinLimits}
use Rattle.lw_map.specs.Certified.{IsCertified}
use Rattle.lw_map.specs.Counts.{AreCounts, HasSizes, IsDrawingFault}
use Rattle.lw_map.specs.Faults.{IsChoiceFault, IsMapFault}
use Rattle.lw_map.specs.Tabled.{IsTabled}
use Rattle.lw_top.specs.declared.answer.Answer.TheVariants as answer
use Rattle.lw_top.specs.declared.refusal.Refusal.{Refusal}
use Rattle.lw_files.specs.Steps.{Files}
use Rattle.lw_top.specs.Steps.{Step}
use Rattle.lw_top.specs.Maps.{LacksGraph, LacksMapping, Maps}
use Rattle.lw_top.specs.Named.{map_refusal}
use Rattle.lw_top.specs.Answered.{Gives}
use Rattle.lw_top.specs.Counts.{Counts, drawing_options, at_once, Draws}
use Rattle.lw_top.specs.Tables.{Tabulates}

-- a step that refuses for want of a graph, and one that refuses for want of a mapping
module _ (step : Step (List ℕ)) (options : Options) (net : NetworkParts) where
  pub choice_refused : ((files : Files) (r : Refusal) → LacksGraph options net r → step files (Err r)) → (fault : MapFault) → IsChoiceFault options net fault → Gives step (Err (map_refusal fault))
  choice_refused lacks map_fault.Forms is = λ files. lacks files _ is
  choice_refused lacks map_fault.Splits is = λ files. lacks files _ is
  choice_refused lacks (map_fault.NoCover name) is = absurd is
  choice_refused lacks map_fault.Points is = absurd is
  choice_refused lacks map_fault.Memory is = tt

  pub map_refused : (cells : List CellParts) (starts : List Micro) → ((files : Files) (r : Refusal) → LacksMapping options cells net starts r → step files (Err r)) → (fault : MapFault) → IsMapFault options cells net starts fault → Gives step (Err (map_refusal fault))
  map_refused cells starts lacks map_fault.Forms is = λ files. lacks files _ is
  map_refused cells starts lacks map_fault.Splits is = λ files. lacks files _ is
  map_refused cells starts lacks (map_fault.NoCover name) is = λ files. lacks files _ is
  map_refused cells starts lacks map_fault.Points is = absurd is
  map_refused cells starts lacks map_fault.Memory is = tt

-- a mapping
module _ (options : Options) (cells : List CellParts) (model : Parsed) (fits : IsModel model) (certified : Bool) (n : CertifiedNetlist) (is : IsCertified options certified cells model n) where
  -- the frame and the starts fit the netlist
  framed : IsFramed n.netlist model.frame model.starts
  framed =
      let leaves = is.is_mapped.is.is_graph.written.leaf_count in
      let inputs = is.is_mapped.is.extracted.inputs in
      let own = fits.frame.own_inputs in
      let roots = fits.frame.own_outputs in
      let starts = fits.starts.one_each in
      let named = fits.network.named in
      let names = length-take-le model.network.inputs model.network.names (omega arith) in
      let zipped = AllZip-long _ (map (output_port model.network) model.network.outputs) (map plain_port n.netlist.outputs) is.is_mapped.is.outputs in
      let a = length-map model.network.outputs (output_port model.network) in
      let b = length-map n.netlist.outputs plain_port in
      let d = length-map model.network.outputs (name_in model.network) in
      record {
        inputs = omega arith;
        outputs = omega arith;
        one_start = omega arith;
      }

  pub mapping_given : Gives (Maps options certified cells model) (Ok (answer.Mapping cells n.netlist model.frame model.starts n.certificate))
  mapping_given = (
    λ text files says. record {
      within = is.within;
      netlist = n.netlist;
      is_mapped = is.is_mapped;
      certificate = n.certificate;
      asked = is.asked;
      written = says;
    },
    (is.over, framed, is.one_each),
  )

-- tables
pub tables_given : (leaves : ℕ) (options : Options) (model : Parsed) (n : PlainTableNet) → IsModel model → IsWithinLimits options model.network → IsTabled options leaves model.network n → Gives (Tabulates leaves options model) (Ok (answer.Tables n model.frame))
tables_given leaves options model n fits within is = (
  λ text files says. record { within = within; net = n; tabled = is; says = says },
  record {
    inputs = let own = fits.frame.own_inputs in let same = ap length is.inputs in omega arith;
    outputs = let own = fits.frame.own_outputs in let same = ap length is.outputs in omega arith;
  },
)

-- the counts of a graph
pub counts_given : (options : Options) (model : Parsed) (counts : GraphCounts) → AreCounts options model.network counts → Gives (Counts options model) (Ok (answer.Counts counts))
counts_given options model counts are = (λ text files says. record { counts = counts; are = are; says = says }, tt)

-- the sizes of a drawn network, or why it is not mapped
module _ (seed count : ℕ) (cells : List CellParts) where
  pub sizes_given : (sizes : Sizes) → HasSizes seed count cells sizes → Gives (Draws seed count cells) (Ok (answer.Sizes sizes))
  sizes_given sizes (net, made, are) = (λ text files says. (net, record { generated = made; sizes = sizes; are = are; says = says }), tt)

  pub drawing_refused : (fault : MapFault) → IsDrawingFault seed count cells fault → Gives (Draws seed count cells) (Err (map_refusal fault))
  drawing_refused map_fault.Forms (net, made, is) = λ files. (net, made, is)
  drawing_refused map_fault.Splits (net, made, is) = λ files. (net, made, is)
  drawing_refused (map_fault.NoCover name) (net, made, is) = λ files. (net, made, is)
  drawing_refused map_fault.Points (net, made, is) = absurd is
  drawing_refused map_fault.Memory is = tt
