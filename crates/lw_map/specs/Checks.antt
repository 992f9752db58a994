-- The verdict on a mapped netlist.
use Rattle.std.specs.Prelude.{◌≡◌, List}
use Rattle.lw_pool.specs.declared.id.ClassId.{ClassId}
use Rattle.lw_pool.specs.Numbers.{numbers}
use Rattle.lw_laws.specs.Graphs.{Graph}
use Rattle.lw_laws.specs.Classes.{IsGraphOf}
use Rattle.lw_laws.specs.Listings.{listing_of}
use Rattle.lw_laws.specs.MappedNetlists.{root_classes}
use Rattle.lw_net.specs.Plain.{plain}
use Rattle.lw_net.specs.Ports.{ports_of}
use Rattle.lw_genlib.specs.Cells.{CellParts}
use Rattle.lw_pattern.specs.Libraries.{library_patterns}
use Rattle.lw_blif.specs.declared.parsed.Parsed.{Parsed}
use Rattle.lw_mapped.specs.declared.closing.Mapped.{Mapped}
use Rattle.lw_check.specs.declared.verdict.Verdict.{Verdict}
use Rattle.lw_check.specs.Verdicts.{IsVerdict}
use Rattle.lw_map.specs.Options.{Options}
use Rattle.lw_map.specs.Mapped.{IsWithinLimits}

-- the verdict on the netlist, over the graph of the network's forms and the classes of its outputs
pub record HasVerdict (options : Options) (cells : List CellParts) (model : Parsed) (mapped : Mapped)
    (v : Verdict) : Type 0 where
  pub within : IsWithinLimits options model.network
  pub graph : Graph
  pub is_graph : IsGraphOf options.mode model.network.inputs (listing_of options.width (plain model.network)) graph
  pub roots : List ClassId
  pub roots_are : numbers roots ≡ root_classes options.width (plain model.network) graph
      (ports_of model.network).outputs
  pub is : IsVerdict model.network model.frame model.starts cells graph (library_patterns cells) roots mapped v
