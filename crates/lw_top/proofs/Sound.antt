-- What is known of the command that was asked for, and of what a check asks of the files that were read.
use Rattle.std.proofs.Common.{◌≡◌, List, Option, Some, None, Result, Ok, ap}
use Rattle.lw_pool.specs.declared.id.ClassId.{ClassId}
use Rattle.lw_laws.specs.Graphs.{Graph}
use Rattle.lw_net.proofs.Rise.{in_order}
use Rattle.lw_blif.specs.declared.parsed.Parsed.{Parsed}
use Rattle.lw_genlib.specs.Cells.{CellParts}
use Rattle.lw_genlib.specs.Tables.{library_patterns}
use Rattle.lw_mapped.specs.declared.closing.Mapped.{Mapped as MappedParts}
use Rattle.lw_check.specs.Mappings.{IsKept}
use Rattle.lw_check.specs.Verdicts.{claim}
use Rattle.lw_files.proofs.Kept.{AreKept, IsReadBy}
use Rattle.lw_top.specs.declared.refusal.Refusal.{Refusal}
use Rattle.lw_top.specs.Words.{Command}
use Rattle.lw_top.specs.Answers.{asked_for}

pub asked_some : (o : Option Command) (c : Command) → ◌≡◌ {A = Result Command Refusal} (asked_for o) (Ok c) → o ≡ Some c
asked_some None c is = cc
asked_some (Some d) c is = let same : d ≡ c = cc in ap (λ (x : Command). Some x) same

-- what a check asks of the network and of the netlist
pub claim_kept : (cells : List CellParts) (model : Parsed) (g : Graph) (roots : List ClassId) (m : MappedParts) → AreKept model → IsReadBy cells m → IsKept (claim model.network model.frame model.starts cells g (library_patterns cells) roots m)
claim_kept cells model g roots m kept read = record {
  network = kept.network;
  in_order = in_order model.network kept.network;
  netlist = read.netlist;
  one_class = read.one_class;
}
