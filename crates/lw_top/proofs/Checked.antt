-- A mapped netlist that a check accepts is a mapping of the network, whoever wrote it.
use Rattle.std.proofs.Common.{◌≡◌, inl, inr, ℕ, Bool, List, [], ◌∷◌, map, Option, Some, Ok, refl, ap, sym, ◌∙◌, subst, arith}
use Rattle.lw_io.specs.declared.file.File.{File}
use Rattle.lw_io.specs.Files.{bytes_of}
use Rattle.lw_pool.specs.declared.id.NetId.{NetId}
use Rattle.lw_laws.specs.Graphs.{Graph}
use Rattle.lw_laws.specs.Headline.{Port as PlainPort}
use Rattle.lw_laws.specs.Mapped.{root_class}
use Rattle.lw_laws.proofs.GraphEncodes.{graph_encodes}
use Rattle.lw_net.specs.Networks.{NetworkParts}
use Rattle.lw_net.specs.Plain.{plain}
use Rattle.lw_genlib.specs.Cells.{CellParts, IsLibrary}
use Rattle.lw_genlib.specs.Tables.{truth_of_cells, library_patterns}
use Rattle.lw_blif.specs.declared.parsed.Parsed.{Parsed}
use Rattle.lw_mapped.specs.declared.closing.Mapped.{Mapped as MappedParts}
use Rattle.lw_check.specs.declared.verdict.Verdict.TheVariants as verdict
use Rattle.lw_check.specs.Claims.{Claim}
use Rattle.lw_check.specs.Mappings.{IsFastestMapping}
use Rattle.lw_check.specs.Verdicts.{claim}
use Rattle.lw_check.proofs.Judging.{accepted_is_mapping}
use Rattle.lw_map.specs.Options.{Options, IsWide}
use Rattle.lw_map.proofs.CellLaws.{delay_patterns, delay_truths}
use Rattle.lw_files.specs.Steps.{Files}
use Rattle.lw_top.specs.Words.{Command, checking, command_of}
use Rattle.lw_top.specs.Checks.{HasVerdict}
use Rattle.lw_top.specs.Answers.{IsCheckAnswer, IsCommandAnswer, IsAnswer}
use Rattle.lw_top.specs.declared.outcome.Outcome.{Outcome}
use Rattle.lw_top.specs.declared.outcome.Outcome.TheVariants.{Done, WriteFault, Refused}
use Rattle.lw_top.specs.Outcome.{Meets, outcome_status}
use Rattle.lw_top.specs.Mappings.{AsksForCheck, IsCheckedMapping}
use Rattle.lw_top.proofs.Headline.{asked-ok}
use Rattle.lw_top.proofs.InRange.{command_in_range}
use Rattle.lw_files.proofs.Kept.{cells_kept, AreKept, model_kept, mapped_kept, IsReadBy}
use Rattle.lw_top.proofs.Sound.{claim_kept}
use Rattle.lw_top.proofs.FaultStatuses.{fault_is_not_done}
use Rattle.lw_top.specs.declared.refusal.Refusal.TheVariants.{Faulty}
use Rattle.lw_net.specs.Ports.{output_port}

same_roots : (width : ℕ) (net : NetworkParts) (g : Graph) (outputs : List NetId) → map (λ (p : PlainPort). root_class width (plain net) g p.net) (map (output_port net) outputs) ≡ map (λ (output : NetId). root_class width (plain net) g output.0) outputs
same_roots width net g [] = refl
same_roots width net g (o ∷ outputs) = ap (λ (cs : List ℕ). root_class width (plain net) g o.0 ∷ cs) (same_roots width net g outputs)

module _ (options : Options) (wide : IsWide options) (cells : List CellParts) (lib : IsLibrary cells) (model : Parsed) (kept : AreKept model) (m : MappedParts) (read : IsReadBy cells m) (v : HasVerdict options cells model m verdict.Yes) where
  abbrev own : Claim
  own = claim model.network model.frame model.starts cells v.graph (library_patterns cells) v.roots m

  -- the netlist is a fastest mapping
  pub fastest : IsFastestMapping options.mode options.width (truth_of_cells cells) own
  fastest =
      accepted_is_mapping options.mode options.width (truth_of_cells cells) own (claim_kept cells model v.graph v.roots m kept read)
      (record {
        wide = wide.least;
        encodes = graph_encodes options.mode options.width (plain model.network) v.graph wide.least v.is_graph;
        one_leaf = v.is_graph.written.leaf_count;
        roots = v.roots_are ∙ same_roots options.width model.network v.graph model.network.outputs;
        patterns = delay_patterns cells lib;
      })
      (delay_truths cells lib) v.is

module _ (words : List (List ℕ)) (files : Files) (asks : AsksForCheck words) where
  own_command : (c : Command) → command_of words ≡ Some c → c ≡ checking asks.options asks.library asks.network asks.mapped
  own_command c is = let both : Some c ≡ Some (checking asks.options asks.library asks.network asks.mapped) = sym is ∙ asks.form in cc

  -- the library, the network and the netlist were read, and the verdict is yes
  checked_by : (text : List ℕ) → IsCheckAnswer asks.options asks.library asks.network asks.mapped files (Ok text) → IsCheckedMapping words files
  checked_by text (inl (cells, l, inl (model, n, inl (m, r, (says, v))))) =
      let wide = command_in_range words (checking asks.options asks.library asks.network asks.mapped) asks.form in
      let is = fastest asks.options wide cells (cells_kept asks.library files cells l) model (model_kept asks.network files model n) m (mapped_kept asks.mapped cells files m r) v in
      record {
        options = asks.options;
        cells = cells;
        model = model;
        netlist = m;
        library_word = asks.library;
        network_word = asks.network;
        mapped_word = asks.mapped;
        form = asks.form;
        library = l;
        network = n;
        mapped = r;
        frame = is.frame;
        mapping_is = is.mapping_is;
      }
  checked_by text (inl (cells, l, inl (model, n, inr (e, refused, is)))) = cc
  checked_by text (inl (cells, l, inr (e, refused, is))) = cc
  checked_by text (inr (e, refused, is)) = cc

  pub answer_checked : (text : List ℕ) → IsAnswer words files (Ok text) → IsCheckedMapping words files
  answer_checked text answer =
      let (c, is, comes) = asked-ok words files text answer in
      checked_by text (subst (λ (d : Command). IsCommandAnswer d files (Ok text)) (own_command c is) comes)

-- a run that is done checked a mapping
pub done_checked : {O : Type 0} (words : List (List ℕ)) (told : Option (List File)) (before now : ℕ) (taken : O → Option (List ℕ)) (is_finished : O → Bool) (faults : O → ℕ) (old new : O) → AsksForCheck words → (o : Outcome) → Meets told before now taken is_finished faults old new (IsAnswer words) o → (files : List File) → told ≡ Some files → 0 ≡ outcome_status o → IsCheckedMapping words (bytes_of files)
done_checked words told before now taken is_finished faults old new asks Done m files is e = answer_checked words (bytes_of files) asks m.0 (m.1 files is)
done_checked words told before now taken is_finished faults old new asks WriteFault m files is e = absurd (omega (arith, e))
done_checked words told before now taken is_finished faults old new asks (Refused (Faulty w fault)) m files is e = absurd (fault_is_not_done fault e)
done_checked words told before now taken is_finished faults old new asks (Refused other) m files is e = absurd (omega (arith, e))
