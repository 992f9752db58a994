-- What was written of a mapping, or of a trade, is read as its netlist.
use Rattle.std.proofs.Common.{ℕ, ◌≤◌, ◌≡◌, inl, List, length, Option, Some, None, Ok, refl, ap, sym, ◌∙◌, subst, subst₂}
use Rattle.lw_fixed.specs.declared.micro.Micro.{Micro}
use Rattle.lw_pool.specs.declared.latch.Frame.{Frame}
use Rattle.lw_frame.specs.Frames.{Fits}
use Rattle.lw_frame.specs.Starts.{StartsFit}
use Rattle.lw_genlib.specs.Cells.{CellParts}
use Rattle.lw_netlist.specs.Netlists.{NetlistParts}
use Rattle.lw_mapped.specs.declared.certificate.Certificate.{Certificate}
use Rattle.lw_mapped.specs.Alike.{AreSameMapped}
use Rattle.lw_mapped.specs.Readable.{IsReadable, read_of}
use Rattle.lw_mapped.specs.Texts.{mapped_text}
use Rattle.lw_mapped.proofs.ReadBack.{reads-back}
use Rattle.lw_files.specs.Steps.{Files}
use Rattle.lw_files.proofs.Kept.{cells_kept, model_kept}
use Rattle.lw_top.specs.Words.{mapping}
use Rattle.lw_top.specs.Answers.{IsAnswer}
use Rattle.lw_top.specs.Mappings.{AsksForMapping, IsMappingText}
use Rattle.lw_top.specs.Traded.{IsTrade}
use Rattle.lw_top.proofs.Asked.{names_read}
use Rattle.lw_top.proofs.Headline.{answer-comes, form, mapping-text}
use Rattle.lw_top.proofs.InRange.{command_in_range}
use Rattle.lw_top.proofs.TradedNames.{traded_outputs}
use Rattle.lw_answers.specs.Checked.{AreApart}
use Rattle.lw_answers.specs.ReadsBack.{ReadsBack}
use Rattle.lw_answers.proofs.Accepted.{text_there}
use Rattle.lw_answers.proofs.MappedChecks.{readable_asked}

-- a text of what can be read is read back
read_back : (cells : List CellParts) (n : NetlistParts) (frame : Frame) (starts : List Micro) (certificate : Option Certificate) (text : List ℕ) → (AreApart cells → IsReadable cells n frame starts certificate) → text ≡ mapped_text cells n frame starts certificate → ReadsBack cells n frame starts certificate text
read_back cells n frame starts certificate text can_be_read written = λ apart few name files there.
    let own = mapped_text cells n frame starts certificate in
    let whole = read_of n frame starts certificate in
    let same : AreSameMapped whole whole = record { netlist = refl; frame = refl; starts = refl; certificates = record { labels = λ class. refl; nets = refl } } in
    let read = reads-back cells n frame starts certificate (can_be_read apart) whole same in
    inl (own, text_there name own files (there ∙ ap Some written) (subst (λ t. length t ≤ 67108864) written few), read)

-- a mapping
pub mapping_read_back : (words : List (List ℕ)) (files : Files) (text : List ℕ) → AsksForMapping words → IsAnswer words files (Ok text) → (is : IsMappingText words files text) × ReadsBack is.cells is.netlist is.model.frame is.model.starts is.certificate text
unfolding mapping-text
mapping_read_back words files text asks answer =
    let m = answer-comes words files asks text answer in
    let wide = command_in_range words (mapping asks.options asks.certified asks.library asks.network) (form words files asks) in
    let kept = model_kept asks.network files m.b m.two in
    let names = names_read asks.network files m.b m.two in
    let lib = cells_kept asks.library files m.a m.one in (
      mapping-text words files asks text m,
      read_back m.a m.comes.netlist m.b.frame m.b.starts m.comes.certificate text
          (readable_asked asks.options m.a m.b wide kept lib m.comes.within m.comes.netlist m.comes.is_mapped names asks.certified m.comes.certificate m.comes.asked)
          m.comes.written,
    )

-- a trade
pub trade_read_back : (words : List (List ℕ)) (files : Files) (text : List ℕ) → (is : IsTrade words files text) → ReadsBack is.cells is.netlist is.model.frame is.model.starts None text
trade_read_back words files text is = read_back is.cells is.netlist is.model.frame is.model.starts None text readable is.written
  where
    readable : AreApart is.cells → IsReadable is.cells is.netlist is.model.frame is.model.starts None
    readable apart =
        let kept = model_kept is.asks.network files is.model is.network in
        let names = names_read is.asks.network files is.model is.network in
        record {
          library = cells_kept is.asks.library files is.cells is.library;
          apart = apart;
          netlist = is.traded.kept;
          over = is.traded.over;
          by_depth = is.named.by_depth;
          model = is.named.model;
          signals = is.named.signals;
          outputs = is.named.outputs;
          names = is.named.names;
          frame_fits = subst₂ (λ ins outs. Fits is.model.frame ins outs) (sym is.traded.inputs_named) (sym (traded_outputs is.asks.options is.cells is.model is.asks.deadline is.netlist is.traded kept names)) is.frame;
          starts_fit = subst (λ k. StartsFit is.model.frame k is.model.starts) (sym is.traded.inputs) is.starts;
          latches = is.latches;
          has_certificate = tt;
        }
