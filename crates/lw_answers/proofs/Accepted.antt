-- What was written of a mapping with its certificate is accepted by a check over the same library and network.
use Rattle.std.proofs.Common.{ℕ, ◌≤◌, ◌≡◌, inl, inr, true, cond, List, length, Option, Some, None, Ok, Err, refl, ap, ◌∙◌, subst, arith}
use Rattle.std.specs.Prelude.{nat_le}
use Rattle.std.proofs.lemmas.Bool.Decides.{nat_tests}
use Rattle.lw_blif.specs.declared.parsed.Parsed.{Parsed}
use Rattle.lw_genlib.specs.Cells.{CellParts, IsLibrary}
use Rattle.lw_mapped.specs.declared.certificate.Certificate.{Certificate}
use Rattle.lw_mapped.specs.Readable.{read_of}
use Rattle.lw_mapped.specs.Texts.{mapped_text}
use Rattle.lw_mapped.proofs.ReadBack.{reads-back}
use Rattle.lw_map.specs.Options.{Options, IsWide}
use Rattle.lw_files.specs.declared.fault.FileFault.TheVariants.{TooLong}
use Rattle.lw_files.specs.Steps.{Files}
use Rattle.lw_top.specs.Words.{mapping, checking}
use Rattle.lw_top.specs.Maps.{IsAskedFor, IsMappedText, Maps}
use Rattle.lw_top.specs.Checks.{yes_text}
use Rattle.lw_files.specs.Sources.{within_limit, text_of}
use Rattle.lw_top.specs.Answers.{ReadsLibrary, ReadsModel, asked_for, IsCheckAnswer, IsAnswer}
use Rattle.lw_answers.specs.Checked.{AreApart, IsCheckOf}
use Rattle.lw_top.proofs.InRange.{command_in_range}
use Rattle.lw_files.proofs.SignalNames.{IsNamed}
use Rattle.lw_top.proofs.Asked.{asked_text, names_read}
use Rattle.lw_files.proofs.Kept.{AreKept, cells_kept, model_kept}
use Rattle.lw_files.proofs.Steps.{last_ok}
use Rattle.lw_mapped.specs.Alike.{AreSameMapped}
use Rattle.lw_answers.proofs.MappedChecks.{readable, accepted_text}

-- Reading once more.

pub library_again : (name other : List ℕ) (files others : Files) (cells : List CellParts) → others other ≡ files name → ReadsLibrary name files (Ok cells) → ReadsLibrary other others (Ok cells)
unfolding text_of
library_again name other files others cells same (inl (bytes, text, has)) = inl (bytes, ap within_limit same ∙ text, has)
library_again name other files others cells same (inr (e, refused, is)) = cc

pub network_again : (name other : List ℕ) (files others : Files) (model : Parsed) → others other ≡ files name → ReadsModel name files (Ok model) → ReadsModel other others (Ok model)
unfolding text_of
network_again name other files others model same (inl (bytes, text, has)) = inl (bytes, ap within_limit same ∙ text, has)
network_again name other files others model same (inr (e, refused, is)) = cc

pub text_there : (name text : List ℕ) (files : Files) → files name ≡ Some text → length text ≤ 67108864 → text_of name files ≡ Ok text
unfolding text_of
text_there name text files there few =
    let short : nat_le (length text) 67108864 ≡ true = grind (arith, nat_tests) in
    ap within_limit there ∙ ap (λ b. cond b (Ok text) (Err TooLong)) short

module _ (options : Options) (cells : List CellParts) (model : Parsed) (wide : IsWide options) (kept : AreKept model) (named : IsNamed model) (lib : IsLibrary cells) (apart : AreApart cells) (text : List ℕ) (is : IsMappedText options true cells model text) where
  check_accepts : (library network mapped : List ℕ) (files : Files) → ReadsLibrary library files (Ok cells) → ReadsModel network files (Ok model) → files mapped ≡ Some text → length text ≤ 67108864 → IsCheckAnswer options library network mapped files (Ok yes_text)
  check_accepts library network mapped files reads_library reads_model there few = by_certificate is.certificate is.asked is.written
    where
      by_certificate : (o : Option Certificate) → IsAskedFor options cells model.network model.starts is.netlist is.is_mapped true o → text ≡ mapped_text cells is.netlist model.frame model.starts o → IsCheckAnswer options library network mapped files (Ok yes_text)
      by_certificate None asked written = absurd asked
      by_certificate (Some certificate) asked written =
          let own = mapped_text cells is.netlist model.frame model.starts (Some certificate) in
          let whole = read_of is.netlist model.frame model.starts (Some certificate) in
          let same : AreSameMapped whole whole = record { netlist = refl; frame = refl; starts = refl; certificates = record { labels = λ class. refl; nets = refl } } in
          let can_be_read = readable options cells model wide kept lib is.within is.netlist is.is_mapped named certificate asked apart in
          let read = reads-back cells is.netlist model.frame model.starts (Some certificate) can_be_read whole same in
          let text_read = text_there mapped own files (there ∙ ap Some written) (subst (λ t. length t ≤ 67108864) written few) in
          let yes = accepted_text options cells model wide kept lib is.within is.netlist is.is_mapped named certificate asked in
          inl (cells, reads_library, inl (model, reads_model, inl (whole, inl (own, text_read, read), (refl, yes))))

-- What was written is accepted.
pub written_accepted : (words checks : List (List ℕ)) (files others : Files) (text : List ℕ) → IsCheckOf words files text checks others → IsAnswer words files (Ok text) → IsAnswer checks others (Ok yes_text)
written_accepted words checks files others text c answer =
    let asked = mapping c.options true c.library c.network in
    let last = λ (cells : List CellParts) (model : Parsed). Maps c.options true cells model in
    let m = last_ok (ReadsLibrary c.library) (ReadsModel c.network) last files text (asked_text words files asked text c.mapping_form answer) in
    let wide = command_in_range words asked c.mapping_form in
    let kept = model_kept c.network files m.b m.two in
    let named = names_read c.network files m.b m.two in
    let lib = cells_kept c.library files m.a m.one in
    let library = library_again c.library c.other_library files others m.a c.same_library m.one in
    let model = network_again c.network c.other_network files others m.b c.same_network m.two in
    let accepts = check_accepts c.options m.a m.b wide kept named lib (c.apart m.a m.one) text m.comes c.other_library c.other_network c.mapped others library model c.written c.few in
    inl (checking c.options c.other_library c.other_network c.mapped, ap asked_for c.checking_form, accepts)
