-- Where the answer to a mapping is a text it is that of a mapping, and where it names an output this has no cover.
use Rattle.std.proofs.Common.{◌≡◌, ◌≤◌, inl, inr, ℕ, nat_le, length, leb-true, Bool, true, false, List, [], Option, Some, None, Result, Ok, Err, is_some, refl, ap, sym, ◌∙◌, subst, if◌then◌else◌, arith}
use Rattle.lw_io.specs.declared.file.File.{File}
use Rattle.lw_io.specs.Files.{bytes_of}
use Rattle.lw_blif.specs.declared.parsed.Parsed.{Parsed}
use Rattle.lw_genlib.specs.Cells.{CellParts}
use Rattle.lw_map.specs.Options.{Options}
use Rattle.lw_map.proofs.Mappings.{mapped_is_mapping}
use Rattle.lw_top.specs.declared.refusal.Refusal.{Refusal}
use Rattle.lw_top.specs.declared.refusal.Refusal.TheVariants.{NoCover, Faulty}
use Rattle.lw_top.specs.declared.outcome.Outcome.{Outcome}
use Rattle.lw_top.specs.declared.outcome.Outcome.TheVariants.{Done, WriteFault, Refused}
use Rattle.lw_files.specs.declared.fault.FileFault.{FileFault}
use Rattle.lw_files.specs.declared.fault.FileFault.TheVariants.{TooLong}
use Rattle.lw_files.specs.Steps.{Files}
use Rattle.lw_files.specs.Sources.{within_limit, text_of, lines_in}
use Rattle.lw_mapped.specs.declared.certificate.Certificate.{Certificate}
use Rattle.lw_top.specs.Maps.{IsAskedFor, Maps}
use Rattle.lw_top.specs.Words.{Command, mapping, trading, command_of}
use Rattle.lw_words.specs.Limits.{most_bytes}
use Rattle.lw_blif.specs.BlifNetworks.{ComesTo, IsModelOf}
use Rattle.lw_blif.specs.LineFaults.{FaultAt, first_fault, lines_read}
use Rattle.lw_top.specs.Answers.{ReadsLibrary, ReadsModel, asked_for, IsCommandAnswer, IsAnswer}
use Rattle.lw_top.specs.Outcome.{IsDone, Meets, outcome_status}
use Rattle.lw_top.specs.Telling.{outcome_line, refusal_line}
use Rattle.lw_top.specs.Mappings.{AsksForMapping, AsksForTables, IsMappingText, LacksOutput, SaysLibrary, SaysModel}
use Rattle.lw_top.specs.Tabled.{AreTables}
use Rattle.lw_top.specs.Trades.{Trades}
use Rattle.lw_top.specs.Traded.{AsksForTrade, IsTrade, LacksTradedOutput}
use Rattle.lw_files.proofs.Steps.{IsLast, last_ok, last_err}
use Rattle.lw_top.proofs.InRange.{command_in_range}
use Rattle.lw_files.proofs.Kept.{cells_kept, model_kept}
use Rattle.lw_top.proofs.Sound.{asked_some}
use Rattle.lw_top.proofs.FaultStatuses.{fault_is_not_done, fault_names_no_output}
use Rattle.lw_top.proofs.Asked.{names_read}
use Rattle.lw_top.proofs.MapWords.{map_asked}
use Rattle.lw_top.proofs.MappedNames.{mapped_named}
use Rattle.lw_top.proofs.TradedNames.{traded_named}

-- no step before the mapping refuses for want of a cover
words-stand : (o : Option Command) (name : List ℕ) → ◌≡◌ {A = Result Command Refusal} (asked_for o) (Err (NoCover name)) → ⊥
words-stand None name e = cc
words-stand (Some c) name e = cc

cause : {A : Type 0} (e r : Refusal) → ◌≡◌ {A = Result A Refusal} (Err e) (Err r) → e ≡ r
cause e r same = cc

-- the command that was asked for, and what it comes to
abbrev pub IsAsked : List (List ℕ) → Files → Result (List ℕ) Refusal → Type 0
IsAsked words files a = (c : Command) × (command_of words ≡ Some c) × IsCommandAnswer c files a

pub asked-ok : (words : List (List ℕ)) (files : Files) (text : List ℕ) → IsAnswer words files (Ok text) → IsAsked words files (Ok text)
asked-ok words files text (inl (c, is, comes)) = (c, asked_some (command_of words) c is, comes)
asked-ok words files text (inr (e, refused, is)) = cc

asked-lacks : (words : List (List ℕ)) (files : Files) (name : List ℕ) → IsAnswer words files (Err (NoCover name)) → IsAsked words files (Err (NoCover name))
asked-lacks words files name (inl (c, is, comes)) = (c, asked_some (command_of words) c is, comes)
asked-lacks words files name (inr (e, refused, is)) = absurd (words-stand (command_of words) name (refused ∙ ap (λ c. Err c) (cause e (NoCover name) is)))

-- a file that is there, of at most so many bytes
read-bytes : (name : List ℕ) (files : Files) (bytes : List ℕ) → text_of name files ≡ Ok bytes → (files name ≡ Some bytes) × (length bytes ≤ most_bytes)
unfolding text_of
read-bytes name files bytes e = by_file (files name) e
  where
    by_file : (o : Option (List ℕ)) → within_limit o ≡ Ok bytes → (o ≡ Some bytes) × (length bytes ≤ most_bytes)
    by_file None e = cc
    by_file (Some text) e = by_length (nat_le (length text) most_bytes) refl e
      where
        by_length : (t : Bool) → nat_le (length text) most_bytes ≡ t → ◌≡◌ {A = Result (List ℕ) FileFault} (if t then Ok text else Err TooLong) (Ok bytes) → (Some text ≡ Some bytes) × (length bytes ≤ most_bytes)
        by_length true le e =
            let same : text ≡ bytes = cc in
            (ap Some same, subst (λ (b : List ℕ). length b ≤ most_bytes) same (leb-true (length text) most_bytes le))
        by_length false le e = cc

-- what is read is what the texts say
pub says-library : (name : List ℕ) (files : Files) (cells : List CellParts) → ReadsLibrary name files (Ok cells) → SaysLibrary name files cells
says-library name files cells (inl (bytes, there, says)) = let (at, few) = read-bytes name files bytes there in (bytes, at, few, says)
says-library name files cells (inr (e, refused, is)) = cc

pub says-model : (name : List ℕ) (files : Files) (model : Parsed) → ReadsModel name files (Ok model) → SaysModel name files model
says-model name files model (inl (bytes, there, says)) = let (at, few) = read-bytes name files bytes there in (bytes, at, few, by_fault (first_fault [] (lines_read (lines_in bytes))) says)
  where
    by_fault : (f : Option FaultAt) → ComesTo f (lines_read (lines_in bytes)) (Ok model) → IsModelOf (lines_read (lines_in bytes)) model
    by_fault None is = is
    by_fault (Some f) is = absurd is
says-model name files model (inr (e, refused, is)) = cc

module _ (words : List (List ℕ)) (files : Files) (asks : AsksForMapping words) where
  abbrev pub options : Options
  options = asks.options

  abbrev pub certified : Bool
  certified = asks.certified

  abbrev pub library : List ℕ
  library = asks.library

  abbrev pub network : List ℕ
  network = asks.network

  pub form : command_of words ≡ Some (mapping options certified library network)
  form = map_asked words (mapping options certified library network) asks.form

  -- the library and the network were read
  abbrev pub IsMapped : Result (List ℕ) Refusal → Type 0
  IsMapped a = IsLast (ReadsLibrary library) (ReadsModel network) (λ (cells : List CellParts) (model : Parsed). Maps options certified cells model) files a

  unfoldable pub mapping-text : (text : List ℕ) → IsMapped (Ok text) → IsMappingText words files text
  mapping-text text m =
      let wide = command_in_range words (mapping options certified library network) form in
      let kept = model_kept network files m.b m.two in
      let lib = cells_kept library files m.a m.one in
      let names = names_read network files m.b m.two in
      record {
        asks = asks;
        cells = m.a;
        model = m.b;
        netlist = m.comes.netlist;
        certificate = m.comes.certificate;
        library = says-library library files m.a m.one;
        network = says-model network files m.b m.two;
        written = m.comes.written;
        asked = told_where_asked certified m.comes.certificate m.comes.asked;
        model_name = m.comes.is_mapped.model_name;
        frame = kept.fits.frame;
        starts = kept.fits.starts;
        mapping_is = mapped_is_mapping options m.a m.b.network m.b.starts wide kept.network kept.fits.starts.early lib m.comes.within.forms m.comes.netlist m.comes.is_mapped;
        named = mapped_named options m.a m.b wide kept lib m.comes.netlist m.comes.is_mapped names;
        latches = names.latches;
      }
    where
      told_where_asked : (b : Bool) (certificate : Option Certificate) → IsAskedFor options m.a m.b.network m.b.starts m.comes.netlist m.comes.is_mapped b certificate → is_some certificate ≡ b
      told_where_asked false None asked = refl
      told_where_asked true (Some certificate) asked = refl
      told_where_asked true None asked = absurd asked
      told_where_asked false (Some certificate) asked = absurd asked

  lacks-output : (name : List ℕ) → IsMapped (Err (NoCover name)) → LacksOutput words files name
  lacks-output name m = record { asks = asks; cells = m.a; model = m.b; library = says-library library files m.a m.one; network = says-model network files m.b m.two; lacks = m.comes }

  -- the command that was asked for is this one
  own-command : (c : Command) → command_of words ≡ Some c → c ≡ mapping options certified library network
  own-command c is = let both : Some c ≡ Some (mapping options certified library network) = sym is ∙ form in cc

  -- an answer that is a text is that of a mapping
  pub answer-comes : (text : List ℕ) → IsAnswer words files (Ok text) → IsMapped (Ok text)
  answer-comes text answer =
      let (c, is, comes) = asked-ok words files text answer in
      last_ok (ReadsLibrary library) (ReadsModel network) (λ (cells : List CellParts) (model : Parsed). Maps options certified cells model) files text (subst (λ (d : Command). IsCommandAnswer d files (Ok text)) (own-command c is) comes)

  pub answer-mapped : (text : List ℕ) → IsAnswer words files (Ok text) → IsMappingText words files text
  answer-mapped text answer = mapping-text text (answer-comes text answer)

  -- an answer that names an output is of one without a cover
  pub answer-lacks : (name : List ℕ) → IsAnswer words files (Err (NoCover name)) → LacksOutput words files name
  answer-lacks name answer =
      let (c, is, comes) = asked-lacks words files name answer in
      lacks-output name (last_err (ReadsLibrary library) (ReadsModel network) (λ (cells : List CellParts) (model : Parsed). Maps options certified cells model) files (NoCover name) (λ no. no) (λ no. no) (subst (λ (d : Command). IsCommandAnswer d files (Err (NoCover name))) (own-command c is) comes))

module _ (words : List (List ℕ)) (files : Files) (asks : AsksForTrade words) where
  abbrev own-trade : Command
  own-trade = trading asks.deadline asks.options asks.library asks.network

  trade-command : (c : Command) → command_of words ≡ Some c → c ≡ own-trade
  trade-command c is = let form = asks.form in let both : Some c ≡ Some own-trade = sym is ∙ form in cc

  -- an answer that is a text is that of a netlist of least area
  pub answer-traded : (text : List ℕ) → IsAnswer words files (Ok text) → IsTrade words files text
  answer-traded text answer =
      let (c, is, comes) = asked-ok words files text answer in
      let m = last_ok (ReadsLibrary asks.library) (ReadsModel asks.network) (λ (cells : List CellParts) (model : Parsed). Trades asks.deadline asks.options cells model) files text (subst (λ (d : Command). IsCommandAnswer d files (Ok text)) (trade-command c is) comes) in
      let kept = model_kept asks.network files m.b m.two in
      let names = names_read asks.network files m.b m.two in
      record {
        asks = asks;
        cells = m.a;
        model = m.b;
        netlist = m.comes.netlist;
        library = m.one;
        network = m.two;
        written = m.comes.written;
        frame = kept.fits.frame;
        starts = kept.fits.starts;
        traded = m.comes.traded;
        named = traded_named asks.options m.a m.b asks.deadline m.comes.netlist m.comes.traded kept names;
        latches = names.latches;
      }

  -- an answer that names an output is of one without a cover
  pub answer-untraded : (name : List ℕ) → IsAnswer words files (Err (NoCover name)) → LacksTradedOutput words files name
  answer-untraded name answer =
      let (c, is, comes) = asked-lacks words files name answer in
      let m = last_err (ReadsLibrary asks.library) (ReadsModel asks.network) (λ (cells : List CellParts) (model : Parsed). Trades asks.deadline asks.options cells model) files (NoCover name) (λ no. no) (λ no. no) (subst (λ (d : Command). IsCommandAnswer d files (Err (NoCover name))) (trade-command c is) comes) in
      record { asks = asks; cells = m.a; model = m.b; library = m.one; network = m.two; lacks = m.comes }

module _ {O : Type 0} (words : List (List ℕ)) (told : Option (List File)) (before now : ℕ) (taken : O → Option (List ℕ)) (is_finished : O → Bool) (faults : O → ℕ) (old new : O) (said : List ℕ → Type 0) where
  abbrev pub Met : Outcome → Type 0
  Met o = Meets told before now taken is_finished faults old new (IsAnswer words) o

  -- a run that is done wrote the text of a mapping
  pub done-maps : AsksForMapping words → (o : Outcome) → Met o → (files : List File) → told ≡ Some files → 0 ≡ outcome_status o → (text : List ℕ) × IsMappingText words (bytes_of files) text × IsDone taken is_finished old new text
  done-maps asks Done m files is e = (m.0, answer-mapped words (bytes_of files) asks m.0 (m.1 files is), m.2)
  done-maps asks WriteFault m files is e = absurd (omega (arith, e))
  done-maps asks (Refused (NoCover name)) m files is e = absurd (omega (arith, e))
  done-maps asks (Refused (Faulty w fault)) m files is e = absurd (fault_is_not_done fault e)
  done-maps asks (Refused other) m files is e = absurd (omega (arith, e))

  -- a run that is done wrote a text of tables
  pub done-tables : AsksForTables words → ((files : Files) (text : List ℕ) → AsksForTables words → IsAnswer words files (Ok text) → AreTables words files text) → (o : Outcome) → Met o → (files : List File) → told ≡ Some files → 0 ≡ outcome_status o → (text : List ℕ) × AreTables words (bytes_of files) text × IsDone taken is_finished old new text
  done-tables asks law Done m files is e = (m.0, law (bytes_of files) m.0 asks (m.1 files is), m.2)
  done-tables asks law WriteFault m files is e = absurd (omega (arith, e))
  done-tables asks law (Refused (NoCover name)) m files is e = absurd (omega (arith, e))
  done-tables asks law (Refused (Faulty w fault)) m files is e = absurd (fault_is_not_done fault e)
  done-tables asks law (Refused other) m files is e = absurd (omega (arith, e))

  -- a run that finds no cover names an output without one
  pub named-lacks : AsksForMapping words → (o : Outcome) → Met o → said (outcome_line (command_of words) o) → (files : List File) → told ≡ Some files → 6 ≡ outcome_status o → (name : List ℕ) × LacksOutput words (bytes_of files) name × said (refusal_line (command_of words) (NoCover name))
  named-lacks asks Done m line files is e = absurd (omega (arith, e))
  named-lacks asks WriteFault m line files is e = absurd (omega (arith, e))
  named-lacks asks (Refused (NoCover name)) m line files is e = (name, answer-lacks words (bytes_of files) asks name (m.0 files is), line)
  named-lacks asks (Refused (Faulty w fault)) m line files is e = absurd (fault_names_no_output fault e)
  named-lacks asks (Refused other) m line files is e = absurd (omega (arith, e))

  -- a run that is done wrote the text of a netlist of least area
  pub done-trades : AsksForTrade words → (o : Outcome) → Met o → (files : List File) → told ≡ Some files → 0 ≡ outcome_status o → (text : List ℕ) × IsTrade words (bytes_of files) text × IsDone taken is_finished old new text
  done-trades asks Done m files is e = (m.0, answer-traded words (bytes_of files) asks m.0 (m.1 files is), m.2)
  done-trades asks WriteFault m files is e = absurd (omega (arith, e))
  done-trades asks (Refused (NoCover name)) m files is e = absurd (omega (arith, e))
  done-trades asks (Refused (Faulty w fault)) m files is e = absurd (fault_is_not_done fault e)
  done-trades asks (Refused other) m files is e = absurd (omega (arith, e))

  pub named-untraded : AsksForTrade words → (o : Outcome) → Met o → said (outcome_line (command_of words) o) → (files : List File) → told ≡ Some files → 6 ≡ outcome_status o → (name : List ℕ) × LacksTradedOutput words (bytes_of files) name × said (refusal_line (command_of words) (NoCover name))
  named-untraded asks Done m line files is e = absurd (omega (arith, e))
  named-untraded asks WriteFault m line files is e = absurd (omega (arith, e))
  named-untraded asks (Refused (NoCover name)) m line files is e = (name, answer-untraded words (bytes_of files) asks name (m.0 files is), line)
  named-untraded asks (Refused (Faulty w fault)) m line files is e = absurd (fault_names_no_output fault e)
  named-untraded asks (Refused other) m line files is e = absurd (omega (arith, e))
