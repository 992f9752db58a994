-- Words over known files come to one answer.
use Rattle.std.proofs.Common.{◌≡◌, inl, inr, ℕ, Bool, List, Option, Some, None, Result, Ok, Err, refl, ap, ap₂, sym, subst, ◌∙◌}
use Rattle.lw_fixed.specs.declared.micro.Micro.{Micro}
use Rattle.lw_genlib.specs.declared.fault.LibFault.TheVariants as lib_fault
use Rattle.lw_genlib.specs.declared.fault.LibFault.{LibFault}
use Rattle.lw_genlib.specs.Cells.{CellParts, IsLibrary}
use Rattle.lw_words.specs.Lines.{LogicalLine}
use Rattle.lw_net.specs.Networks.{IsNetwork}
use Rattle.lw_blif.specs.declared.parsed.Parsed.{Parsed}
use Rattle.lw_netlist.specs.Netlists.{NetlistParts, IsNetlist}
use Rattle.lw_named_netlist.specs.declared.fault.NetlistFault.TheVariants as whole
use Rattle.lw_mapped.specs.declared.closing.Mapped.{Mapped as MappedParts}
use Rattle.lw_mapped.specs.declared.fault.MappedFault.{MappedFault}
use Rattle.lw_mapped.specs.declared.fault.MappedFault.TheVariants as fault
use Rattle.lw_mapped.specs.Alike.{AreSameMapped, AreSameOutcomes}
use Rattle.lw_mapped.specs.LineFaults.{text_fault, lines_read, lines_say}
use Rattle.lw_mapped.specs.Unmapped.{IsUnmapped}
use Rattle.lw_mapped.proofs.Once.{comes-once}
use Rattle.lw_report.proofs.Once.{report_once, network_simulation_once, netlist_simulation_once}
use Rattle.lw_report.specs.Timings.{IsTimingText}
use Rattle.lw_map.specs.Options.{Options, IsWide}
use Rattle.lw_files.specs.declared.fault.FileFault.{FileFault}
use Rattle.lw_files.specs.declared.fault.FileFault.TheVariants.{Library, Mapped, Twice, Undriven, NetCycle}
use Rattle.lw_files.specs.Sources as file
use Rattle.lw_top.specs.declared.refusal.Refusal.{Refusal}
use Rattle.lw_top.specs.declared.refusal.Refusal.TheVariants.{Faulty, Vector}
use Rattle.lw_top.specs.declared.refusal.Which.{Which}
use Rattle.lw_top.specs.declared.refusal.Which.TheVariants as which
use Rattle.lw_files.specs.Steps.{Files, StepTo, gives, followed_by}
use Rattle.lw_top.specs.Steps.{Step}
use Rattle.lw_top.specs.Maps.{Maps}
use Rattle.lw_top.specs.Checks.{Checks}
use Rattle.lw_top.specs.Reports.{Times, Simulates, SimulatesNetlist}
use Rattle.lw_top.specs.Counts.{Counts, Draws}
use Rattle.lw_top.specs.Tables.{Tabulates}
use Rattle.lw_top.specs.Trades.{Trades}
use Rattle.lw_top.specs.Traded.{AsksForTrade}
use Rattle.lw_top.specs.Words.{Command, mapping, checking, timing, simulation, gate_simulation, counting, tabling, drawing, to_verilog, from_verilog, trading, command_of, IsInRange, IsCount}
use Rattle.lw_files.specs.Sources.{FileStep, text_of, marked_lines_in, HasCells, HasModel, HasMapped}
use Rattle.lw_top.specs.Answers.{in_file, text_in, HasVerilog, HasVectors, ReadsLibrary, ReadsModel, ReadsMapped, ReadsVerilog, ReadsVectors, IsMappingAnswer, IsCheckAnswer, IsTimingAnswer, IsSimulationAnswer, IsGateSimulationAnswer, IsCountAnswer, IsTablingAnswer, IsDrawingAnswer, IsToVerilogAnswer, IsFromVerilogAnswer, IsTradingAnswer, IsCommandAnswer, asked_for, IsAnswer, AreAlike}
use Rattle.lw_top.specs.Mappings.{AsksForTables}
use Rattle.lw_answers.proofs.Closed.{has_one_model}
use Rattle.lw_top.proofs.InRange.{command_in_range}
use Rattle.lw_files.proofs.Kept.{cells_kept, AreKept, model_kept, IsReadBy, mapped_kept}
use Rattle.lw_top.proofs.Sound.{asked_some, claim_kept}
use Rattle.lw_top.proofs.MapAnswers.{maps_one}
use Rattle.lw_answers.proofs.CheckOne.{checks_one, counts_one, tables_alike}
use Rattle.lw_answers.proofs.DrawOne.{draws_one}
use Rattle.lw_top.proofs.TradeAnswers.{trades_alike}
use Rattle.lw_top.specs.Verilogs.{SaysVerilog, SaysMapped}
use Rattle.lw_answers.proofs.VerilogOne.{verilog_one, says_one, mapped_said_one}

abbrev Any : {A : Type 0} → A → Type 0
Any x = Unit {0}

-- the step comes to one thing
abbrev pub IsOne : {E A : Type 0} → StepTo E A → Type 0
IsOne {E} {A} step = (files : Files) (a b : Result A E) → step files a → step files b → a ≡ b

gives_one : {E A : Type 0} (f : Files → Result A E) → IsOne (gives f)
gives_one f = λ files a b p q. sym p ∙ q

-- what the step comes to is related
abbrev IsBy : {E A : Type 0} → (Result A E → Result A E → Type 0) → StepTo E A → Type 0
IsBy {E} {A} R step = (files : Files) (a b : Result A E) → step files a → step files b → R a b

-- where the first step hands on what a fact holds of
followed_so : {E A B : Type 0} (R : Result B E → Result B E → Type 0) (P : A → Type 0) (first : StepTo E A) (next : A → StepTo E B) → ((e : E) → R (Err e) (Err e)) → IsOne first → ((files : Files) (x : A) → first files (Ok x) → P x) → ((x : A) → P x → IsBy R (next x)) → IsBy R (followed_by first next)
followed_so {E = E} {A = A} {B = B} R P first next same_refusal one holds each = λ files a b p q. both files a b p q
  where
    both : (files : Files) (a b : Result B E) → followed_by first next files a → followed_by first next files b → R a b
    both files a b (inl (x, f, n)) (inl (y, g, m)) =
        let is : ◌≡◌ {A = Result A E} (Ok x) (Ok y) = one files (Ok x) (Ok y) f g in
        let same : x ≡ y = cc in
        each y (holds files y g) files a b (subst (λ z. next z files a) same n) m
    both files a b (inl (x, f, n)) (inr (e, g, r)) =
        let is : ◌≡◌ {A = Result A E} (Ok x) (Err e) = one files (Ok x) (Err e) f g in
        cc
    both files a b (inr (e, f, r)) (inl (y, g, m)) =
        let is : ◌≡◌ {A = Result A E} (Err e) (Ok y) = one files (Err e) (Ok y) f g in
        cc
    both files a b (inr (e, f, r)) (inr (h, g, s)) =
        let is : ◌≡◌ {A = Result A E} (Err e) (Err h) = one files (Err e) (Err h) f g in
        let same : e ≡ h = cc in
        let left : a ≡ Err h = cc in
        let right : b ≡ Err h = cc in
        subst (λ z. R z b) (sym left) (subst (λ z. R (Err h) z) (sym right) (same_refusal h))

followed_one : {E A B : Type 0} (P : A → Type 0) (first : StepTo E A) (next : A → StepTo E B) → IsOne first → ((files : Files) (x : A) → first files (Ok x) → P x) → ((x : A) → P x → IsOne (next x)) → IsOne (followed_by first next)
followed_one P first next one holds each = followed_so (λ a b. a ≡ b) P first next (λ e. refl) one holds each

-- the step comes to things that are alike
abbrev IsAlike : {E A : Type 0} → (A → A → Type 0) → StepTo E A → Type 0
IsAlike {E} {A} Alike step = (files : Files) (a b : Result A E) → step files a → step files b → AreAlike Alike a b

-- Where the first step hands on one of several values that are alike, and what comes next is the same for each.
followed_alike : {E A B : Type 0} (Alike : A → A → Type 0) (P : A → Type 0) (first : StepTo E A) (next : A → StepTo E B) → IsAlike Alike first → ((files : Files) (x : A) → first files (Ok x) → P x) → ((x y : A) → Alike x y → P x → P y → (files : Files) (a b : Result B E) → next x files a → next y files b → a ≡ b) → IsOne (followed_by first next)
followed_alike {E = E} {A = A} {B = B} Alike P first next alike holds each = λ files a b p q. both files a b p q
  where
    both : (files : Files) (a b : Result B E) → followed_by first next files a → followed_by first next files b → a ≡ b
    both files a b (inl (x, f, n)) (inl (y, g, m)) = each x y (alike files (Ok x) (Ok y) f g) (holds files x f) (holds files y g) files a b n m
    both files a b (inl (x, f, n)) (inr (e, g, r)) = absurd (alike files (Ok x) (Err e) f g)
    both files a b (inr (e, f, r)) (inl (y, g, m)) = absurd (alike files (Err e) (Ok y) f g)
    both files a b (inr (e, f, r)) (inr (h, g, s)) = let same : e ≡ h = alike files (Err e) (Err h) f g in cc

-- a file's text, and then things that are alike
text_alike : {E A : Type 0} (Alike : A → A → Type 0) (f : Files → Result (List ℕ) E) (next : List ℕ → StepTo E A) → ((bytes : List ℕ) → IsAlike Alike (next bytes)) → IsAlike Alike (followed_by (gives f) next)
text_alike {E = E} {A = A} Alike f next each = λ files a b p q. both files a b p q
  where
    both : (files : Files) (a b : Result A E) → followed_by (gives f) next files a → followed_by (gives f) next files b → AreAlike Alike a b
    both files a b (inl (x, e, n)) (inl (y, g, m)) =
        let is : ◌≡◌ {A = Result (List ℕ) E} (Ok x) (Ok y) = sym e ∙ g in
        let same : x ≡ y = cc in
        each y files a b (subst (λ z. next z files a) same n) m
    both files a b (inl (x, e, n)) (inr (h, g, r)) = let is : ◌≡◌ {A = Result (List ℕ) E} (Ok x) (Err h) = sym e ∙ g in cc
    both files a b (inr (h, e, r)) (inl (y, g, m)) = let is : ◌≡◌ {A = Result (List ℕ) E} (Err h) (Ok y) = sym e ∙ g in cc
    both files a b (inr (h, e, r)) (inr (k, g, s)) =
        let is : ◌≡◌ {A = Result (List ℕ) E} (Err h) (Err k) = sym e ∙ g in
        let same : h ≡ k = cc in
        subst (λ (x : Result A E). AreAlike Alike x b) r (subst (λ (y : Result A E). AreAlike Alike (Err h) y) s same)

-- A file that comes to one thing does so by its name.
module _ {A : Type 0} (w : Which) (step : FileStep A) where
  in_file_one : IsOne step → IsOne (in_file w step)
  in_file_one one = both
    where
      both : (files : Files) (a b : Result A Refusal) → in_file w step files a → in_file w step files b → a ≡ b
      both files (Ok x) (Ok y) p q = let is : ◌≡◌ {A = Result A FileFault} (Ok x) (Ok y) = one files (Ok x) (Ok y) p q in cc
      both files (Ok x) (Err (Faulty v f)) p q = let is : ◌≡◌ {A = Result A FileFault} (Ok x) (Err f) = one files (Ok x) (Err f) p q.1 in cc
      both files (Ok x) (Err other) p q = absurd q
      both files (Err (Faulty v f)) (Ok y) p q = let is : ◌≡◌ {A = Result A FileFault} (Err f) (Ok y) = one files (Err f) (Ok y) p.1 q in cc
      both files (Err (Faulty v f)) (Err (Faulty u h)) p q =
          let is : ◌≡◌ {A = Result A FileFault} (Err f) (Err h) = one files (Err f) (Err h) p.1 q.1 in
          let same : f ≡ h = cc in
          ap₂ (λ (x : Which) (y : FileFault). Err (Faulty x y)) (p.0 ∙ sym q.0) same
      both files (Err (Faulty v f)) (Err other) p q = absurd q
      both files (Err other) b p q = absurd p

  in_file_alike : (Alike : A → A → Type 0) → IsAlike Alike step → IsAlike Alike (in_file w step)
  in_file_alike Alike alike = both
    where
      both : (files : Files) (a b : Result A Refusal) → in_file w step files a → in_file w step files b → AreAlike Alike a b
      both files (Ok x) (Ok y) p q = alike files (Ok x) (Ok y) p q
      both files (Ok x) (Err (Faulty v f)) p q = absurd (alike files (Ok x) (Err f) p q.1)
      both files (Ok x) (Err other) p q = absurd q
      both files (Err (Faulty v f)) (Ok y) p q = absurd (alike files (Err f) (Ok y) p.1 q)
      both files (Err (Faulty v f)) (Err (Faulty u h)) p q = ap₂ (λ (x : Which) (y : FileFault). Faulty x y) (p.0 ∙ sym q.0) (alike files (Err f) (Err h) p.1 q.1)
      both files (Err (Faulty v f)) (Err other) p q = absurd q
      both files (Err other) b p q = absurd p

-- a file has one text
text_one : (w : Which) (name : List ℕ) → IsOne (text_in w name)
text_one w name = in_file_one w (gives (text_of name)) (gives_one (text_of name))

cells_one : (bytes : List ℕ) → IsOne (HasCells bytes)
cells_one bytes = both
  where
    both : (files : Files) (a b : Result (List CellParts) FileFault) → HasCells bytes files a → HasCells bytes files b → a ≡ b
    both files (Ok x) (Ok y) p q = (let is : ◌≡◌ {A = Result (List CellParts) LibFault} (Ok x) (Ok y) = sym p ∙ q in cc)
    both files (Ok x) (Err (Library line kind)) p q = let is : ◌≡◌ {A = Result (List CellParts) LibFault} (Ok x) (Err (lib_fault.Line line kind)) = sym p ∙ q in cc
    both files (Ok x) (Err other) p q = absurd q
    both files (Err (Library line kind)) (Ok y) p q = let is : ◌≡◌ {A = Result (List CellParts) LibFault} (Ok y) (Err (lib_fault.Line line kind)) = sym q ∙ p in cc
    both files (Err (Library line kind)) (Err (Library l k)) p q = let is : ◌≡◌ {A = Result (List CellParts) LibFault} (Err (lib_fault.Line line kind)) (Err (lib_fault.Line l k)) = sym p ∙ q in cc
    both files (Err (Library line kind)) (Err other) p q = absurd q
    both files (Err other) b p q = absurd p

pub library_one : (name : List ℕ) → IsOne (ReadsLibrary name)
library_one name =
    in_file_one which.Library (file.ReadsLibrary name) (followed_one Any (gives (text_of name)) HasCells (gives_one (text_of name)) (λ files x p. tt) (λ bytes any. cells_one bytes))

pub model_read_one : (name : List ℕ) → IsOne (ReadsModel name)
model_read_one name =
    in_file_one which.Network (file.ReadsModel name) (followed_one Any (gives (text_of name)) HasModel (gives_one (text_of name)) (λ files x p. tt)
    (λ bytes any files a b p q. has_one_model bytes files a b p q))

vectors_one : (inputs : ℕ) (bytes : List ℕ) → IsOne (HasVectors inputs bytes)
vectors_one inputs bytes = both
  where
    both : (files : Files) (a b : Result (List (List Bool)) Refusal) → HasVectors inputs bytes files a → HasVectors inputs bytes files b → a ≡ b
    both files (Ok x) (Ok y) p q = ap (λ v. Ok v) (p.1 ∙ sym q.1)
    both files (Ok x) (Err (Vector line)) p q = let is : ◌≡◌ {A = Option ℕ} None (Some line) = sym p.0 ∙ q in cc
    both files (Ok x) (Err other) p q = absurd q
    both files (Err (Vector line)) (Ok y) p q = let is : ◌≡◌ {A = Option ℕ} None (Some line) = sym q.0 ∙ p in cc
    both files (Err (Vector line)) (Err (Vector l)) p q = let is : ◌≡◌ {A = Option ℕ} (Some line) (Some l) = sym p ∙ q in cc
    both files (Err (Vector line)) (Err other) p q = absurd q
    both files (Err other) b p q = absurd p

vectors_read_one : (name : List ℕ) (inputs : ℕ) → IsOne (ReadsVectors name inputs)
vectors_read_one name inputs =
    followed_one Any (text_in which.Vectors name) (HasVectors inputs) (text_one which.Vectors name) (λ files x p. tt) (λ bytes any. vectors_one inputs bytes)

mapping_one : (options : Options) (certified : Bool) (library network : List ℕ) → IsWide options → IsOne (IsMappingAnswer options certified library network)
mapping_one options certified library network wide =
    followed_one IsLibrary (ReadsLibrary library) (λ cells. followed_by (ReadsModel network) (λ model. Maps options certified cells model))
    (library_one library) (cells_kept library)
    (λ cells lib. followed_one AreKept (ReadsModel network) (λ model. Maps options certified cells model) (model_read_one network) (model_kept network)
    (λ model kept files a b p q. maps_one options cells model wide kept.network kept.fits.starts.early lib certified files a b p q))

-- Mapped texts.

-- lines come to one thing, or to one up to places past the end of a certificate
mapped_meaning : (cells : List CellParts) (lines : List LogicalLine) (a b : Result MappedParts MappedFault) → IsUnmapped cells lines a → IsUnmapped cells lines b → (a ≡ Err fault.Memory → ⊥) → (b ≡ Err fault.Memory → ⊥) → AreSameOutcomes a b
mapped_meaning cells lines a b p q = comes-once (text_fault cells lines) (lines_say cells (lines_read lines)) a b p q

-- the fault that a refusal of a mapped text tells
told_by : MappedFault → Option FileFault
told_by (fault.Line line kind) = Some (Mapped line kind)
told_by (fault.Whole (whole.Twice name)) = Some (Twice name)
told_by (fault.Whole (whole.Undriven name)) = Some (Undriven name)
told_by (fault.Whole (whole.Cycle name)) = Some (NetCycle name)
told_by (fault.Whole whole.Memory) = None
told_by fault.Memory = None

record IsToldBy (cells : List CellParts) (bytes : List ℕ) (r : FileFault) : Type 0 where
  fault_is : MappedFault
  read : IsUnmapped cells (marked_lines_in bytes) (Err fault_is)
  not_memory : ◌≡◌ {A = Result MappedParts MappedFault} (Err fault_is) (Err fault.Memory) → ⊥
  told : told_by fault_is ≡ Some r

fault_told : (cells : List CellParts) (bytes : List ℕ) (files : Files) (r : FileFault) → HasMapped cells bytes files (Err r) → IsToldBy cells bytes r
unfolding told_by
fault_told cells bytes files (Mapped line kind) is = record { fault_is = fault.Line line kind; read = is; not_memory = λ e. cc; told = refl }
fault_told cells bytes files (Twice name) is = record { fault_is = fault.Whole (whole.Twice name); read = is; not_memory = λ e. cc; told = refl }
fault_told cells bytes files (Undriven name) is = record { fault_is = fault.Whole (whole.Undriven name); read = is; not_memory = λ e. cc; told = refl }
fault_told cells bytes files (NetCycle name) is = record { fault_is = fault.Whole (whole.Cycle name); read = is; not_memory = λ e. cc; told = refl }
fault_told cells bytes files other is = absurd is

ok_stands : (m : MappedParts) → ◌≡◌ {A = Result MappedParts MappedFault} (Ok m) (Err fault.Memory) → ⊥
ok_stands m e = cc

module _ (cells : List CellParts) (bytes : List ℕ) where
  mapped_alike : IsAlike AreSameMapped (HasMapped cells bytes)
  mapped_alike files (Ok x) (Ok y) p q = mapped_meaning cells (marked_lines_in bytes) (Ok x) (Ok y) p q (ok_stands x) (ok_stands y)
  mapped_alike files (Ok x) (Err r) p q =
      let t = fault_told cells bytes files r q in
      absurd (mapped_meaning cells (marked_lines_in bytes) (Ok x) (Err t.fault_is) p t.read (ok_stands x) t.not_memory)
  mapped_alike files (Err r) (Ok y) p q =
      let t = fault_told cells bytes files r p in
      absurd (mapped_meaning cells (marked_lines_in bytes) (Err t.fault_is) (Ok y) t.read q t.not_memory (ok_stands y))
  mapped_alike files (Err r) (Err s) p q =
      let t = fault_told cells bytes files r p in
      let u = fault_told cells bytes files s q in
      let same : t.fault_is ≡ u.fault_is = mapped_meaning cells (marked_lines_in bytes) (Err t.fault_is) (Err u.fault_is) t.read u.read t.not_memory u.not_memory in
      let both : Some r ≡ Some s = sym t.told ∙ (ap told_by same ∙ u.told) in
      cc

mapped_read_alike : (name : List ℕ) (cells : List CellParts) → IsAlike AreSameMapped (ReadsMapped name cells)
mapped_read_alike name cells = in_file_alike which.Mapped (file.ReadsMapped name cells) AreSameMapped (text_alike AreSameMapped (text_of name) (HasMapped cells) (λ bytes. mapped_alike cells bytes))

-- Reports.

times_one : (cells : List CellParts) (x y : MappedParts) → AreSameMapped x y → IsNetlist x.netlist → (files : Files) (a b : Result (List ℕ) Refusal) → Times cells x files a → Times cells y files b → a ≡ b
times_one cells x y same kept files (Ok s) (Ok t) p q =
    let moved = subst (λ (n : NetlistParts). IsTimingText cells n x.starts t) (sym same.netlist) (subst (λ (ts : List Micro). IsTimingText cells y.netlist ts t) (sym same.starts) q) in
    ap (λ (z : List ℕ). Ok z) (report_once cells x.netlist x.starts s t kept p moved)
times_one cells x y same kept files (Ok s) (Err r) p q = absurd q
times_one cells x y same kept files (Err r) b p q = absurd p

simulates_one : (model : Parsed) (vectors : List (List Bool)) → IsNetwork model.network → IsOne (Simulates model vectors)
simulates_one model vectors kept files (Ok s) (Ok t) p q = ap (λ (z : List ℕ). Ok z) (network_simulation_once model.network vectors s t kept p q)
simulates_one model vectors kept files (Ok s) (Err r) p q = absurd q
simulates_one model vectors kept files (Err r) b p q = absurd p

gates_one : (cells : List CellParts) (n : NetlistParts) (vectors : List (List Bool)) → IsNetlist n → IsOne (SimulatesNetlist cells n vectors)
gates_one cells n vectors kept files (Ok s) (Ok t) p q = ap (λ (z : List ℕ). Ok z) (netlist_simulation_once cells n vectors s t kept p q)
gates_one cells n vectors kept files (Ok s) (Err r) p q = absurd q
gates_one cells n vectors kept files (Err r) b p q = absurd p

timing_one : (library mapped : List ℕ) → IsOne (IsTimingAnswer library mapped)
timing_one library mapped =
    followed_one IsLibrary (ReadsLibrary library) (λ cells. followed_by (ReadsMapped mapped cells) (λ m. Times cells m)) (library_one library) (cells_kept library)
    (λ cells lib. followed_alike AreSameMapped (λ m. IsNetlist m.netlist) (ReadsMapped mapped cells) (λ m. Times cells m) (mapped_read_alike mapped cells) (λ files m is. (mapped_kept mapped cells files m is).netlist)
    (λ x y same px py files a b p q. times_one cells x y same px files a b p q))

simulation_one : (network vectors : List ℕ) → IsOne (IsSimulationAnswer network vectors)
simulation_one network vectors =
    followed_one AreKept (ReadsModel network) (λ model. followed_by (ReadsVectors vectors model.network.inputs) (λ xs. Simulates model xs)) (model_read_one network) (model_kept network)
    (λ model kept. followed_one Any (ReadsVectors vectors model.network.inputs) (λ xs. Simulates model xs) (vectors_read_one vectors model.network.inputs) (λ files x p. tt)
    (λ xs any. simulates_one model xs kept.network))

-- a netlist simulated, whatever stands around it
abbrev Simulation : List CellParts → List ℕ → NetlistParts → Step (List ℕ)
Simulation cells vectors n = followed_by (ReadsVectors vectors n.inputs) (λ xs. SimulatesNetlist cells n xs)

simulation_of_one : (cells : List CellParts) (vectors : List ℕ) (n : NetlistParts) → IsNetlist n → IsOne (Simulation cells vectors n)
simulation_of_one cells vectors n kept =
    followed_one Any (ReadsVectors vectors n.inputs) (λ xs. SimulatesNetlist cells n xs) (vectors_read_one vectors n.inputs) (λ files x p. tt) (λ xs any. gates_one cells n xs kept)

gate_simulation_one : (library mapped vectors : List ℕ) → IsOne (IsGateSimulationAnswer library mapped vectors)
gate_simulation_one library mapped vectors =
    followed_one IsLibrary (ReadsLibrary library) (λ cells. followed_by (ReadsMapped mapped cells) (λ m. Simulation cells vectors m.netlist)) (library_one library) (cells_kept library)
    (λ cells lib. followed_alike AreSameMapped (λ m. IsNetlist m.netlist) (ReadsMapped mapped cells) (λ m. Simulation cells vectors m.netlist) (mapped_read_alike mapped cells) (λ files m is. (mapped_kept mapped cells files m is).netlist)
    (λ x y same px py files a b p q. simulation_of_one cells vectors x.netlist px files a b p (subst (λ (n : NetlistParts). Simulation cells vectors n files b) (sym same.netlist) q)))

-- Checks and counts.

check_one : (options : Options) (library network mapped : List ℕ) → IsWide options → IsOne (IsCheckAnswer options library network mapped)
check_one options library network mapped wide =
    followed_one IsLibrary (ReadsLibrary library) (λ cells. followed_by (ReadsModel network) (λ model. followed_by (ReadsMapped mapped cells) (λ m. Checks options cells model m))) (library_one library) (cells_kept library)
    (λ cells lib. followed_one AreKept (ReadsModel network) (λ model. followed_by (ReadsMapped mapped cells) (λ m. Checks options cells model m)) (model_read_one network) (model_kept network)
    (λ model kept. followed_alike AreSameMapped (IsReadBy cells) (ReadsMapped mapped cells) (λ m. Checks options cells model m) (mapped_read_alike mapped cells) (λ files m is. mapped_kept mapped cells files m is)
    (λ x y same px py files a b p q. checks_one options cells model wide x y same (λ g roots. claim_kept cells model g roots x kept px) files a b p q)))

count_one : (options : Options) (network : List ℕ) → IsWide options → IsOne (IsCountAnswer options network)
count_one options network wide =
    followed_one Any (ReadsModel network) (λ model. Counts options model) (model_read_one network) (λ files x p. tt) (λ model any files a b p q. counts_one options model wide files a b p q)

drawing_one : (seed count : ℕ) (library : List ℕ) → IsCount count → IsOne (IsDrawingAnswer seed count library)
drawing_one seed count library few =
    followed_one IsLibrary (ReadsLibrary library) (λ cells. Draws seed count cells) (library_one library) (cells_kept library)
    (λ cells lib files a b p q. draws_one seed count cells few lib files a b p q)

to_verilog_one : (library mapped : List ℕ) → IsOne (IsToVerilogAnswer library mapped)
to_verilog_one library mapped =
    followed_one IsLibrary (ReadsLibrary library) (λ cells. followed_by (ReadsMapped mapped cells) (λ m. SaysVerilog cells m)) (library_one library) (cells_kept library)
    (λ cells lib. followed_alike AreSameMapped Any (ReadsMapped mapped cells) (λ m. SaysVerilog cells m) (mapped_read_alike mapped cells) (λ files m is. tt)
    (λ x y same px py files a b p q. says_one cells x y same files a b p q))

verilog_read_one : (name : List ℕ) (cells : List CellParts) → IsOne (ReadsVerilog name cells)
verilog_read_one name cells =
    followed_one Any (text_in which.Mapped name) (HasVerilog cells) (text_one which.Mapped name) (λ files x p. tt) (λ bytes any. verilog_one cells bytes)

from_verilog_one : (library verilog : List ℕ) → IsOne (IsFromVerilogAnswer library verilog)
from_verilog_one library verilog =
    followed_one IsLibrary (ReadsLibrary library) (λ cells. followed_by (ReadsVerilog verilog cells) (λ n. SaysMapped cells n)) (library_one library) (cells_kept library)
    (λ cells lib. followed_one Any (ReadsVerilog verilog cells) (λ n. SaysMapped cells n) (verilog_read_one verilog cells) (λ files x p. tt) (λ n any. mapped_said_one cells n))

-- several texts of tables
tabling_alike : (leaves : ℕ) (options : Options) (network : List ℕ) → IsWide options → IsBy (AreAlike (λ s t. Unit {0})) (IsTablingAnswer leaves options network)
tabling_alike leaves options network wide =
    followed_so (AreAlike (λ s t. Unit {0})) Any (ReadsModel network) (λ model. Tabulates leaves options model) (λ e. refl) (model_read_one network) (λ files x p. tt)
    (λ model any files a b p q. tables_alike options model wide leaves files a b p q)

-- several texts of netlists of least area
trading_alike : (deadline : Option Micro) (options : Options) (library network : List ℕ) → IsWide options → IsBy (AreAlike (λ s t. Unit {0})) (IsTradingAnswer deadline options library network)
trading_alike deadline options library network wide =
    followed_so (AreAlike (λ s t. Unit {0})) Any (ReadsLibrary library) (λ cells. followed_by (ReadsModel network) (λ model. Trades deadline options cells model)) (λ e. refl) (library_one library) (λ files x p. tt)
    (λ cells any. followed_so (AreAlike (λ s t. Unit {0})) Any (ReadsModel network) (λ model. Trades deadline options cells model) (λ e. refl) (model_read_one network) (λ files x p. tt)
    (λ model some files a b p q. trades_alike options cells model deadline wide files a b p q))

abbrev IsTabling : Command → Type 0
IsTabling (tabling leaves options network) = Unit {0}
IsTabling other = ⊥

abbrev IsTrading : Command → Type 0
IsTrading (trading deadline options library network) = Unit {0}
IsTrading other = ⊥

command_one : (c : Command) → IsInRange c → (IsTabling c → ⊥) → (IsTrading c → ⊥) → IsOne (IsCommandAnswer c)
command_one (mapping options certified library network) wide other none = mapping_one options certified library network wide
command_one (checking options library network mapped) wide other none = check_one options library network mapped wide
command_one (timing library mapped) wide other none = timing_one library mapped
command_one (simulation network vectors) wide other none = simulation_one network vectors
command_one (gate_simulation library mapped vectors) wide other none = gate_simulation_one library mapped vectors
command_one (counting options network) wide other none = count_one options network wide
command_one (tabling leaves options network) wide other none = absurd (other tt)
command_one (drawing seed count library) few other none = drawing_one seed count library few
command_one (to_verilog library mapped) any other none = to_verilog_one library mapped
command_one (from_verilog library verilog) any other none = from_verilog_one library verilog
command_one (trading deadline options library network) wide other none = absurd (none tt)

same_alike : (a b : Result (List ℕ) Refusal) → a ≡ b → AreAlike (λ s t. Unit {0}) a b
same_alike (Ok s) (Ok t) e = tt
same_alike (Ok s) (Err r) e = cc
same_alike (Err r) (Ok t) e = cc
same_alike (Err r) (Err s) e = cc

command_alike : (c : Command) → IsInRange c → IsBy (AreAlike (λ s t. Unit {0})) (IsCommandAnswer c)
command_alike (tabling leaves options network) wide = tabling_alike leaves options network wide.1
command_alike (trading deadline options library network) wide = trading_alike deadline options library network wide.1
command_alike other wide = λ files a b p q. same_alike a b (command_one other wide (λ t. t) (λ t. t) files a b p q)

asks_for_tables : (words : List (List ℕ)) (c : Command) → command_of words ≡ Some c → IsTabling c → AsksForTables words
asks_for_tables words (tabling leaves options network) is tabled = record { leaves = leaves; options = options; network = network; form = is }
asks_for_tables words other is tabled = absurd tabled

asks_for_trade : (words : List (List ℕ)) (c : Command) → command_of words ≡ Some c → IsTrading c → AsksForTrade words
asks_for_trade words (trading deadline options library network) is traded = record { deadline = deadline; options = options; library = library; network = network; form = is }
asks_for_trade words other is traded = absurd traded

pub answer_one : (words : List (List ℕ)) → (AsksForTables words → ⊥) → (AsksForTrade words → ⊥) → (files : Files) (a b : Result (List ℕ) Refusal) → IsAnswer words files a → IsAnswer words files b → a ≡ b
answer_one words other none =
    followed_one (λ c. IsInRange c × ((IsTabling c → ⊥) × (IsTrading c → ⊥))) (gives (λ files. asked_for (command_of words))) IsCommandAnswer (gives_one (λ files. asked_for (command_of words)))
    (λ files c p. let is = asked_some (command_of words) c p in (command_in_range words c is, (λ tabled. other (asks_for_tables words c is tabled), λ traded. none (asks_for_trade words c is traded)))) (λ c both. command_one c both.0 both.1.0 both.1.1)

pub answers_alike : (words : List (List ℕ)) (files : Files) (a b : Result (List ℕ) Refusal) → IsAnswer words files a → IsAnswer words files b → AreAlike (λ s t. Unit {0}) a b
answers_alike words =
    followed_so (AreAlike (λ s t. Unit {0})) IsInRange (gives (λ files. asked_for (command_of words))) IsCommandAnswer (λ e. refl) (gives_one (λ files. asked_for (command_of words)))
    (λ files c p. command_in_range words c (asked_some (command_of words) c p)) command_alike
