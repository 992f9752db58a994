-- The answer to a task is that there is no cover exactly where some root has none.
use Rattle.std.proofs.Common.{◌≡◌, ◌≢◌, ◌↔◌, inl, inr, ℕ, zero, suc, List, [], ◌∷◌, map, Some, Result, Ok, Err, Contains, slice_get, slice_index_or, refl, sym, ◌∙◌, subst, arith}
use Rattle.lw_facts.proofs.Lists.{at_contained}
use Rattle.lw_pool.specs.declared.id.NetId.{NetId}
use Rattle.lw_laws.specs.Headline.{Port as PlainPort, StandsForCoverOf}
use Rattle.lw_laws.proofs.NetlistValues.{some_arrivals}
use Rattle.lw_laws.proofs.Numbers.{slice_get_map}
use Rattle.lw_net.specs.Networks.{NetworkParts, input_names}
use Rattle.lw_net.specs.Ports.{output_port}
use Rattle.lw_blif.specs.declared.parsed.Parsed.{Parsed}
use Rattle.lw_genlib.specs.Cells.{CellParts}
use Rattle.lw_genlib.specs.Tables.{timing_of}
use Rattle.lw_genlib.specs.declared.fault.LibFault.{LibFault}
use Rattle.lw_genlib.specs.declared.fault.LibFault.TheVariants as lib_fault
use Rattle.lw_pattern.specs.Libraries.{library_patterns}
use Rattle.lw_netlist.specs.Plain as netlist
use Rattle.lw_netlist.specs.Plain.{plain_port}
use Rattle.lw_files.specs.declared.fault.FileFault.{FileFault}
use Rattle.lw_files.specs.declared.fault.FileFault.TheVariants as file_fault
use Rattle.lw_files.specs.Sources.{FileStep, HasCells, HasModel, ReadsLibrary, ReadsModel, text_of}
use Rattle.lw_files.specs.Steps.{Files, followed_by, gives}
use Rattle.lw_map.specs.declared.fault.MapFault.TheVariants as map_fault
use Rattle.lw_map.specs.Mapped.{IsWithinLimits}
use Rattle.lw_map.proofs.Once.{zip_at}
use Rattle.lw_joined.specs.Places.{ArePlacesOf, IsFirstStrange}
use Rattle.lw_answers.proofs.Closed.{has_one_model}
use Rattle.lw_answers.proofs.Uncovered.{at_place, contained}
use Rattle.lw_area.specs.declared.refusal.Refusal.{Refusal}
use Rattle.lw_area.specs.declared.refusal.Refusal.TheVariants as refusal
use Rattle.lw_area.specs.declared.refusal.Refusal.TheVariants.{Library, Network, Unmapped}
use Rattle.lw_area.specs.declared.sources.Further.{Further}
use Rattle.lw_area.specs.Answers.{IsTaskAnswer, IsUncoveredIn, Recovers}
use Rattle.lw_area.specs.Complete.{status_in}
use Rattle.lw_area.specs.Promises.{AreRead}
use Rattle.lw_area.specs.Recovered.{IsRecoveredText, IsSpaceOf, Space, form_in, listing_in}
use Rattle.lw_area.specs.Sources.{ArePlaced, ReadsFurther, ReadsOne, in_further, in_library, in_network}
use Rattle.lw_area.specs.Words.{Settings, Task}
use Rattle.lw_area.proofs.Steps.{by_last, first, second, third}

-- What is read is one.

module _ {A : Type 0} (name : List ℕ) (files : Files) (next : List ℕ → FileStep A) (one : (bytes : List ℕ) (a b : Result A FileFault) → next bytes files a → next bytes files b → a ≡ b) where
  read_one : (a b : Result A FileFault) → followed_by (gives (text_of name)) next files a → followed_by (gives (text_of name)) next files b → a ≡ b
  read_one a b (inl (x, e, n)) (inl (y, g, m)) =
      let is : ◌≡◌ {A = Result (List ℕ) FileFault} (Ok x) (Ok y) = sym e ∙ g in
      let same : x ≡ y = cc in
      one y a b (subst (λ z. next z files a) same n) m
  read_one a b (inl (x, e, n)) (inr (h, g, r)) = let is : ◌≡◌ {A = Result (List ℕ) FileFault} (Ok x) (Err h) = sym e ∙ g in cc
  read_one a b (inr (h, e, r)) (inl (y, g, m)) = let is : ◌≡◌ {A = Result (List ℕ) FileFault} (Err h) (Ok y) = sym e ∙ g in cc
  read_one a b (inr (h, e, r)) (inr (k, g, s)) =
      let is : ◌≡◌ {A = Result (List ℕ) FileFault} (Err h) (Err k) = sym e ∙ g in
      let same : h ≡ k = cc in
      cc

cells_one : (files : Files) (bytes : List ℕ) (a b : Result (List CellParts) FileFault) → HasCells bytes files a → HasCells bytes files b → a ≡ b
cells_one files bytes (Ok x) (Ok y) p q = let is : ◌≡◌ {A = Result (List CellParts) LibFault} (Ok x) (Ok y) = sym p ∙ q in cc
cells_one files bytes (Ok x) (Err (file_fault.Library line kind)) p q = let is : ◌≡◌ {A = Result (List CellParts) LibFault} (Ok x) (Err (lib_fault.Line line kind)) = sym p ∙ q in cc
cells_one files bytes (Ok x) (Err other) p q = absurd q
cells_one files bytes (Err (file_fault.Library line kind)) (Ok y) p q = let is : ◌≡◌ {A = Result (List CellParts) LibFault} (Ok y) (Err (lib_fault.Line line kind)) = sym q ∙ p in cc
cells_one files bytes (Err (file_fault.Library line kind)) (Err (file_fault.Library l k)) p q = let is : ◌≡◌ {A = Result (List CellParts) LibFault} (Err (lib_fault.Line line kind)) (Err (lib_fault.Line l k)) = sym p ∙ q in cc
cells_one files bytes (Err (file_fault.Library line kind)) (Err other) p q = absurd q
cells_one files bytes (Err other) b p q = absurd p

library_one : (name : List ℕ) (files : Files) (a b : Result (List CellParts) FileFault) → ReadsLibrary name files a → ReadsLibrary name files b → a ≡ b
library_one name files = read_one name files HasCells (cells_one files)

model_one : (name : List ℕ) (files : Files) (a b : Result Parsed FileFault) → ReadsModel name files a → ReadsModel name files b → a ≡ b
model_one name files = read_one name files HasModel (λ bytes a b p q. has_one_model bytes files a b p q)

-- Further networks are read, or there is a reason that they are not.

module _ (names : List (List ℕ)) (files : Files) where
  not_strange : (inputs : List (List ℕ)) (places : List ℕ) (name : List ℕ) → ArePlacesOf names inputs places → IsFirstStrange names inputs name → ⊥
  not_strange inputs places name are is = is.strange (by inputs places is.place are is.at)
    where
      by : (inputs : List (List ℕ)) (places : List ℕ) (k : ℕ) → ArePlacesOf names inputs places → slice_get inputs k ≡ Some name → Contains names name
      by [] places k are e = cc
      by (x ∷ inputs) [] k are e = absurd are
      by (x ∷ inputs) (p ∷ places) zero (at, are) e = at_contained names p name (at ∙ e)
      by (x ∷ inputs) (p ∷ places) (suc k) (at, are) e = by inputs places k are e

  placed_one : (place : ℕ) (model : Parsed) (f : Further) (e : Refusal) → ArePlaced names place model files (Ok f) → ArePlaced names place model files (Err e) → ⊥
  placed_one place model f (refusal.Strange k name) (same, are) (at, strange) = not_strange (input_names model.network) f.places.items name are strange
  placed_one place model f other ok refused = refused

  further_read : (place : ℕ) (word : List ℕ) (model : Parsed) (e : Refusal) → ReadsModel word files (Ok model) → in_further place (ReadsModel word) files (Err e) → ⊥
  further_read place word model (refusal.Further k fault) ok (at, refused) = let is : ◌≡◌ {A = Result Parsed FileFault} (Err fault) (Ok model) = model_one word files (Err fault) (Ok model) refused ok in cc
  further_read place word model other ok refused = refused

  one_read : (place : ℕ) (word : List ℕ) (f : Further) (e : Refusal) → ReadsOne names place word files (Ok f) → ReadsOne names place word files (Err e) → ⊥
  one_read place word f e (inl (model, ok, placed)) (inl (other, also, not)) =
      let is : ◌≡◌ {A = Result Parsed FileFault} (Ok other) (Ok model) = model_one word files (Ok other) (Ok model) also ok in
      let same : other ≡ model = cc in
      placed_one place model f e placed (subst (λ (m : Parsed). ArePlaced names place m files (Err e)) same not)
  one_read place word f e (inl (model, ok, placed)) (inr (g, refused, same)) = further_read place word model g ok refused
  one_read place word f e (inr (g, refused, same)) also = cc

  all_read : (place : ℕ) (words : List (List ℕ)) (fs : List Further) (e : Refusal) → ReadsFurther names place words files (Ok fs) → ReadsFurther names place words files (Err e) → ⊥
  all_read place [] fs e ok refused = refused
  all_read place (word ∷ words) fs e (inl (f, one, inl (rest, more, is))) (inl (g, also, inl (others, even, refused))) = refused
  all_read place (word ∷ words) fs e (inl (f, one, inl (rest, more, is))) (inl (g, also, inr (h, refused, same))) = all_read (suc place) words rest h more refused
  all_read place (word ∷ words) fs e (inl (f, one, inl (rest, more, is))) (inr (h, refused, same)) = one_read place word f h one refused
  all_read place (word ∷ words) fs e (inl (f, one, inr (h, refused, same))) also = cc
  all_read place (word ∷ words) fs e (inr (h, refused, same)) also = cc

-- each output of a netlist that was written has a cover
covered : (settings : Settings) (cells : List CellParts) (model : Parsed) (further : List Further) (text : List ℕ) → (is : IsRecoveredText settings cells model further text) → (place : ℕ) (output : NetId) → slice_get model.network.outputs place ≡ Some output → IsUncoveredIn settings cells model.network is.space model.starts output → ⊥
covered settings cells model further text is place output at lacks =
    let net = model.network in
    let n = is.netlist in
    let covers = is.recovered.covers in
    let timing = timing_of cells model.starts in
    let (ds, are) = some_arrivals (netlist.plain n) covers.ordered timing in
    let (q, stands) = zip_at (λ (p q : PlainPort). StandsForCoverOf settings.options.mode settings.options.width (listing_in settings is.space).signals (library_patterns cells) timing (netlist.plain n) (form_in settings net p.net) q.net (slice_index_or ds q.net 0)) (map (output_port net) net.outputs) (map plain_port n.outputs) place (output_port net output) (covers.covers ds are) (slice_get_map (output_port net) net.outputs place output at) in
    lacks stands.by stands.is_cover stands.has_tree

module _ (task : Task) (files : Files) (read : AreRead task files) where
  abbrev net : NetworkParts
  net = read.model.network

  no_library : (e : Refusal) → in_library (ReadsLibrary task.library) files (Err e) → ⊥
  no_library (Library fault) r = let no : ◌≡◌ {A = Result (List CellParts) FileFault} (Err fault) (Ok read.cells) = library_one task.library files (Err fault) (Ok read.cells) r read.library_is in cc
  no_library other r = r

  no_network : (e : Refusal) → in_network (ReadsModel task.network) files (Err e) → ⊥
  no_network (Network fault) r = let no : ◌≡◌ {A = Result Parsed FileFault} (Err fault) (Ok read.model) = model_one task.network files (Err fault) (Ok read.model) r read.network_is in cc
  no_network other r = r

  model_is : (model : Parsed) → ReadsModel task.network files (Ok model) → model ≡ read.model
  model_is model two =
      let is : ◌≡◌ {A = Result Parsed FileFault} (Ok model) (Ok read.model) = model_one task.network files (Ok model) (Ok read.model) two read.network_is in
      cc

  no_further : (model : Parsed) → ReadsModel task.network files (Ok model) → (e : Refusal) → ReadsFurther (input_names model.network) 0 task.more files (Err e) → ⊥
  no_further model two e refused =
      all_read (input_names net) files 0 task.more read.further e read.further_are (subst (λ (n : Parsed). ReadsFurther (input_names n.network) 0 task.more files (Err e)) (model_is model two) refused)

  -- what the cells and the model come to with further networks is the answer
  recovers : (a : Result (List ℕ) Refusal) → IsTaskAnswer task files a → (further : List Further) × Recovers task.settings read.cells read.model further files a
  recovers a answer =
      let m = by_last (first task) (second task) (third task) (Recovers task.settings) files a (λ e r same. no_library e r) (λ e r same. no_network e r) (λ model two e r same. no_further model two e r) answer in
      let cells_are : ◌≡◌ {A = Result (List CellParts) FileFault} (Ok m.a) (Ok read.cells) = library_one task.library files (Ok m.a) (Ok read.cells) m.one read.library_is in
      let one : m.a ≡ read.cells = cc in
      (m.c, subst (λ (n : Parsed). Recovers task.settings read.cells n m.c files a) (model_is m.b m.two) (subst (λ (ys : List CellParts). Recovers task.settings ys m.b m.c files a) one m.comes))

  abbrev HasLack : Space → Type 0
  HasLack space = (root : NetId) × Contains net.outputs root × IsUncoveredIn task.settings read.cells net space read.model.starts root

  abbrev Decides : Result (List ℕ) Refusal → Type 0
  Decides a = (space : Space) × (further : List Further) × IsSpaceOf task.settings net further space × ((status_in a ≡ 6) ↔ HasLack space)

  decides : IsWithinLimits task.settings.options net → (a : Result (List ℕ) Refusal) (further : List Further) → Recovers task.settings read.cells read.model further files a → status_in a ≢ 8 → Decides a
  decides within (Ok text) further m not_8 = (
    m.space,
    further,
    m.over,
    (
      λ e. absurd (omega (arith, e)),
      λ (root, c, lacks). let (place, at) = at_place net.outputs root c in absurd (covered task.settings read.cells read.model further text m place root at lacks),
    ),
  )
  decides within (Err (Unmapped (map_fault.NoCover name))) further m not_8 = (
    m.space,
    further,
    m.over,
    (λ e. (m.output, contained net.outputs m.place m.output m.at, m.lacks), λ lack. refl),
  )
  decides within (Err (Unmapped map_fault.Forms)) further m not_8 = let f = within.forms in absurd (omega arith)
  decides within (Err (Unmapped map_fault.Splits)) further m not_8 = let f = within.splits in let g = m.1 in absurd (omega arith)
  decides within (Err (Unmapped map_fault.Points)) further m not_8 = absurd m
  decides within (Err (Unmapped map_fault.Memory)) further m not_8 = absurd (not_8 refl)
  decides within (Err other) further m not_8 = absurd m

  pub no_cover_exactly : IsWithinLimits task.settings.options net → (a : Result (List ℕ) Refusal) → IsTaskAnswer task files a → status_in a ≢ 8 → Decides a
  no_cover_exactly within a answer not_8 =
      let (further, m) = recovers a answer in
      decides within a further m not_8
