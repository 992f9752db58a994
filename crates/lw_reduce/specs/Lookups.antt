-- What a look-up in the table of facts gives.
use Rattle.std.specs.Prelude.{ℕ, zero, suc, ◌^◌, ◌<◌, ◌≤◌, ◌≡◌, ⊤, List, All, Contains, Option, None, length, slice_get}
use Rattle.std.specs.Prelude.{slice_index_or}
use Rattle.lw_reduce.specs.declared.propagate.Lookup.{Lookup}
use Rattle.lw_reduce.specs.declared.propagate.Operands.{Operands}
use Rattle.lw_reduce.specs.declared.propagate.Lookup.TheVariants.{Form, Free, Full}
use Rattle.lw_reduce.specs.declared.facts.Fact.{Fact}
use Rattle.lw_reduce.specs.declared.facts.Facts.{Facts}
use Rattle.lw_reduce.specs.declared.facts.Link.{Link}
use Rattle.lw_reduce.specs.Representatives.{HasOperands, Represent, StillRepresent}
use Rattle.lw_reduce.specs.Settling.{AreImplied, no_fact}

-- a listed fact with these operands has this form
abbrev pub HasFact : ℕ → List Fact → List Link → ℕ → ℕ → ℕ → Type 0
HasFact n nands links low high form =
    (p : Fact) × Contains nands p × HasOperands n nands links p low high × (p.form ≡ form)

abbrev pub IsLookup : ℕ → List Fact → List Link → ℕ → ℕ → ℕ → Lookup → Type 0
IsLookup n nands links slots low high (Form form) = HasFact n nands links low high form
IsLookup n nands links slots low high (Free slot) = slot < slots
IsLookup n nands links slots low high Full = ⊤

-- the fact that a slot's entry stands for: none for 0, and else that at the place before
abbrev pub entry_fact : List Fact → ℕ → Option Fact
entry_fact nands zero = None
entry_fact nands (suc place) = slice_get nands place

-- some slots, which have no fact
pub record AreFreeSlots (slots : List ℕ) : Type 0 where
  pub some : 0 < length slots
  pub free : All (λ e. e ≡ 0) slots

-- the fact at the place has these operands
pub record StandAt (facts : List Fact) (o : Operands) (place : ℕ) : Type 0 where
  pub within : place < length facts
  pub left : (slice_index_or facts place no_fact).left ≡ o.low
  pub right : (slice_index_or facts place no_fact).right ≡ o.high

-- representatives with their slots: each slot has 0, or the place after that of a fact
pub record HaveSlots (facts : Facts) (reps slots : List ℕ) : Type 0 where
  pub valid : Represent facts reps
  pub some : 0 < length slots
  pub places : All (λ e. e ≤ length facts.nands.now) slots

-- so they are, and the fact at a place has these operands
pub record CanInsert (facts : Facts) (reps slots : List ℕ) (place : ℕ) (o : Operands) : Type 0 where
  pub valid : Represent facts reps
  pub some : 0 < length slots
  pub places : All (λ e. e ≤ length facts.nands.now) slots
  pub within : place < length facts.nands.now
  pub few : length facts.nands.now < 2 ^ 32
  pub operands : HasOperands (length reps) facts.nands.now facts.links.now
      (slice_index_or facts.nands.now place no_fact) o.low o.high

-- so they are, and facts over representatives follow from the facts
pub record CanVisitAll (facts : Facts) (reps slots : List ℕ) (sorted : List Fact) : Type 0 where
  pub valid : Represent facts reps
  pub canonical : AreImplied facts reps sorted
  pub some : 0 < length slots
  pub places : All (λ e. e ≤ length facts.nands.now) slots
  pub few : length facts.nands.now < 2 ^ 32

-- and there is a fact at the place
pub record CanVisit (facts : Facts) (reps slots : List ℕ) (sorted : List Fact) (place : ℕ) : Type 0 where
  pub valid : Represent facts reps
  pub canonical : AreImplied facts reps sorted
  pub some : 0 < length slots
  pub places : All (λ e. e ≤ length facts.nands.now) slots
  pub within : place < length facts.nands.now
  pub few : length facts.nands.now < 2 ^ 32

-- representatives stay such, and what was looked up is found
pub record LooksUp (facts : Facts) (old new slots : List ℕ) (o : Operands) (answer : Lookup) : Type 0 where
  pub kept : StillRepresent facts old new
  pub found : IsLookup (length old) facts.nands.now facts.links.now (length slots) o.low o.high answer

-- representatives stay such, and slots are still slots
pub record KeepSlots (facts : Facts) (old new slots later : List ℕ) : Type 0 where
  pub kept : StillRepresent facts old new
  pub places : All (λ e. e ≤ length facts.nands.now) later
  pub len : length later ≡ length slots
