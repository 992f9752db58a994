-- Canonical facts, over representatives, sorted by their operands; and when representatives are settled.
use Rattle.std.specs.Prelude.{ℕ, ◌+◌, ◌-◌, ◌*◌, ◌/◌, ◌^◌, ◌<◌, ◌≤◌, ◌≡◌, IsFalse, IsTrue, Bool, min, max, List, length}
use Rattle.std.specs.Prelude.{map, Contains, All, slice_index_or}
use Rattle.std.specs.List.Sorted.{IsNonDecreasingBy, IsPermutation}
use Rattle.lw_laws.specs.Families.{Equivalent}
use Rattle.lw_reduce.specs.declared.facts.Fact.{Fact}
use Rattle.lw_reduce.specs.declared.facts.Facts.{Facts}
use Rattle.lw_reduce.specs.declared.facts.Link.{Link}
use Rattle.lw_reduce.specs.declared.rounds.RoundOutcome.{RoundOutcome}
use Rattle.lw_reduce.specs.Representatives.{AreRepresentatives, HasOperands, IsFlat, LinkAgrees, Progresses, Represent}
use Rattle.lw_reduce.specs.Representatives.{family, rep_of}

-- the fact over representatives, the lower operand first
abbrev pub canonical_fact : List ℕ → Fact → Fact
canonical_fact reps p =
    let l = rep_of reps p.left in
    let r = rep_of reps p.right in
    record { form = rep_of reps p.form; left = min l r; right = max l r }

-- sorts by the first operand and then the second
abbrev pub fact_key : Fact → ℕ
fact_key p = p.left * 2 ^ 32 + p.right

-- some listed fact has these operands, and an equivalent form
pub record IsImplied (n : ℕ) (nands : List Fact) (links : List Link) (implied : Fact) : Type 0 where
  pub fact : Fact
  pub listed : Contains nands fact
  pub alike : Equivalent (family n nands links) fact.form implied.form
  pub operands : HasOperands n nands links fact implied.left implied.right
  pub within : implied.form / 2 < n

abbrev pub no_fact : Fact
no_fact = record { form = 0; left = 0; right = 0 }

-- the form at the place and the one before it have one representative, if their operands are the same
abbrev pub AgreesAt : List ℕ → List Fact → ℕ → Type 0
AgreesAt reps canonical place =
    let p = slice_index_or canonical (place - 1) no_fact in
    let q = slice_index_or canonical place no_fact in
    p.left ≡ q.left → p.right ≡ q.right → rep_of reps p.form ≡ rep_of reps q.form

-- the representatives are flat, linked forms have one, and so have forms of neighbours with the same operands
pub record IsSettled (n : ℕ) (nands : List Fact) (links : List Link) (reps : List ℕ)
    (canonical : List Fact) : Type 0 where
  pub valid : AreRepresentatives n nands links reps
  pub flat : IsFlat reps
  pub linked : All (LinkAgrees reps) links
  pub permutation : IsPermutation (map (canonical_fact reps) nands) canonical
  pub sorted : IsNonDecreasingBy fact_key canonical
  pub agree : (place : ℕ) → 1 ≤ place → place < length canonical → AgreesAt reps canonical place

-- the representatives are flat, linked forms have one, and so have forms of facts whose operands have the same ones
pub record AreSettled (n : ℕ) (nands : List Fact) (links : List Link) (reps : List ℕ) : Type 0 where
  pub valid : AreRepresentatives n nands links reps
  pub flat : IsFlat reps
  pub linked : All (LinkAgrees reps) links
  pub agree : (p q : Fact) → Contains nands p → Contains nands q
      → (canonical_fact reps p).left ≡ (canonical_fact reps q).left
      → (canonical_fact reps p).right ≡ (canonical_fact reps q).right → rep_of reps p.form ≡ rep_of reps q.form

-- the representatives of a fact's operands as one number
abbrev pub operands_key : List ℕ → Fact → ℕ
operands_key reps p = fact_key (canonical_fact reps p)

-- no two facts have operands with the same representatives
abbrev pub HaveDistinctOperands : List ℕ → List Fact → Type 0
HaveDistinctOperands reps nands =
    (p q : Fact) → Contains nands p → Contains nands q → operands_key reps p ≡ operands_key reps q → p ≡ q

-- the facts over representatives follow from these facts
abbrev pub AreImplied : Facts → List ℕ → List Fact → Type 0
AreImplied facts reps sorted = All (IsImplied (length reps) facts.nands.now facts.links.now) sorted

-- representatives, and facts over them that follow from the facts
pub record HaveCanonical (facts : Facts) (reps : List ℕ) (sorted : List Fact) : Type 0 where
  pub valid : Represent facts reps
  pub canonical : AreImplied facts reps sorted

-- so they are, and two of those facts stand at a place and before it
pub record CanUnifyAt (facts : Facts) (reps : List ℕ) (sorted : List Fact) (place : ℕ) : Type 0 where
  pub valid : Represent facts reps
  pub canonical : AreImplied facts reps sorted
  pub start : 1 ≤ place
  pub within : place < length sorted

-- forms of neighbours with the same operands have one representative
abbrev pub AgreesAll : List ℕ → List Fact → Type 0
AgreesAll reps sorted = (place : ℕ) → 1 ≤ place → place < length sorted → AgreesAt reps sorted place

-- one round: what it gives follows from the facts, and where nothing changed, the representatives are settled
pub record IsRoundOutcome (facts : Facts) (old new : List ℕ) (r : RoundOutcome) : Type 0 where
  pub progress : Progresses (length old) facts.nands.now facts.links.now old new r.changed
  pub canonical : AreImplied facts old r.canonical.items
  pub settled : IsFalse r.changed → IsSettled (length old) facts.nands.now facts.links.now new r.canonical.items

-- representatives of as many base forms have become settled
abbrev pub AreSettledFrom : Facts → List ℕ → List ℕ → Type 0
AreSettledFrom facts old new = AreSettled (length old) facts.nands.now facts.links.now new

-- they stay representatives, and are settled where the answer is true
pub record TellsSettled (facts : Facts) (old new : List ℕ) (answer : Bool) : Type 0 where
  pub valid : AreRepresentatives (length old) facts.nands.now facts.links.now new
  pub settled : IsTrue answer → AreSettled (length old) facts.nands.now facts.links.now new
