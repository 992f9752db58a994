-- Representatives of forms, as in union-find, and when they are sound and closed.
use Rattle.std.specs.Prelude.{ℕ, ◌*◌, ◌/◌, ◌%◌, ◌<◌, ◌≤◌, Bool, true, IsTrue, IsFalse, All, ◌≡◌, ◌==◌, ◌⊎◌, List}
use Rattle.std.specs.Prelude.{length, Contains, slice_index, sum_by, if◌then◌else◌}
use Rattle.lw_laws.specs.Flip.{flip}
use Rattle.lw_laws.specs.Families.{Family, IsNand, Equivalent}
use Rattle.lw_reduce.specs.declared.facts.Fact.{Fact}
use Rattle.lw_reduce.specs.declared.facts.Facts.{Facts}
use Rattle.lw_reduce.specs.declared.facts.Link.{Link}

-- the facts of a draft of n base forms
abbrev pub family : ℕ → List Fact → List Link → Family
family n nands links = record {
  Occurs = λ f. f / 2 < n;
  IsInput = λ f i. ⊥;
  IsTop = λ f. ⊥;
  IsSplit = λ f x y. Contains nands (record { form = f; left = x; right = y });
  IsLink = λ f h. Contains links (record { left = f; right = h });
}

-- a number in the phase of a form: its flip for an odd form
abbrev pub in_phase : ℕ → ℕ → ℕ
in_phase f c = if f % 2 == 0 then c else flip c

-- the representative of a form, by those of the base forms
abbrev pub rep_of : List ℕ → ℕ → ℕ
rep_of reps f = in_phase f (slice_index reps (f / 2))

-- each form is equivalent to its representative
abbrev pub AreSound : Family → List ℕ → Type 0
AreSound F reps = (f : ℕ) → F.Occurs f → F.Occurs (rep_of reps f) × Equivalent F f (rep_of reps f)

-- linked forms have one representative, and so have NANDs of forms with the same representatives
pub record AreClosed (F : Family) (reps : List ℕ) : Type 0 where
  pub links : (f h : ℕ) → F.IsLink f h → rep_of reps f ≡ rep_of reps h
  pub nands : (f h x y u v : ℕ) → IsNand F f x y → IsNand F h u v → rep_of reps x ≡ rep_of reps u
      → rep_of reps y ≡ rep_of reps v → rep_of reps f ≡ rep_of reps h

-- each representative is its own: a root
abbrev pub IsFlat : List ℕ → Type 0
IsFlat reps = (f : ℕ) → f / 2 < length reps → rep_of reps (rep_of reps f) ≡ rep_of reps f

-- the sum of the representatives' base forms, which falls with each change
abbrev pub rep_weight : List ℕ → ℕ
rep_weight reps = sum_by (λ c. c / 2) reps

abbrev pub IsFactIn : ℕ → Fact → Type 0
IsFactIn n p = (p.form / 2 < n) × (p.left / 2 < n) × (p.right / 2 < n)

abbrev pub IsLinkIn : ℕ → Link → Type 0
IsLinkIn n l = (l.left / 2 < n) × (l.right / 2 < n)

-- the representatives are sound for these facts, which are in range and never make a form and its complement
-- equivalent; a base form's representative is itself or a form of a lower one
pub record AreRepresentatives (n : ℕ) (nands : List Fact) (links : List Link) (reps : List ℕ) : Type 0 where
  pub count : length reps ≡ n
  pub sound : AreSound (family n nands links) reps
  pub lower : (b : ℕ) → b < n → (slice_index reps b ≡ 2 * b) ⊎ (slice_index reps b / 2 < b)
  pub nands_in : All (IsFactIn n) nands
  pub links_in : All (IsLinkIn n) links
  pub consistent : (f : ℕ) → Equivalent (family n nands links) (flip f) f → ⊥

-- representatives stay such, and weigh no more
pub record StayRepresentatives (n : ℕ) (nands : List Fact) (links : List Link) (old new : List ℕ) : Type 0 where
  pub valid : AreRepresentatives n nands links new
  pub low : rep_weight new ≤ rep_weight old

-- they weigh less where something changed
pub record Progresses (n : ℕ) (nands : List Fact) (links : List Link) (old new : List ℕ) (changed : Bool) : Type 0 where
  pub valid : AreRepresentatives n nands links new
  pub low : rep_weight new ≤ rep_weight old
  pub falls : changed ≡ true → rep_weight new < rep_weight old

-- on the path from a form to its root
pub record IsOnPath (n : ℕ) (nands : List Fact) (links : List Link) (old reps : List ℕ) (form at : ℕ) : Type 0 where
  pub valid : AreRepresentatives n nands links reps
  pub low : rep_weight reps ≤ rep_weight old
  pub within : at / 2 < n
  pub alike : Equivalent (family n nands links) form at
  pub roots : (r : ℕ) → r / 2 < n → rep_of old r ≡ r → rep_of reps r ≡ r
  pub flat : IsFlat old → (reps ≡ old) × ((at ≡ form) ⊎ (at ≡ rep_of old form))

-- at the end of that path
pub record IsFound (n : ℕ) (nands : List Fact) (links : List Link) (old new : List ℕ) (form at : ℕ) : Type 0 where
  pub valid : AreRepresentatives n nands links new
  pub low : rep_weight new ≤ rep_weight old
  pub within : at / 2 < n
  pub alike : Equivalent (family n nands links) form at
  pub root : rep_of new at ≡ at
  pub roots : (r : ℕ) → r / 2 < n → rep_of old r ≡ r → rep_of new r ≡ r
  pub flat : IsFlat old → (new ≡ old) × (at ≡ rep_of old form)

abbrev pub LinkAgrees : List ℕ → Link → Type 0
LinkAgrees reps l = rep_of reps l.left ≡ rep_of reps l.right

-- the representatives below a base form are roots
abbrev pub IsFlatBelow : List ℕ → ℕ → Type 0
IsFlatBelow reps n = (k : ℕ) → k < n → rep_of reps (slice_index reps k) ≡ slice_index reps k

-- a fact's operands are equivalent to these forms, in this order or exchanged
abbrev pub HasOperands : ℕ → List Fact → List Link → Fact → ℕ → ℕ → Type 0
HasOperands n nands links p low high =
    let F = family n nands links in
    (Equivalent F p.left low × Equivalent F p.right high) ⊎ (Equivalent F p.left high × Equivalent F p.right low)

-- a base form's representative is itself or a form of a lower one
abbrev pub IsLower : List ℕ → Type 0
IsLower reps = (b : ℕ) → b < length reps → (slice_index reps b ≡ 2 * b) ⊎ (slice_index reps b / 2 < b)

-- representatives of the base forms that these facts speak of
abbrev pub Represent : Facts → List ℕ → Type 0
Represent facts reps = AreRepresentatives (length reps) facts.nands.now facts.links.now reps

-- they stay such, and weigh no more
abbrev pub StillRepresent : Facts → List ℕ → List ℕ → Type 0
StillRepresent facts old new = StayRepresentatives (length old) facts.nands.now facts.links.now old new

-- the form is known, so that its root can be found
pub record CanFind (facts : Facts) (reps : List ℕ) (form : ℕ) : Type 0 where
  pub valid : Represent facts reps
  pub within : form / 2 < length reps

abbrev pub FindsRoot : Facts → List ℕ → List ℕ → ℕ → ℕ → Type 0
FindsRoot facts old new form root = IsFound (length old) facts.nands.now facts.links.now old new form root

-- the operands of the fact are known
pub record CanFindOperands (facts : Facts) (reps : List ℕ) (fact : Fact) : Type 0 where
  pub valid : Represent facts reps
  pub within : IsFactIn (length reps) fact

-- representatives stay such, and the fact has these operands
pub record FindsOperands (facts : Facts) (old new : List ℕ) (fact : Fact) (low high : ℕ) : Type 0 where
  pub kept : StillRepresent facts old new
  pub operands : HasOperands (length old) facts.nands.now facts.links.now fact low high

-- so it has where the answer is true
pub record ComparesOperands (facts : Facts) (old new : List ℕ) (fact : Fact) (low high : ℕ) (same : Bool) : Type 0 where
  pub kept : StillRepresent facts old new
  pub operands : IsTrue same → HasOperands (length old) facts.nands.now facts.links.now fact low high

-- these forms can be given one representative: they are equivalent
pub record CanUnify (facts : Facts) (reps : List ℕ) (f h : ℕ) : Type 0 where
  pub valid : Represent facts reps
  pub left : f / 2 < length reps
  pub right : h / 2 < length reps
  pub alike : Equivalent (family (length reps) facts.nands.now facts.links.now) f h

-- Forms were unified, or not: then flat representatives are the same, and agree.
pub record Unifies (facts : Facts) (old new : List ℕ) (changed : Bool) (agree : Type 0) : Type 0 where
  pub progress : Progresses (length old) facts.nands.now facts.links.now old new changed
  pub same : IsFalse changed → IsFlat old → (new ≡ old) × agree
