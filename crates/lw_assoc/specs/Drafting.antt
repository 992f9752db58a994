-- The draft of all splits and links of listed forms, and how far it is made.
use Rattle.std.specs.Prelude.{ℕ, ◌+◌, ◌-◌, ◌*◌, ◌^◌, ◌<◌, ◌≤◌, ◌≡◌, ◌⊎◌, bit_or, Bool, true, false, List, [], ◌∷◌, ◌++◌}
use Rattle.std.specs.Prelude.{replicate, length, Some, slice_get, slice_index_or, Contains}
use Rattle.lw_laws.specs.Flip.{flip}
use Rattle.lw_laws.specs.Modes.{Mode}
use Rattle.lw_laws.specs.Modes.Mode.{plain, idempotent}
use Rattle.lw_laws.specs.NumberedForms.{NumberedForms, IsPart, IsSplitOf, IsSignal}
use Rattle.lw_laws.specs.NumberedForms.Base.{base_and}
use Rattle.lw_laws.specs.NumberedValues.{AreNumberedValues}
use Rattle.lw_laws.specs.Drafts.{Draft, NandFact, FormLink}
use Rattle.lw_form.specs.Bases.{picked}
use Rattle.lw_form.specs.Kept.{HasPart}

-- the draft of true and the inputs alone
abbrev pub first_draft : ℕ → Draft
first_draft inputs =
    record { inputs = inputs; samples = true ∷ replicate inputs false; nands = []; links = [] }

-- a draft with one more base form, fact or link
abbrev pub with_base : Draft → Bool → Draft
with_base d sample =
    record { inputs = d.inputs; samples = d.samples ++ sample ∷ []; nands = d.nands; links = d.links }

abbrev pub with_nand : Draft → NandFact → Draft
with_nand d fact =
    record { inputs = d.inputs; samples = d.samples; nands = d.nands ++ fact ∷ []; links = d.links }

abbrev pub with_link : Draft → FormLink → Draft
with_link d link =
    record { inputs = d.inputs; samples = d.samples; nands = d.nands; links = d.links ++ link ∷ [] }

-- the mask of the other operands
abbrev pub other : List ℕ → ℕ → ℕ
other fs mask = 2 ^ length fs - 1 - mask

-- the fact that a listed And has by the parts of two masks
pub record IsSplitBy (forms : NumberedForms) (b : ℕ) (fs : List ℕ) (mask rest : ℕ) (n : NandFact) : Type 0 where
  pub form : n.form ≡ 2 * b + 1
  pub left : IsPart forms (picked fs mask) n.left
  pub right : IsPart forms (picked fs rest) n.right

-- that fact is there
abbrev pub HasSplit : NumberedForms → List NandFact → ℕ → List ℕ → ℕ → ℕ → Type 0
HasSplit forms nands b fs mask rest =
    (n : NandFact) × Contains nands n × IsSplitBy forms b fs mask rest n

-- two masks are of parts of And b, and these make a split in some mode
pub record MakeSplit (forms : NumberedForms) (b mask rest : ℕ) : Type 0 where
  pub left : HasPart forms b mask
  pub right : HasPart forms b rest
  pub is : (fs : List ℕ) (x y : ℕ) → slice_get forms.bases b ≡ Some (base_and fs) → IsPart forms (picked fs mask) x
      → IsPart forms (picked fs rest) y → IsSplitOf idempotent forms (2 * b + 1) x y

-- Unordered splits are made by the masks that leave the last operand out; those below the bound are there.
abbrev pub HasSplitsBelow : NumberedForms → List NandFact → ℕ → ℕ → Type 0
HasSplitsBelow forms nands b bound =
    (fs : List ℕ) (mask : ℕ) → slice_get forms.bases b ≡ Some (base_and fs) → 1 ≤ mask → mask < bound
    → mask < 2 ^ (length fs - 1) → HasSplit forms nands b fs mask (other fs mask)

-- two masks, the lower one first, that together have all bits
pub record AreOverlapping (k mask rest : ℕ) : Type 0 where
  pub some : 1 ≤ mask
  pub less : mask < rest
  pub within : rest < 2 ^ k
  pub all : bit_or mask rest ≡ 2 ^ k - 1

-- Unordered pairs of different parts that overlap are made by two such masks; those before two bounds are there.
abbrev pub HasOverlapsBelow : NumberedForms → List NandFact → ℕ → ℕ → ℕ → Type 0
HasOverlapsBelow forms nands b low high =
    (fs : List ℕ) (mask rest : ℕ) → slice_get forms.bases b ≡ Some (base_and fs) → AreOverlapping (length fs) mask rest
    → (mask < low) ⊎ ((mask ≡ low) × (rest < high)) → HasSplit forms nands b fs mask rest

-- the base form and its complement are each the NAND of the other one twice
pub record HasTwice (nands : List NandFact) (b : ℕ) : Type 0 where
  pub even : Contains nands (record { form = 2 * b; left = 2 * b + 1; right = 2 * b + 1 })
  pub odd : Contains nands (record { form = 2 * b + 1; left = 2 * b; right = 2 * b })

-- the facts of a base form
abbrev pub HasSplits : Mode → NumberedForms → List NandFact → ℕ → Type 0
HasSplits plain forms nands b =
    (fs : List ℕ) (mask : ℕ) → slice_get forms.bases b ≡ Some (base_and fs) → 1 ≤ mask → mask < 2 ^ (length fs - 1)
    → HasSplit forms nands b fs mask (other fs mask)
HasSplits idempotent forms nands b =
    HasTwice nands b × ((fs : List ℕ) (mask rest : ℕ) → slice_get forms.bases b ≡ Some (base_and fs)
    → AreOverlapping (length fs) mask rest → HasSplit forms nands b fs mask rest)

-- the facts are splits of the mode
abbrev pub AreSplits : Mode → NumberedForms → List NandFact → Type 0
AreSplits mode forms nands =
    (n : NandFact) → Contains nands n → IsSplitOf mode forms n.form n.left n.right

-- the facts of the first b base forms are there, and no others
pub record HasSplitsUpTo (mode : Mode) (forms : NumberedForms) (b : ℕ) (nands : List NandFact) : Type 0 where
  pub are : AreSplits mode forms nands
  pub all : (a : ℕ) → a < b → HasSplits mode forms nands a

-- the two forms of the first s signals are linked, and no others
pub record HasLinksUpTo (forms : NumberedForms) (s : ℕ) (links : List FormLink) : Type 0 where
  pub are : (l : FormLink) → Contains links l → IsSignal forms l.left l.right
  pub all : (k f h : ℕ) → k < s → slice_get forms.sops k ≡ Some f → slice_get forms.facs k ≡ Some h
      → Contains links (record { left = f; right = h })

-- each sample is the value of its base form where every input is false
abbrev pub HasSamples : NumberedForms → List Bool → Type 0
HasSamples forms samples =
    (value : ℕ → Bool) → AreNumberedValues forms (λ i. false) value → (b : ℕ) → b < length samples
    → slice_index_or samples b false ≡ value (2 * b)

-- the draft has the first n base forms
pub record HasBases (forms : NumberedForms) (n : ℕ) (d : Draft) : Type 0 where
  pub inputs : d.inputs ≡ forms.inputs
  pub count : length d.samples ≡ n
  pub samples : HasSamples forms d.samples

-- the draft has all base forms, and the facts of the first b
pub record HasFactsUpTo (mode : Mode) (forms : NumberedForms) (b : ℕ) (d : Draft) : Type 0 where
  pub bases : HasBases forms (length forms.bases) d
  pub splits : HasSplitsUpTo mode forms b d.nands

-- with them those of base form b whose mask is below the bound
pub record IsSplitting (forms : NumberedForms) (b bound : ℕ) (d : Draft) : Type 0 where
  pub before : HasFactsUpTo plain forms b d
  pub begun : HasSplitsBelow forms d.nands b bound

-- with them those of base form b whose masks are before the bounds
pub record IsOverlapping (forms : NumberedForms) (b low high : ℕ) (d : Draft) : Type 0 where
  pub before : HasFactsUpTo idempotent forms b d
  pub twice : HasTwice d.nands b
  pub begun : HasOverlapsBelow forms d.nands b low high

-- a mask of a part of And b that is below the mask of all its operands
pub record IsMaskBelow (forms : NumberedForms) (b mask whole : ℕ) : Type 0 where
  pub has : HasPart forms b mask
  pub less : mask < whole
  pub all : (fs : List ℕ) → slice_get forms.bases b ≡ Some (base_and fs) → whole ≡ 2 ^ length fs - 1

-- only base forms were added
pub record AddsBases (old new : Draft) : Type 0 where
  pub nands : new.nands ≡ old.nands
  pub links : new.links ≡ old.links

-- only facts were added
pub record AddsNands (old new : Draft) : Type 0 where
  pub inputs : new.inputs ≡ old.inputs
  pub samples : new.samples ≡ old.samples
  pub links : new.links ≡ old.links

pub record AddsLinks (old new : Draft) : Type 0 where
  pub inputs : new.inputs ≡ old.inputs
  pub samples : new.samples ≡ old.samples
  pub nands : new.nands ≡ old.nands

-- the fact of a split was added
pub record AddsSplit (forms : NumberedForms) (b mask rest : ℕ) (old new : Draft) : Type 0 where
  pub fact : NandFact
  pub is : (fs : List ℕ) → slice_get forms.bases b ≡ Some (base_and fs) → IsSplitBy forms b fs mask rest fact
  pub added : new ≡ with_nand old fact

-- the fact was added that a form is the NAND of its complement twice
abbrev pub AddsInverter : ℕ → Draft → Draft → Type 0
AddsInverter f old new =
    new ≡ with_nand old (record { form = f; left = flip f; right = flip f })

-- the draft of the forms in a mode
pub record IsDraftOf (mode : Mode) (forms : NumberedForms) (d : Draft) : Type 0 where
  pub bases : HasBases forms (length forms.bases) d
  pub splits : HasSplitsUpTo mode forms (length forms.bases) d.nands
  pub links : HasLinksUpTo forms (length forms.sops) d.links
