-- What is asked and promised where the facts of a base form are added by its parts.
use Rattle.std.specs.Prelude.{ℕ, ◌+◌, ◌<◌, ◌≤◌, length}
use Rattle.lw_laws.specs.Modes.{Mode}
use Rattle.lw_laws.specs.NumberedForms.{NumberedForms}
use Rattle.lw_laws.specs.Drafts.{Draft}
use Rattle.lw_assoc.specs.declared.parts.BaseParts.{BaseParts}
use Rattle.lw_assoc.specs.Drafting.{AddsNands, HasBases, HasFactsUpTo, IsMaskBelow, IsOverlapping, MakeSplit}
use Rattle.lw_assoc.specs.Parts.{HasParts}

-- all parts of the base form are there
abbrev pub HasAllParts : BaseParts → Type 0
HasAllParts base = HasParts base.forms.now base.b 1 base.parts.now

-- the draft has all base forms, all parts are there, and those of two masks make a split
pub record CanAddSplit (base : BaseParts) (mask rest : ℕ) (d : Draft) : Type 0 where
  pub bases : HasBases base.forms.now (length base.forms.now.bases) d
  pub parts : HasAllParts base
  pub split : MakeSplit base.forms.now base.b mask rest

-- all parts are there, and the draft has the facts of the base forms before this one
pub record CanAddFacts (mode : Mode) (base : BaseParts) (d : Draft) : Type 0 where
  pub parts : HasAllParts base
  pub before : HasFactsUpTo mode base.forms.now base.b d

-- the draft has the facts of this base form too, and only facts were added
pub record AddsFacts (mode : Mode) (base : BaseParts) (old new : Draft) : Type 0 where
  pub facts : HasFactsUpTo mode base.forms.now (base.b + 1) new
  pub kept : AddsNands old new

-- the draft has the facts of all base forms, and only facts were added
pub record AddsAllFacts (mode : Mode) (forms : NumberedForms) (old new : Draft) : Type 0 where
  pub facts : HasFactsUpTo mode forms (length forms.bases) new
  pub kept : AddsNands old new

-- the left mask is below the right one, neither is past the whole, and the draft has the facts of each pair before
-- these two
pub record CanOverlap (base : BaseParts) (left right whole : ℕ) (d : Draft) : Type 0 where
  pub parts : HasAllParts base
  pub left_below : IsMaskBelow base.forms.now base.b left whole
  pub less : left < right
  pub within : right ≤ whole
  pub before : IsOverlapping base.forms.now base.b left right d

-- the draft has the facts of each pair of masks before two bounds, and only facts were added
pub record AddsOverlaps (base : BaseParts) (low high : ℕ) (old new : Draft) : Type 0 where
  pub so_far : IsOverlapping base.forms.now base.b low high new
  pub kept : AddsNands old new

-- the left mask is below the whole, which is small, and the draft has the facts of each pair with a lower left one
pub record CanOverlapFrom (base : BaseParts) (left whole : ℕ) (d : Draft) : Type 0 where
  pub parts : HasAllParts base
  pub left_below : IsMaskBelow base.forms.now base.b left whole
  pub few : whole ≤ 255
  pub before : IsOverlapping base.forms.now base.b left 0 d
