-- The pins of all choices, in groups: those of one class with one delay.
use Rattle.std.specs.Prelude.{ℕ, ◌+◌, ◌<◌, ◌≡◌, ◌⊎◌, All, List, [], ◌∷◌, ◌++◌, length, map, Some, slice_get}
use Rattle.lw_fixed.specs.declared.micro.Micro.{Micro}
use Rattle.lw_pool.specs.declared.id.ClassId.{ClassId}
use Rattle.lw_pool.specs.Numbers.{numbers}
use Rattle.lw_genlib.specs.Tables.{delays_of_cells, millionths}
use Rattle.lw_laws.specs.Covers.{delays_of}
use Rattle.lw_choices.specs.declared.pin_groups.PinGroups.{PinGroups}
use Rattle.lw_genlib.specs.Cells.{CellParts}
use Rattle.lw_choices.specs.Choices.{Choice, HasPinAt, pin_delay}
use Rattle.lw_choices.specs.Choices.Part.{gate}
use Rattle.lw_choices.specs.GroupChoices.{AreGroupChoices}

-- the group is of this class and this delay
abbrev pub IsGroup : List ℕ → List ℕ → ℕ → ℕ → ℕ → Type 0
IsGroup classes delays c delay g = (slice_get classes g ≡ Some c) × (slice_get delays g ≡ Some delay)

-- the pin of a choice with this number is in a group of this class and this delay
pub record HasUse (u : PinGroups) (n i delay c : ℕ) : Type 0 where
  pub group : ℕ
  pub place : ℕ
  pub first : ℕ
  pub first_at : slice_get u.firsts.items n ≡ Some first
  pub place_is : place ≡ first + i
  pub group_is : IsGroup u.links.classes u.delays.items c delay group
  pub member : slice_get u.members.classes place ≡ Some group
  pub owner : slice_get u.owners.items place ≡ Some n

-- each group has a delay, and each pin a choice
pub record AreGroups (u : PinGroups) : Type 0 where
  pub one_each : length u.delays.items ≡ length u.links.classes
  pub owners_each : length u.owners.items ≡ length u.members.classes
  pub count : u.members.count ≡ length u.links.classes

-- so it is, and the pins of so many choices are noted
pub record AreGroupsTo (n : ℕ) (u : PinGroups) : Type 0 where
  pub are : AreGroups u
  pub next : length u.firsts.items ≡ n

-- so it is, and the pins of the choice begin behind all
pub record HasFirst (n : ℕ) (u : PinGroups) : Type 0 where
  pub are : AreGroups u
  pub first : slice_get u.firsts.items n ≡ Some (length u.members.classes)

-- each pin has a delay, and is of one of so many classes
pub record HaveDelays (count : ℕ) (delays : List Micro) (pins : List ClassId) : Type 0 where
  pub one_each : length delays ≡ length pins
  pub within : All (λ (c : ClassId). c.0 < count) pins

-- no choice has its pins there yet
pub record HasNoUses (u : PinGroups) : Type 0 where
  pub of : AreGroupsTo 0 u
  pub none : u.owners.items ≡ []

-- so it is, for so many classes
pub record HasNoUsesFor (n : ℕ) (u : PinGroups) : Type 0 where
  pub count : u.links.count ≡ n
  pub none : HasNoUses u

-- one group more, the last one, of this class and this delay
pub record IsGroupAdded (old new : PinGroups) (c delay group : ℕ) : Type 0 where
  pub are : AreGroups old → AreGroups new
  pub group_is : AreGroups old → IsGroup new.links.classes new.delays.items c delay group
  pub low : AreGroups old → group < new.members.count
  pub kept : (g d e : ℕ) → IsGroup old.links.classes old.delays.items d e g
      → IsGroup new.links.classes new.delays.items d e g
  pub members : new.members.classes ≡ old.members.classes
  pub owners : new.owners.items ≡ old.owners.items
  pub firsts : new.firsts.items ≡ old.firsts.items

-- the pins of one more choice begin behind all
pub record IsFirstAdded (old new : PinGroups) : Type 0 where
  pub links : new.links ≡ old.links
  pub delays : new.delays.items ≡ old.delays.items
  pub members : new.members ≡ old.members
  pub owners : new.owners.items ≡ old.owners.items
  pub firsts : new.firsts.items ≡ old.firsts.items ++ length old.members.classes ∷ []

-- one pin of a choice more, behind all, in a group of this class and this delay
pub record IsPinAdded (old new : PinGroups) (c delay n : ℕ) : Type 0 where
  pub are : AreGroups new
  pub longer : length new.members.classes ≡ length old.members.classes + 1
  pub firsts : new.firsts.items ≡ old.firsts.items
  pub has : (i first : ℕ) → slice_get old.firsts.items n ≡ Some first → length old.members.classes ≡ first + i
      → HasUse new n i delay c
  pub kept : (m i e d : ℕ) → HasUse old m i e d → HasUse new m i e d
  pub only : (j m : ℕ) → slice_get new.owners.items j ≡ Some m → (slice_get old.owners.items j ≡ Some m) ⊎ (m ≡ n)

-- the pins of the first choices, and the first pins of the next one
pub record AreUsesTo (cells : List CellParts) (choices : List Choice) (n k : ℕ) (u : PinGroups) : Type 0 where
  pub are : AreGroups u
  pub low : (j m : ℕ) → slice_get u.owners.items j ≡ Some m → m < length choices
  pub all : (m i c : ℕ) (x : Choice) → (m < n) ⊎ ((m ≡ n) × (i < k)) → slice_get choices m ≡ Some x
      → HasPinAt x.part i c → HasUse u m i (pin_delay cells x.part i) c

-- the pins of a choice were added, with these delays
pub record ArePinsAdded (delays : List Micro) (pins : List ClassId) (n : ℕ) (old new : PinGroups) : Type 0 where
  pub are : AreGroups new
  pub firsts : new.firsts.items ≡ old.firsts.items
  pub pin_groups : (cells : List CellParts) (xs : List Choice) (c cell : ℕ)
      → slice_get xs n ≡ Some (record { class = c; part = gate cell (numbers pins) })
      → delays_of (delays_of_cells cells) cell ≡ map millionths delays → AreUsesTo cells xs n 0 old
      → AreUsesTo cells xs n (length pins) new

-- so were those of a choice with a cell of the library, and those of an input, which has none
pub record IsChoiceAdded (cells : List CellParts) (x : Choice) (n : ℕ) (old new : PinGroups) : Type 0 where
  pub of : AreGroupsTo (n + 1) new
  pub pin_groups : (xs : List Choice) → slice_get xs n ≡ Some x → AreUsesTo cells xs n 0 old
      → AreUsesTo cells xs (n + 1) 0 new

-- the pins of all choices, and the choices of each group
pub record AreUses (cells : List CellParts) (choices : List Choice) (u : PinGroups) : Type 0 where
  pub pins : AreUsesTo cells choices (length choices) 0 u
  pub by_group : AreGroupChoices u
