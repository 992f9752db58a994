-- The choices of each group.
use Rattle.std.specs.Prelude.{ℕ, ◌+◌, ◌<◌, ◌≤◌, ◌≡◌, List, length, map, Some, slice_get, slice_index_or}
use Rattle.lw_choices.specs.declared.group_choices.GroupChoices.{GroupChoices}
use Rattle.lw_choices.specs.declared.pin_groups.PinGroups.{PinGroups}

-- the choices of the pins at these places
abbrev pub owners_of : List ℕ → List ℕ → List ℕ
owners_of owners places = map (λ j. slice_index_or owners j 0) places

-- the number stands at a place from one on and before another
abbrev pub IsBetween : List ℕ → ℕ → ℕ → ℕ → Type 0
IsBetween numbers first end n =
    (k : ℕ) × (first ≤ k) × (k < end) × (slice_get numbers k ≡ Some n)

-- the pins in the group were appended
pub record IsGroupListed (groups : List ℕ) (g : ℕ) (old new : List ℕ) : Type 0 where
  pub longer : length old ≤ length new
  pub kept : (k j : ℕ) → slice_get old k ≡ Some j → slice_get new k ≡ Some j
  pub all : (j : ℕ) → slice_get groups j ≡ Some g → IsBetween new (length old) (length new) j

-- their choices were
abbrev pub AreOwnersAdded : List ℕ → List ℕ → ℕ → List ℕ → List ℕ → Type 0
AreOwnersAdded groups owners g old new =
    (places : List ℕ) → old ≡ owners_of owners places → (more : List ℕ) × (new ≡ owners_of owners more)
    × IsGroupListed groups g places more

-- the pins in each of so many groups, those of a group up to where those of the next one begin
pub record AreMembersListed (groups : List ℕ) (count : ℕ) (starts places : List ℕ) : Type 0 where
  pub one_more : length starts ≡ count + 1
  pub low : (g first : ℕ) → slice_get starts g ≡ Some first → first ≤ length places
  pub all : (g first end j : ℕ) → slice_get starts g ≡ Some first → slice_get starts (g + 1) ≡ Some end
      → slice_get groups j ≡ Some g → IsBetween places first end j

-- their choices
abbrev pub AreOwnersListed : List ℕ → List ℕ → ℕ → List ℕ → List ℕ → Type 0
AreOwnersListed groups owners count starts numbers =
    (places : List ℕ) × (numbers ≡ owners_of owners places) × AreMembersListed groups count starts places

abbrev pub AreGroupChoicesOf : List ℕ → List ℕ → ℕ → GroupChoices → Type 0
AreGroupChoicesOf groups owners count by_group =
    AreOwnersListed groups owners count by_group.starts.items by_group.numbers.items

-- the choices by group are those of these pins
abbrev pub AreGroupChoices : PinGroups → Type 0
AreGroupChoices u = AreGroupChoicesOf u.members.classes u.owners.items u.members.count u.by_group
