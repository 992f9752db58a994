-- A queue of numbers by the times for which they wait.
use Rattle.std.specs.Prelude.{ℕ, ◌-◌, ◌<◌, ◌≤◌, ◌≡◌, ◌⊎◌, List, [], ◌∷◌, ◌++◌, length, All, Contains, Option, Some}
use Rattle.std.specs.Prelude.{None, Bool, true, false, slice_get, ◌+◌}
use Rattle.std.specs.BinaryHeap.{IsHeap}
use Rattle.std.specs.declared.cmp.Ordering.{Ordering}
use Rattle.std.specs.Ordering.{nat_cmp, ordering_then}
use Rattle.std.specs.List.Sorted.{IsPermutation}

-- what waits: how much time is left up to a horizon, a hint, and the number of a choice or a group; of equal times in
-- the heap the greatest hint comes first, and in lanes it has no say
pub record Queued : Type 0 where
  pub horizon : ℕ
  pub items : List (ℕ × (ℕ × ℕ))

abbrev pub Waits : Queued → ℕ → ℕ → Type 0
Waits q time n = (time ≤ q.horizon) × ((hint : ℕ) × Contains q.items (q.horizon - time, (hint, n)))

abbrev pub Item : Type 0
Item = ℕ × (ℕ × ℕ)

-- by the time left, then the hint, and then the number
abbrev pub item_cmp : Item → Item → Ordering
item_cmp a b = ordering_then (nat_cmp a.0 b.0) (ordering_then (nat_cmp a.1.0 b.1.0) (nat_cmp a.1.1 b.1.1))

-- none has more time left than one before it, nor less than the last
pub record IsLane (items : List Item) (last : ℕ) : Type 0 where
  pub falling : (i j : ℕ) (x y : Item) → i < j → slice_get items i ≡ Some x → slice_get items j ≡ Some y → y.0 ≤ x.0
  pub low : (i : ℕ) (x : Item) → slice_get items i ≡ Some x → last ≤ x.0

-- what waits in all lanes
abbrev pub flat : List (List Item) → List Item
flat [] = []
flat (lane ∷ lanes) = lane ++ flat lanes

-- one has this time left, and none has more
abbrev pub IsMostLeft : List Item → Option ℕ → Type 0
IsMostLeft items None = items ≡ []
IsMostLeft items (Some left) = ((x : Item) × Contains items x × (x.0 ≡ left)) × All (λ (x : Item). x.0 ≤ left) items

-- none has as much time left, if none has more
abbrev pub HaveLess : List Item → ℕ → Type 0
HaveLess items left = All (λ (x : Item). x.0 ≤ left) items → All (λ (x : Item). x.0 < left) items

-- the first one is taken, if it has this time left
abbrev pub IsLaneTaken : List Item → List Item → ℕ → Option (ℕ × ℕ) → Type 0
IsLaneTaken old new left None = (new ≡ old) × HaveLess old left
IsLaneTaken old new left (Some found) = old ≡ (left, found) ∷ new

-- one of some lanes from one on that has this time left is taken, or none there has it
abbrev pub IsTakenIn : List (List Item) → List (List Item) → ℕ → ℕ → ℕ → Option (ℕ × ℕ) → Type 0
IsTakenIn old new first end left None =
    (new ≡ old) × ((i : ℕ) (lane : List Item) → first ≤ i → i < end → slice_get old i ≡ Some lane → HaveLess lane left)
IsTakenIn old new first end left (Some found) = IsPermutation (flat old) ((left, found) ∷ flat new)

-- one of all lanes is, or none has it
abbrev pub IsTakenAny : List (List Item) → List (List Item) → ℕ → Option (ℕ × ℕ) → Type 0
IsTakenAny old new left found = IsTakenIn old new 0 (length old) left found

-- one more waits in some lane, or none does
abbrev pub IsPushedBehind : List (List Item) → List (List Item) → Item → Bool → Type 0
IsPushedBehind old new item true = IsPermutation (item ∷ flat old) (flat new)
IsPushedBehind old new item false = new ≡ old

-- the heap is one, and none waits longer than up to the horizon
pub record IsQueue (horizon : ℕ) (heap lanes : List Item) : Type 0 where
  pub is_heap : IsHeap item_cmp heap
  pub within : All (λ (x : Item). x.0 ≤ horizon) (heap ++ lanes)

-- nothing waits, up to this horizon
pub record IsIdle (end : ℕ) (q : Queued) : Type 0 where
  pub horizon : q.horizon ≡ end
  pub items : q.items ≡ []

-- the last time at which something may wait
pub record IsHorizonOf (q : Queued) (time : ℕ) : Type 0 where
  pub horizon : time ≡ q.horizon
  pub within : All (λ (x : Item). x.0 ≤ q.horizon) q.items

-- the first time at which something waits, and none where nothing does
abbrev pub IsFirstTime : Queued → Option ℕ → Type 0
IsFirstTime q None = q.items ≡ []
IsFirstTime q (Some time) =
    ((n : ℕ) × Waits q time n) × ((t n : ℕ) → Waits q t n → time ≤ t)

-- the first time at which something waits in one of two queues, and none where nothing does
abbrev pub IsFirstOf : Queued → Queued → Option ℕ → Type 0
IsFirstOf p q None = (p.items ≡ []) × (q.items ≡ [])
IsFirstOf p q (Some time) =
    (((n : ℕ) × Waits p time n) ⊎ ((n : ℕ) × Waits q time n)) × ((t n : ℕ) → Waits p t n → time ≤ t)
    × ((t n : ℕ) → Waits q t n → time ≤ t)

-- one more waits at the time
abbrev pub IsWithOneMore : Queued → Queued → ℕ → ℕ → ℕ → Type 0
IsWithOneMore old new time hint n =
    IsPermutation ((old.horizon - time, (hint, n)) ∷ old.items) new.items

-- one that waits at the time is taken, or none does
abbrev pub IsTaken : Queued → Queued → ℕ → Option ℕ → Type 0
IsTaken old new time None = (new ≡ old) × ((t n : ℕ) → Waits old t n → time < t)
IsTaken old new time (Some n) =
    (new.horizon ≡ old.horizon) × ((hint : ℕ) × IsPermutation old.items ((old.horizon - time, (hint, n)) ∷ new.items))
