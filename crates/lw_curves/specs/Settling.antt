-- What is kept while points are settled by rising time.
use Rattle.std.specs.Prelude.{ℕ, ◌+◌, ◌*◌, ◌/◌, ◌%◌, ◌<◌, ◌≤◌, ◌≡◌, ◌⊎◌, min, List, [], length, map, Option, Some, None}
use Rattle.std.specs.Prelude.{Result, Ok, Err, slice_get}
use Rattle.std.specs.List.{AllZip}
use Rattle.lw_fixed.specs.declared.micro.Micro.{Micro}
use Rattle.lw_pool.specs.declared.id.ClassId.{ClassId}
use Rattle.lw_laws.specs.Costs.{Cost}
use Rattle.lw_laws.specs.Choices.{HasCost}
use Rattle.lw_laws.specs.Matches.{choices_of}
use Rattle.lw_laws.specs.Covers.{start_of, latest, delays_of}
use Rattle.lw_choices.specs.Areas.{area_cost, most_area, area_at, total}
use Rattle.lw_choices.specs.Tasks.{Task, timing}
use Rattle.lw_curves.specs.Points.{most_points}
use Rattle.lw_curves.specs.declared.point.CurveFault.{CurveFault}
use Rattle.lw_curves.specs.declared.point.CurveFault.TheVariants.{Limit, Memory}
use Rattle.lw_choices.specs.Choices.{Part, Choice, HasPinAt, delay_at, AreListedChoices}
use Rattle.lw_choices.specs.Choices.Part.{input, gate}
use Rattle.lw_queue.specs.Queues.{Queued, Waits}

-- a point of a class
pub record Spot : Type 0 where
  pub class : ℕ
  pub time : ℕ
  pub area : ℕ

-- the point is among them
abbrev pub Has : List Spot → Spot → Type 0
Has spots k = (i : ℕ) × (slice_get spots i ≡ Some k)

abbrev pub spot : ℕ → ℕ → ℕ → Spot
spot c time area = record { class = c; time = time; area = area }

-- a point of the class by this time and of this area at most
abbrev pub HasAtMost : List Spot → ℕ → ℕ → ℕ → Type 0
HasAtMost spots c time area =
    (k : Spot) × Has spots k × (k.class ≡ c) × (k.time ≤ time) × (k.area ≤ area)

-- of two points of a class the later has less area
abbrev pub AreApart : List Spot → Type 0
AreApart spots =
    (i j : ℕ) (k l : Spot) → i < j → slice_get spots i ≡ Some k → slice_get spots j ≡ Some l → k.class ≡ l.class
    → (k.time < l.time) × (l.area < k.area)

abbrev pub times : List Spot → List ℕ
times ks = map (λ (k : Spot). k.time) ks

abbrev pub areas : List Spot → List ℕ
areas ks = map (λ (k : Spot). k.area) ks

abbrev pub IsSpotOf : List Spot → ℕ → Spot → Type 0
IsSpotOf spots p k = Has spots k × (k.class ≡ p)

-- when an input starts, or when a cell arrives and what it takes together with points of its pins
abbrev pub Gives : Task → List Spot → Part → ℕ → ℕ → Type 0
Gives s spots (input i) time area =
    (time ≡ start_of (timing s).starts i) × (area ≡ 0)
Gives s spots (gate cell ps) time area =
    (ks : List Spot) × AllZip (IsSpotOf spots) ps ks × (time ≡ latest (delays_of (timing s).delays cell) (times ks))
    × (area ≡ min most_area (area_at s.cells cell + total (areas ks)))

-- the least area that it gives by a time, and none where it gives none
abbrev pub IsBest : Task → List Spot → Part → ℕ → Option ℕ → Type 0
IsBest s spots part time None = (t a : ℕ) → Gives s spots part t a → t ≤ time → ⊥
IsBest s spots part time (Some best) =
    ((t : ℕ) × (t ≤ time) × Gives s spots part t best) × ((t a : ℕ) → Gives s spots part t a → t ≤ time → best ≤ a)

-- a time and an area as one number
abbrev pub joint : ℕ → ℕ → ℕ
joint time area = time * (most_area + 1) + area

abbrev pub time_in : ℕ → ℕ
time_in d = d / (most_area + 1)

abbrev pub area_in : ℕ → ℕ
area_in d = d % (most_area + 1)

-- the time and the area of a cover together
abbrev pub joint_cost : Task → Cost
joint_cost s = record {
  cap = 0;
  leaf = λ i. joint (start_of (timing s).starts i) 0;
  value = λ cell ds. joint (latest (delays_of (timing s).delays cell) (map time_in ds))
      (min most_area (area_at s.cells cell + total (map area_in ds)));
  pin_counts = (area_cost s.cells).pin_counts;
}

-- some cover of the class arrives by the time and has this area
abbrev pub IsReached : Task → Spot → Type 0
IsReached s k =
    (d : ℕ) × HasCost (choices_of s.graph (area_cost s.cells).pin_counts s.patterns) (joint_cost s) k.class d
    × (time_in d ≤ k.time) × (area_in d ≡ k.area)

-- a group of pins has one class and one delay
pub record Turns : Type 0 where
  -- the groups of pins, and the choices that these are pins of
  pub groups : List ℕ
  pub owners : List ℕ
  -- how many groups there are
  pub count : ℕ
  -- the groups that come, and the choices that wait
  pub coming : Queued
  pub looked : Queued

abbrev pub turns : List ℕ → List ℕ → ℕ → Queued → Queued → Turns
turns groups owners count coming looked =
    record { groups = groups; owners = owners; count = count; coming = coming; looked = looked }

-- the choice waits, or a group with a pin of it comes
abbrev pub Comes : Turns → ℕ → ℕ → Type 0
Comes w t n =
    Waits w.looked t n
    ⊎ ((j g : ℕ) × (slice_get w.groups j ≡ Some g) × (slice_get w.owners j ≡ Some n) × Waits w.coming t g)

-- All points are covers' and none is later than now. A use of a point from now on comes, and what a choice gives with
-- points is had or comes.
pub record IsSettling (s : Task) (choices : List Choice) (now horizon : ℕ) (spots had : List Spot)
    (comes : ℕ → ℕ → Type 0) : Type 0 where
  pub reached : (k : Spot) → Has had k → IsReached s k
  pub low : (k : Spot) → Has had k → k.time ≤ now
  pub pin_groups : (k : Spot) (n j : ℕ) (x : Choice) → Has spots k → slice_get choices n ≡ Some x
      → HasPinAt x.part j k.class → k.time + delay_at s x.part j ≤ horizon
      → (k.time + delay_at s x.part j ≤ now) ⊎ comes (k.time + delay_at s x.part j) n
  pub given : (n t a : ℕ) (x : Choice) → slice_get choices n ≡ Some x → Gives s spots x.part t a → t ≤ horizon
      → HasAtMost had x.class t a ⊎ comes t n

-- All points are covers' and none is later than now. A use of a point from now on comes, and what a choice gives with
-- these points is one of them or comes.
abbrev pub IsStill : Task → List Choice → ℕ → ℕ → List Spot → (ℕ → ℕ → Type 0) → Type 0
IsStill s choices now horizon spots comes = IsSettling s choices now horizon spots spots comes

-- a point was added, in place of one of the same class and time if there was one
pub record IsGained (old new : List Spot) (k : Spot) : Type 0 where
  pub has : Has new k
  pub only : (l : Spot) → Has new l → Has old l ⊎ (l ≡ k)
  pub kept : (l : Spot) → Has old l → HasAtMost new l.class l.time l.area

-- a point was added whose uses do not yet come
pub record IsGaining (s : Task) (choices : List Choice) (now horizon class : ℕ) (new : List Spot)
    (comes : ℕ → ℕ → Type 0) : Type 0 where
  pub old : List Spot
  pub area : ℕ
  pub settling : IsSettling s choices now horizon old new comes
  pub gained : IsGained old new (spot class now area)

-- all groups of a class come too, each by its delay after a time
pub record AreGroupsAdded (classes delays : List ℕ) (class time : ℕ) (old new : Queued) : Type 0 where
  pub horizon : new.horizon ≡ old.horizon
  pub kept : (t g : ℕ) → Waits old t g → Waits new t g
  pub added : (g d : ℕ) → slice_get delays g ≡ Some d → slice_get classes g ≡ Some class → time + d ≤ old.horizon
      → Waits new (time + d) g
  pub only : (t g : ℕ) → Waits new t g → Waits old t g ⊎ ((time ≤ t) × (g < length delays))

-- the choice gives no more at this time than what is had
abbrev pub GivesNoMore : Task → List Choice → List Spot → ℕ → ℕ → Type 0
GivesNoMore s choices spots time n =
    (x : Choice) (a : ℕ) → slice_get choices n ≡ Some x → Gives s spots x.part time a → HasAtMost spots x.class time a

-- the choice gives no more at this time than what is had, or it has a point that was not seen
abbrev pub GivesNoMoreSeen : Task → List Choice → List Spot → (ℕ → Type 0) → ℕ → ℕ → Type 0
GivesNoMoreSeen s choices spots unseen time n =
    (x : Choice) (a : ℕ) → slice_get choices n ≡ Some x → Gives s spots x.part time a
    → HasAtMost spots x.class time a ⊎ unseen n

-- a choice waits too, or it gives no more
pub record IsLookedAt (s : Task) (choices : List Choice) (spots : List Spot) (unseen : ℕ → Type 0) (old new : Queued)
    (time n : ℕ) : Type 0 where
  pub horizon : new.horizon ≡ old.horizon
  pub kept : (t m : ℕ) → Waits old t m → Waits new t m
  pub only : (t m : ℕ) → Waits new t m → Waits old t m ⊎ ((t ≡ time) × (m < length choices))
  pub done : Waits new time n ⊎ GivesNoMoreSeen s choices spots unseen time n

-- so does each choice with a pin in the group
pub record IsGroupLookedAt (s : Task) (choices : List Choice) (spots : List Spot) (unseen : ℕ → Type 0)
    (groups owners : List ℕ) (old new : Queued) (time group : ℕ) : Type 0 where
  pub horizon : new.horizon ≡ old.horizon
  pub kept : (t m : ℕ) → Waits old t m → Waits new t m
  pub only : (t m : ℕ) → Waits new t m → Waits old t m ⊎ ((t ≡ time) × (m < length choices))
  pub done : (j n : ℕ) → slice_get groups j ≡ Some group → slice_get owners j ≡ Some n
      → Waits new time n ⊎ GivesNoMoreSeen s choices spots unseen time n

-- Up to a time the points are settled: each choice gives no more than what is had.
pub record AreSettled (s : Task) (now : ℕ) (choices : List Choice) (spots : List Spot) : Type 0 where
  pub reached : (k : Spot) → Has spots k → IsReached s k
  pub low : (k : Spot) → Has spots k → k.time ≤ now
  pub given : (n t a : ℕ) (x : Choice) → slice_get choices n ≡ Some x → Gives s spots x.part t a → t ≤ now
      → HasAtMost spots x.class t a

-- none waits or comes before now, and all that do are there
pub record AreInTime (now choices : ℕ) (w : Turns) : Type 0 where
  pub horizon : w.looked.horizon ≡ w.coming.horizon
  pub looked : (t n : ℕ) → Waits w.looked t n → (now ≤ t) × (n < choices)
  pub coming : (t g : ℕ) → Waits w.coming t g → (now ≤ t) × (g < w.count)

-- the choices are those of the task, and all is kept
abbrev pub IsStillFor : Task → List Choice → ℕ → List Spot → Turns → Type 0
IsStillFor s choices now spots w =
    AreListedChoices s choices × AreInTime now (length choices) w
    × IsStill s choices now w.coming.horizon spots (Comes w)

-- none waits or comes up to now
abbrev pub NoneComes : ℕ → Turns → Type 0
NoneComes now w =
    ((t n : ℕ) → Waits w.looked t n → now < t) × ((t g : ℕ) → Waits w.coming t g → now < t)

-- a class has gained a point, or none has and nothing waits or comes at this time
abbrev pub IsAfter : Task → List Choice → ℕ → List Spot → Turns → Option ClassId → Type 0
IsAfter s choices now spots w None = IsStillFor s choices now spots w × NoneComes now w
IsAfter s choices now spots w (Some class) =
    AreListedChoices s choices × AreInTime now (length choices) w
    × IsGaining s choices now w.coming.horizon class.0 spots (Comes w)

-- a choice waits too, unless the time is past the horizon
pub record IsLetWait (old new : Queued) (time n : ℕ) : Type 0 where
  pub horizon : new.horizon ≡ old.horizon
  pub kept : (t m : ℕ) → Waits old t m → Waits new t m
  pub only : (t m : ℕ) → Waits new t m → Waits old t m ⊎ ((t ≡ time) × (m ≡ n))
  pub here : time ≤ old.horizon → Waits new time n

-- a choice waits at the time at which it gives a point without points of pins
pub record IsStarted (starts : List Micro) (part : Part) (old new : Queued) (n : ℕ) : Type 0 where
  pub horizon : new.horizon ≡ old.horizon
  pub kept : (t m : ℕ) → Waits old t m → Waits new t m
  pub only : (t m : ℕ) → Waits new t m → Waits old t m ⊎ (m ≡ n)
  pub here : (s : Task) (t a : ℕ) → s.starts ≡ starts → Gives s [] part t a → t ≤ old.horizon → Waits new t n

-- those choices wait that give points without points of pins
pub record AreFirst (s : Task) (choices : List Choice) (q : Queued) : Type 0 where
  pub are : AreListedChoices s choices
  pub low : (t n : ℕ) → Waits q t n → n < length choices
  pub given : (n t a : ℕ) (x : Choice) → slice_get choices n ≡ Some x → Gives s [] x.part t a → t ≤ q.horizon
      → Waits q t n

-- Up to some time the points are settled, and they are too many.
pub record HaveTooMany (s : Task) (choices : List Choice) (horizon : ℕ) : Type 0 where
  pub now : ℕ
  pub in_time : now ≤ horizon
  pub spots : List Spot
  pub settled : AreSettled s now choices spots
  pub apart : AreApart spots
  pub many : most_points < length spots

-- why the points are not settled
abbrev pub IsStop : Task → List Choice → ℕ → CurveFault → Type 0
IsStop s choices horizon Limit = HaveTooMany s choices horizon
IsStop s choices horizon Memory = Unit {0}

-- All points up to the horizon are settled, or there is a reason.
abbrev pub AreSettledOr : Task → List Choice → ℕ → List Spot → Result (Unit {0}) CurveFault → Type 0
AreSettledOr s choices horizon spots (Ok u) = AreSettled s horizon choices spots
AreSettledOr s choices horizon spots (Err fault) = IsStop s choices horizon fault
