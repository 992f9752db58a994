-- What stays the same while points are settled.
use Rattle.std.specs.Prelude.{ℕ, ◌<◌, ◌≤◌, ◌≡◌, List, [], All, Option, None, IfSome, length}
use Rattle.lw_fixed.specs.declared.micro.Micro.{Micro}
use Rattle.lw_genlib.specs.Cells.{CellParts}
use Rattle.lw_laws.specs.Covers.{Pattern}
use Rattle.lw_laws.specs.Graphs.{Graph}
use Rattle.lw_pool.specs.declared.id.ClassId.{ClassId}
use Rattle.lw_curves.specs.declared.setup.Setup.{Setup}
use Rattle.lw_curves.specs.declared.waking.View.{View}
use Rattle.lw_curves.specs.declared.point.CurveFault.{CurveFault}
use Rattle.lw_curves.specs.declared.seen_areas.Seen.{Seen}
use Rattle.lw_choices.specs.declared.pin_groups.PinGroups.{PinGroups}
use Rattle.lw_choices.specs.Areas.{total}
use Rattle.lw_curves.specs.Backing.{AreBacked}
use Rattle.lw_choices.specs.Choices.{Choice, AreListedChoices, IsOfLibrary}
use Rattle.lw_curves.specs.Fronts.{FrontState}
use Rattle.lw_choices.specs.Tasks.{Task, task}
use Rattle.lw_curves.specs.Points.{most_points}
use Rattle.lw_choices.specs.GroupChoices.{AreGroupChoices}
use Rattle.lw_choices.specs.Rows.{IsRowFor}
use Rattle.lw_curves.specs.SeenAreas.{AreSeen, AreSeenAfter, HasUnseen}
use Rattle.lw_curves.specs.Settling.{AreFirst, AreSettled, GivesNoMoreSeen, Has, IsAfter, IsGroupLookedAt, IsLookedAt}
use Rattle.lw_curves.specs.Settling.{IsStillFor, IsStop, Spot, Turns}
use Rattle.lw_queue.specs.Queues.{Queued, Waits}
use Rattle.lw_curves.specs.Tallies.{AreTallied}
use Rattle.lw_choices.specs.PinGroups.{AreGroups, AreUses}
use Rattle.lw_curves.specs.Turns.{turns_of}

-- the choices stand at so many classes, with cells of the library, and the groups are those of their pins
pub record IsSetup (classes : ℕ) (setup : Setup) : Type 0 where
  pub rows : All (IsRowFor setup.lib.now classes) setup.rows.now
  pub count : setup.pin_groups.now.links.count ≡ classes
  pub pin_groups : AreUses setup.lib.now setup.rows.now setup.pin_groups.now

abbrev pub choices_of_setup : Setup → List Choice
choices_of_setup setup = setup.rows.now

-- with a graph and patterns
abbrev pub task_of : Setup → Graph → List Pattern → Task
task_of setup g pats = task g pats setup.lib.now setup.starts.now

-- so it is for each graph, patterns and starts, where the groups are those of the choices' pins
abbrev pub ForAnyTask : Setup → (Task → List Choice → Type 0) → Type 0
ForAnyTask setup Then =
    (g : Graph) (pats : List Pattern) (starts : List Micro)
    → AreUses setup.lib.now (choices_of_setup setup) setup.pin_groups.now
    → Then (task g pats setup.lib.now starts) (choices_of_setup setup)

-- a pin of the choice has a point in time that its group has not seen
abbrev pub IsUnseenIn : View → ℕ → ℕ → Type 0
IsUnseenIn at time n =
    HasUnseen at.setup.now.pin_groups.now at.seen.now.areas.items at.fronts.now.spots time n

-- the choice gives no more at this time than what is had, but for points that its groups have not seen
abbrev pub GivesNoMoreIn : View → ℕ → ℕ → Type 0
GivesNoMoreIn at time n =
    ForAnyTask at.setup.now (λ s choices. GivesNoMoreSeen s choices at.fronts.now.spots (IsUnseenIn at time) time n)

-- the choice waits too, or so it is
abbrev pub IsLookedAtIn : View → ℕ → ℕ → Queued → Queued → Type 0
IsLookedAtIn at time n old new =
    ForAnyTask at.setup.now (λ s choices. IsLookedAt s choices at.fronts.now.spots (IsUnseenIn at time) old new time n)

-- so it is of each choice with a pin in the group
abbrev pub IsGroupLookedAtIn : View → ℕ → ℕ → Queued → Queued → Type 0
IsGroupLookedAtIn at time group old new =
    ForAnyTask at.setup.now
    (λ s choices. IsGroupLookedAt s choices at.fronts.now.spots
    (IsUnseenIn at time) at.setup.now.pin_groups.now.members.classes at.setup.now.pin_groups.now.owners.items old
    new time group)

-- an area for each group, and a tally for each choice
abbrev pub AreTalliedIn : Setup → Seen → Type 0
AreTalliedIn setup seen = AreTallied setup.lib.now (choices_of_setup setup) setup.pin_groups.now seen

abbrev pub turns_in : Setup → Queued → Queued → Turns
turns_in setup coming looked = turns_of setup.pin_groups.now coming looked

-- for some graph and patterns the choices are those of the task, and all is kept
abbrev pub IsStillSomewhere : Setup → ℕ → List Spot → Turns → Type 0
IsStillSomewhere setup now spots w =
    (g : Graph) × (pats : List Pattern) × IsStillFor (task_of setup g pats) (choices_of_setup setup) now spots w

-- so it is for each graph and patterns for which that held before
abbrev pub WhereStill : Setup → ℕ → List Spot → Turns → (Task → List Choice → Type 0) → Type 0
WhereStill setup now spots w Then =
    (g : Graph) (pats : List Pattern) → IsStillFor (task_of setup g pats) (choices_of_setup setup) now spots w
    → Then (task_of setup g pats) (choices_of_setup setup)

-- the class that gained a point is one of those that have these least areas, and together these fell
abbrev pub HaveFallen : List ℕ → List ℕ → Option ClassId → Type 0
HaveFallen old new gain = IfSome gain (λ class. (class.0 < length old) × (total new < total old))

-- so it is for each graph and patterns whose choices these are
abbrev pub WhereListed : List CellParts → List Micro → List Choice → (Task → List Choice → Type 0) → Type 0
WhereListed cells starts rows Then =
    (g : Graph) (pats : List Pattern) → AreListedChoices (task g pats cells starts) rows
    → Then (task g pats cells starts) rows

-- the choices stand at these classes, with cells of the library, each has its tally, and no point is later than now
pub record IsReadyFor (j : Setup) (now : ℕ) (state : Seen) (fronts : FrontState) : Type 0 where
  pub of_library : All (λ (r : Choice). IsOfLibrary j.lib.now r.part) j.rows.now
  pub class_low : All (λ (r : Choice). r.class < length fronts.least) j.rows.now
  pub tallied : AreTalliedIn j state
  pub late : (k : Spot) → Has fronts.spots k → k.time ≤ now

-- so it is, and this is a group whose choices can be looked at
pub record IsReadyAt (j : Setup) (now : ℕ) (state : Seen) (fronts : FrontState) (group : ℕ) : Type 0 where
  pub ready : IsReadyFor j now state fronts
  pub group_low : group < j.pin_groups.now.members.count
  pub by_group : AreGroupChoices j.pin_groups.now

-- this group can see points, and its choices can be looked at
pub record MaySee (u : PinGroups) (state : Seen) (fronts : FrontState) (group : ℕ) : Type 0 where
  pub group_low : group < u.members.count
  pub are : AreGroups u
  pub by_group : AreGroupChoices u
  pub one_each : length state.areas.items ≡ u.members.count
  pub count : u.links.count ≡ length fronts.least

-- the tallies of any choices with these groups are still theirs
abbrev pub StayTallied : PinGroups → Seen → Seen → Type 0
StayTallied u old new =
    (cells : List CellParts) (xs : List Choice) → AreUses cells xs u → AreTallied cells xs u old
    → AreTallied cells xs u new

-- so it is while points are settled, at a time before which nothing waits or comes
pub record IsUnderWay (j : Setup) (now : ℕ) (state : Seen) (fronts : FrontState) (coming looked : Queued) : Type 0 where
  pub setup : IsSetup (length fronts.least) j
  pub time : now ≤ coming.horizon
  pub tallied : AreTalliedIn j state
  pub seen : AreSeen j.pin_groups.now state.areas.items fronts.spots coming
  pub still : IsStillSomewhere j now fronts.spots (turns_in j coming looked)

-- so much is kept in any case
pub record IsKeptOf (j : Setup) (state : Seen) (fronts new_fronts : FrontState)
    (coming new_coming : Queued) : Type 0 where
  pub horizon : new_coming.horizon ≡ coming.horizon
  pub count : length new_fronts.least ≡ length fronts.least
  pub tallied : AreTalliedIn j state

-- no group comes any more by now, and all have seen what they came for
pub record AreGroupsOver (j : Setup) (now : ℕ) (state : Seen) (spots : List Spot)
    (coming new_coming looked new_looked : Queued) : Type 0 where
  pub seen : AreSeen j.pin_groups.now state.areas.items spots new_coming
  pub over : (t g : ℕ) → Waits new_coming t g → now < t
  pub still : WhereStill j now spots (turns_in j coming looked)
      (λ s choices. IsStillFor s choices now spots (turns_in j new_coming new_looked))

-- the points still have choices that give them their areas
abbrev pub StayBacked : Setup → ℕ → FrontState → FrontState → Queued → Queued → Type 0
StayBacked setup now fronts new_fronts coming looked =
    WhereStill setup now fronts.spots (turns_in setup coming looked)
    (λ s choices. AreBacked s choices fronts.held → AreBacked s choices new_fronts.held)

-- a class has gained a point at this time, or none has and none will
pub record IsGainBy (j : Setup) (now : ℕ) (state : Seen) (fronts new_fronts : FrontState)
    (coming new_coming looked new_looked : Queued) (gain : Option ClassId) : Type 0 where
  pub after : WhereStill j now fronts.spots (turns_in j coming looked)
      (λ s choices. IsAfter s choices now new_fronts.spots (turns_in j new_coming new_looked) gain)
  pub seen : AreSeenAfter j.pin_groups.now state.areas.items new_fronts.spots new_coming now gain
  pub falls : HaveFallen fronts.least new_fronts.least gain
  pub backed : StayBacked j now fronts new_fronts coming looked

-- the classes have all their points of this time
pub record HaveGained (j : Setup) (now : ℕ) (state : Seen) (fronts new_fronts : FrontState)
    (coming new_coming looked new_looked : Queued) : Type 0 where
  pub seen : AreSeen j.pin_groups.now state.areas.items new_fronts.spots new_coming
  pub still : WhereStill j now fronts.spots (turns_in j coming looked)
      (λ s choices. IsAfter s choices now new_fronts.spots (turns_in j new_coming new_looked) None)
  pub backed : StayBacked j now fronts new_fronts coming looked

-- so have they of all times, and there are not too many, unless there were before
pub record HaveGainedAll (j : Setup) (fronts new_fronts : FrontState) (coming looked : Queued) : Type 0 where
  pub few_points : length fronts.spots ≤ most_points → length new_fronts.spots ≤ most_points
  pub backed : StayBacked j 0 fronts new_fronts coming looked

-- those choices wait up to this horizon that need no points of pins, whatever library they are of
pub record IsBegun (starts : List Micro) (rows : List Choice) (horizon : ℕ) (q : Queued) : Type 0 where
  pub horizon_is : q.horizon ≡ horizon
  pub first : (g : Graph) (pats : List Pattern) (cells : List CellParts)
      → AreListedChoices (task g pats cells starts) rows
      → AreFirst (task g pats cells starts) rows q

-- the choices are those of some task, and those that need no points wait in a queue of this horizon
pub record MayBegin (j : Setup) (horizon : ℕ) (looked : Queued) : Type 0 where
  pub horizon_is : looked.horizon ≡ horizon
  pub listed : (g : Graph) × (pats : List Pattern) × AreListedChoices (task_of j g pats) (choices_of_setup j)
  pub first : WhereListed j.lib.now j.starts.now j.rows.now (λ s choices. AreFirst s choices looked)

-- nothing was found yet
pub record HasNoPoints (fronts : FrontState) : Type 0 where
  pub spots_none : fronts.spots ≡ []
  pub held_none : fronts.held ≡ []

-- the points of so many classes are settled up to the horizon, each with a choice, and they are not too many
pub record HaveFronts (cells : List CellParts) (starts : List Micro) (rows : List Choice) (classes horizon : ℕ)
    (fronts : FrontState) : Type 0 where
  pub count : classes ≡ length fronts.least
  pub few : length fronts.spots ≤ most_points
  pub settled : WhereListed cells starts rows (λ s choices. AreSettled s horizon choices fronts.spots)
  pub backed : WhereListed cells starts rows (λ s choices. AreBacked s choices fronts.held)

-- so it is of the choices of a setup
abbrev pub HaveFrontsOf : Setup → ℕ → ℕ → FrontState → Type 0
HaveFrontsOf j classes horizon fronts = HaveFronts j.lib.now j.starts.now j.rows.now classes horizon fronts

-- and of the classes that others have
abbrev pub HaveFrontsIn : Setup → FrontState → ℕ → FrontState → Type 0
HaveFrontsIn j old horizon fronts = HaveFrontsOf j (length old.least) horizon fronts

-- why the points are not settled up to the horizon
abbrev pub IsStopFor : List CellParts → List Micro → List Choice → ℕ → CurveFault → Type 0
IsStopFor cells starts rows horizon fault = WhereListed cells starts rows (λ s choices. IsStop s choices horizon fault)

abbrev pub IsStopOf : Setup → ℕ → CurveFault → Type 0
IsStopOf j horizon fault = IsStopFor j.lib.now j.starts.now j.rows.now horizon fault

-- the choices are those of some task with these cells and starts
abbrev pub AreListedSomewhere : List CellParts → List Micro → List Choice → Type 0
AreListedSomewhere cells starts rows =
    (g : Graph) × (pats : List Pattern) × AreListedChoices (task g pats cells starts) rows
