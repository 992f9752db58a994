-- What is looked through of a walk from the roots down.
use Rattle.std.specs.Prelude.{ℕ, ◌+◌, ◌<◌, ◌≤◌, ◌≡◌, ◌⊎◌, Bool, true, false, IsTrue, IsFalse, List, length, Some, None}
use Rattle.std.specs.Prelude.{slice_get}
use Rattle.lw_pool.specs.declared.id.CellId.{CellId}
use Rattle.lw_pool.specs.declared.id.ClassId.{ClassId}
use Rattle.lw_fixed.specs.declared.micro.Micro.{Micro}
use Rattle.lw_curves.specs.declared.point.Point.{Point}
use Rattle.lw_backtrace.specs.declared.trail.Node.{Node}
use Rattle.lw_backtrace.specs.declared.trail.Trail.{Trail}
use Rattle.lw_backtrace.specs.declared.wants.Plan.{Plan}
use Rattle.lw_backtrace.specs.declared.wants.Want.{Want}
use Rattle.lw_backtrace.specs.declared.wants.Demand.{Demand}
use Rattle.lw_choices.specs.declared.rows.Gate.{Gate}
use Rattle.lw_choices.specs.declared.rows.Stand.TheVariants as stand
use Rattle.std.specs.Global.{Vec}
use Rattle.lw_genlib.specs.Cells.{CellParts}
use Rattle.lw_choices.specs.Areas.{most_area}
use Rattle.lw_curves.specs.Points.{most_points}
use Rattle.lw_curves.specs.CurveTables.{IsStandAt}
use Rattle.lw_curves.specs.Lasts.{IsLastIn, IsLastPlace}

-- the node is at the place or before it; for an exact use an exact one at the place
pub record IsNodeFor (node : Node) (exact : Bool) (place : ℕ) : Type 0 where
  pub no_later : node.place ≤ place
  pub own : IsTrue exact → IsTrue node.exact
  pub last : IsTrue exact → node.place ≡ place

-- a node of the class at the place or before it; for an exact use an exact one at the place
pub record IsNodeBy (nodes : List Node) (exact : Bool) (c place j : ℕ) : Type 0 where
  pub node : Node
  pub at : slice_get nodes j ≡ Some node
  pub class_is : node.class.0 ≡ c
  pub no_later : node.place ≤ place
  pub own : exact ≡ true → node.exact ≡ true
  pub last : exact ≡ true → node.place ≡ place

-- what a root uses: its class by its time
abbrev pub root_want : ClassId → Micro → Bool → Want
root_want root time exact = record { class = root; delay = 0; time = time.0; exact = exact }

-- what a pin with a class and a delay uses
abbrev pub want_of_pin : Demand → ClassId → Micro → Want
want_of_pin d pin delay = record { class = pin; delay = delay.0; time = d.time; exact = d.exact }

-- so does the pin with a number
abbrev pub IsPinWant : Demand → ℕ → Want → Type 0
IsPinWant d k want =
    (pin : ClassId) (delay : Micro) → slice_get d.pins.now k ≡ Some pin → slice_get d.delays.now k ≡ Some delay
    → want ≡ want_of_pin d pin delay

-- the net of a point of a class by a time, with a delay: that of the input of the class, or of the gate that has the
-- point
pub record IsNetBy (plan : Plan) (trail : Trail) (want : Want) (net : ℕ) : Type 0 where
  pub row : List Point
  pub at : slice_get plan.curves.now.points want.class.0 ≡ Some row
  pub place : ℕ
  pub last : IsLastPlace row want.delay want.time (Some place)
  pub right : (slice_get plan.inputs.now want.class.0 ≡ Some (Some net))
      ⊎ ((slice_get plan.inputs.now want.class.0 ≡ Some None) × (j : ℕ)
      × IsNodeBy trail.nodes.items want.exact want.class.0 place j × (net ≡ plan.count + j))

-- the last point of a class by a time has the greatest area that is told
pub record IsCut (points : List (List Point)) (c time : ℕ) : Type 0 where
  pub row : List Point
  pub at : slice_get points c ≡ Some row
  pub place : ℕ
  pub last : IsLastIn row 0 time place
  pub cut : most_area ≤ last.point.area

-- the net of a root's last point by its time, or of any by then where the last one is cut
pub record IsRootBy (plan : Plan) (trail : Trail) (root : ClassId) (time : Micro) (net : ℕ) : Type 0 where
  pub right : IsNetBy plan trail (root_want root time true) net
      ⊎ (IsCut plan.curves.now.points root.0 time.0 × IsNetBy plan trail (root_want root time false) net)

-- the nets of roots, each by its time
pub record AreRootsRight (plan : Plan) (trail : Trail) (nets : List ℕ) : Type 0 where
  pub one_net : length nets ≡ length plan.roots.now
  pub one_time : length plan.times.now ≡ length plan.roots.now
  pub each : (k : ℕ) (root : ClassId) (time : Micro) (net : ℕ) → slice_get plan.roots.now k ≡ Some root
      → slice_get plan.times.now k ≡ Some time → slice_get nets k ≡ Some net → IsRootBy plan trail root time net

-- the nets of pins by a time, each with its delay
pub record ArePinsRight (plan : Plan) (trail : Trail) (demand : Demand) (nets : List ℕ) : Type 0 where
  pub one_net : length nets ≡ length demand.pins.now
  pub one_delay : length demand.delays.now ≡ length demand.pins.now
  pub each : (k : ℕ) (pin : ClassId) (delay : Micro) (net : ℕ) → slice_get demand.pins.now k ≡ Some pin
      → slice_get demand.delays.now k ≡ Some delay → slice_get nets k ≡ Some net
      → IsNetBy plan trail (want_of_pin demand pin delay) net

-- the cell of the point's choice, and its pins with their delays by the time of the point
pub record IsDemand (plan : Plan) (node : Node) (demand : Demand) : Type 0 where
  pub gate : Gate
  pub own : CellParts
  pub row : List Point
  pub point : Point
  pub stands : IsStandAt plan.curves.now node.class.0 node.place (stand.Gate gate)
  pub row_at : slice_get plan.curves.now.points node.class.0 ≡ Some row
  pub point_at : slice_get row node.place ≡ Some point
  pub cell_at : slice_get plan.lib.now gate.cell.0 ≡ Some own
  pub cell_is : demand.cell.0 ≡ gate.cell.0
  pub pins_are : demand.pins.now ≡ gate.pins.now
  pub delays_are : demand.delays.now ≡ own.delays
  pub time_is : demand.time ≡ point.time.0
  pub exact_is : demand.exact ≡ node.exact

-- the gate has the cell of its point's choice, and the nets of its pins
pub record IsNodeRight (plan : Plan) (trail : Trail) (node : Node) (cell : CellId) (nets : List ℕ) : Type 0 where
  pub demand : Demand
  pub is : IsDemand plan node demand
  pub cell_is : demand.cell.0 ≡ cell.0
  pub pins : ArePinsRight plan trail demand nets

-- a root's net, or the net of a pin of an earlier gate
abbrev pub IsUsedEarlier : ℕ → List (List ℕ) → List ℕ → ℕ → Type 0
IsUsedEarlier count pins nets j =
    ((k : ℕ) × (slice_get nets k ≡ Some (count + j))) ⊎
    ((g : ℕ) × (row : List ℕ) × (k : ℕ) × (g < j) × (slice_get pins g ≡ Some row)
    × (slice_get row k ≡ Some (count + j)))

-- the point has this exact gate
abbrev pub IsOwned : List (Vec ℕ) → Node → ℕ → Type 0
IsOwned owners node j =
    (row : Vec ℕ) × (slice_get owners node.class.0 ≡ Some row) × (slice_get row.items node.place ≡ Some j)

-- the class has this shared gate
abbrev pub IsSpare : List ℕ → Node → ℕ → Type 0
IsSpare spares node j = slice_get spares node.class.0 ≡ Some j

-- no other gate stands at the point for the same use
pub record IsOnlyGate (owners : List (Vec ℕ)) (spares : List ℕ) (node : Node) (j : ℕ) : Type 0 where
  pub exact : IsTrue node.exact → IsOwned owners node j
  pub shared : IsFalse node.exact → IsSpare spares node j

-- there is a gate with this number: a node with its user, a cell, and the nets of its pins
pub record HasNumber (trail : Trail) (number : ℕ) : Type 0 where
  pub node : number < length trail.nodes.items
  pub user : number < length trail.users.items
  pub cell : number < length trail.walk.cells.items
  pub row : number < length trail.walk.pins.items

-- so it is with each gate, and there are no more of them than points
pub record IsEven (trail : Trail) : Type 0 where
  pub few : length trail.nodes.items ≤ most_points
  pub one_user : length trail.users.items ≡ length trail.nodes.items
  pub one_cell : length trail.walk.cells.items ≡ length trail.nodes.items
  pub one_row : length trail.walk.pins.items ≡ length trail.nodes.items

-- what was looked through of the gate with a number
pub record IsGateRight (plan : Plan) (trail : Trail) (j : ℕ) : Type 0 where
  pub node : Node
  pub cell : CellId
  pub row : List ℕ
  pub node_at : slice_get trail.nodes.items j ≡ Some node
  pub cell_at : slice_get trail.walk.cells.items j ≡ Some cell
  pub row_at : slice_get trail.walk.pins.items j ≡ Some row
  pub right : IsNodeRight plan trail node cell row
  pub used : IsUsedEarlier plan.count trail.walk.pins.items trail.walk.nets.items j
  pub owned : node.exact ≡ true → IsOwned trail.owners.items node j
  pub spare : node.exact ≡ false → IsSpare trail.spares.items node j

-- and of the whole
pub record IsRightWalk (plan : Plan) (trail : Trail) : Type 0 where
  pub few : length trail.nodes.items ≤ most_points
  pub one_cell : length trail.walk.cells.items ≡ length trail.nodes.items
  pub one_row : length trail.walk.pins.items ≡ length trail.nodes.items
  pub roots_are : AreRootsRight plan trail trail.walk.nets.items
  pub gates : (j : ℕ) → j < length trail.nodes.items → IsGateRight plan trail j
