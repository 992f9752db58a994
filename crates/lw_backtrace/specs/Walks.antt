-- The points that get a gate, as a walk from the roots down finds them, and the nets of their pins.
use Rattle.std.specs.Prelude.{ℕ, ◌+◌, ◌<◌, ◌≤◌, ◌≡◌, Bool, false, List, [], ◌∷◌, length, Option, Some, None, Contains}
use Rattle.std.specs.Prelude.{slice_get}
use Rattle.lw_pool.specs.declared.id.CellId.{CellId}
use Rattle.lw_pool.specs.declared.id.ClassId.{ClassId}
use Rattle.lw_fixed.specs.declared.micro.Micro.{Micro}
use Rattle.lw_laws.specs.Graphs.{Graph}
use Rattle.lw_backtrace.specs.declared.wants.Plan.{Plan}
use Rattle.lw_backtrace.specs.declared.targets.Targets.{Targets}
use Rattle.lw_backtrace.specs.declared.trail.Walk.{Walk}
use Rattle.lw_dag.specs.Graphs.{fanins_at}
use Rattle.lw_choices.specs.Areas.{most_area}
use Rattle.lw_curves.specs.Backing.{Held, IsHeld}
use Rattle.lw_choices.specs.Choices.{Choice}
use Rattle.lw_curves.specs.CurveTables.{CurveLists}
use Rattle.lw_choices.specs.Tasks.{Task}
use Rattle.lw_curves.specs.Points.{most_points}
use Rattle.lw_genlib.specs.Cells.{CellParts}
use Rattle.lw_backtrace.specs.Targets.{AreCurvesFor}
use Rattle.lw_backtrace.specs.Sites.{Site, IsLastBy, IsPinNet, IsGateOfPoint}

-- one of the first inputs for each class that one of them has
pub record AreInputsTo (g : Graph) (n : ℕ) (inputs : List (Option ℕ)) : Type 0 where
  pub one_each : length inputs ≡ length g.pairs
  pub some : (c i : ℕ) → slice_get inputs c ≡ Some (Some i) → slice_get g.leaves i ≡ Some c
  pub none : (c i : ℕ) → slice_get inputs c ≡ Some None → i < n → slice_get g.leaves i ≡ Some c → ⊥

-- The net of the last point of the class by the time, which is exact; or of any in time, where the last one has the
-- greatest area that is told.
pub record IsRootNet (s : Task) (held : List Held) (sites : List Site) (c time net : ℕ) : Type 0 where
  pub exact : Bool
  pub is : IsPinNet s held sites exact c 0 time net
  pub cut : exact ≡ false → (l : Held) × IsLastBy held c 0 time l × (most_area ≤ l.spot.area)

-- for each root such a net of its class by its time
abbrev pub HaveRootNets : Task → List Held → List Site → List ClassId → List Micro → List ℕ → Type 0
HaveRootNets s held sites [] [] [] = Unit {0}
HaveRootNets s held sites (root ∷ roots) (time ∷ times) (net ∷ nets) =
    IsRootNet s held sites root.0 time.0 net × HaveRootNets s held sites roots times nets
HaveRootNets s held sites _ _ _ = ⊥

-- the net is a root's, or a pin's of a node whose net is such a one
pub data IsUsed (inputs : ℕ) (graph : List (List ℕ)) (roots : List ℕ) : ℕ → Type 0 where
  by_root : {net : ℕ} → Contains roots net → IsUsed inputs graph roots net
  by_pin : (j : ℕ) {net : ℕ} → IsUsed inputs graph roots (inputs + j) → Contains (fanins_at graph j) net
      → IsUsed inputs graph roots net

-- Each site is a point, none twice as exact or as shared, with the cell of its choice and the nets of its pins; and it
-- is used.
pub record IsWalk (s : Task) (choices : List Choice) (held : List Held) (sites : List Site) (roots : List ClassId)
    (times : List Micro) (cells : List CellId) (graph : List (List ℕ)) (nets : List ℕ) : Type 0 where
  pub one_cell : length cells ≡ length sites
  pub one_row : length graph ≡ length sites
  pub few : length sites ≤ most_points
  pub are : (j : ℕ) (site : Site) → slice_get sites j ≡ Some site → IsHeld held site.point
  pub once : (i j : ℕ) (site : Site) → slice_get sites i ≡ Some site → slice_get sites j ≡ Some site → i ≡ j
  pub gates : (j : ℕ) (site : Site) (cell : CellId) → slice_get sites j ≡ Some site → slice_get cells j ≡ Some cell
      → IsGateOfPoint s choices held sites site (record { cell = cell.0; pins = fanins_at graph j })
  pub root_nets : HaveRootNets s held sites roots times nets
  pub used : (j : ℕ) → j < length graph → IsUsed (length s.graph.leaves) graph nets (length s.graph.leaves + j)

-- a walk goes by the inputs and the cells of a task, and by the roots of targets with their times
pub record IsPlanFor (s : Task) (t : Targets) (plan : Plan) : Type 0 where
  pub inputs : AreInputsTo s.graph (length s.graph.leaves) plan.inputs.now
  pub count : plan.count ≡ length s.graph.leaves
  pub cells : s.cells ≡ plan.lib.now
  pub roots : t.roots ≡ plan.roots.now
  pub times : t.times ≡ plan.times.now

-- the gates are those of a walk for the roots of targets
abbrev pub WalksFor : (s : Task) (t : Targets) (curves : CurveLists) → AreCurvesFor s t curves → Walk → Type 0
WalksFor s t curves c w =
    (sites : List Site)
    × IsWalk s curves.choices c.ways.held sites t.roots t.times w.cells.items w.pins.items w.nets.items

-- so they are for each task and targets that the plan is for
abbrev pub IsWalkBy : Plan → Walk → Type 0
IsWalkBy plan w =
    (s : Task) (t : Targets) (c : AreCurvesFor s t plan.curves.now) → IsPlanFor s t plan
    → WalksFor s t plan.curves.now c w

-- and for each task with this graph and these cells
abbrev pub IsWalkDown : Graph → List CellParts → CurveLists → Targets → Walk → Type 0
IsWalkDown g cells curves t w =
    (s : Task) (c : AreCurvesFor s t curves) → s.graph ≡ g → s.cells ≡ cells → WalksFor s t curves c w
