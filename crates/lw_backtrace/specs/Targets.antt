-- What a netlist under deadlines is built for.
use Rattle.std.specs.Prelude.{ℕ, ◌^◌, ◌<◌, ◌≤◌, ◌≡◌, List, length, All, Some, Contains, slice_get}
use Rattle.std.specs.List.{AllZip}
use Rattle.lw_pool.specs.declared.id.ClassId.{ClassId}
use Rattle.lw_fixed.specs.declared.micro.Micro.{Micro}
use Rattle.lw_laws.specs.Graphs.{Graph, most_classes}
use Rattle.lw_laws.specs.Covers.{start_of}
use Rattle.lw_curves.specs.declared.point.Point.{Point}
use Rattle.lw_backtrace.specs.declared.targets.Targets.{Targets}
use Rattle.lw_curves.specs.CurveTables.{CurveLists, HaveWays}
use Rattle.lw_choices.specs.Tasks.{Task, timing}
use Rattle.lw_curves.specs.Points.{AreCurves, point_count, most_points}

-- one name for each input of the graph, and for each output a class of it and a time
pub record AreTargets (g : Graph) (t : Targets) : Type 0 where
  pub few : length g.pairs ≤ most_classes
  pub few_inputs : length g.leaves ≤ most_classes
  pub few_outputs : length t.outputs < 2 ^ 32
  pub one_name : length t.inputs ≡ length g.leaves
  pub one_root : length t.roots ≡ length t.outputs
  pub one_time : length t.times ≡ length t.outputs
  pub in_range : All (λ (root : ClassId). root.0 < length g.pairs) t.roots

-- the class has a point that is no later
abbrev pub HasPointBy : List (List Point) → ClassId → Micro → Type 0
HasPointBy curves c time =
    (row : List Point) × (p : Point) × (slice_get curves c.0 ≡ Some row) × Contains row p × (p.time.0 ≤ time.0)

-- The curves are those of the task, with a choice for each point, and no input's class has a point other than at the
-- input's start. Each root has a point by its time.
pub record AreCurvesFor (s : Task) (t : Targets) (curves : CurveLists) : Type 0 where
  pub horizon : ℕ
  pub are : AreCurves s horizon curves.points
  pub few : point_count curves.points ≤ most_points
  pub ways : HaveWays s curves
  pub in_time : All (λ (time : Micro). time.0 ≤ horizon) t.times
  pub reached : AllZip (HasPointBy curves.points) t.roots t.times
  pub starts : (i c : ℕ) (row : List Point) (p : Point) → slice_get s.graph.leaves i ≡ Some c
      → slice_get curves.points c ≡ Some row → Contains row p → p.time.0 ≡ start_of (timing s).starts i
