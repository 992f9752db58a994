-- Netlists that are built from points by their choices.
use Rattle.std.specs.Prelude.{ℕ, ◌≡◌, true, List, [], ◌∷◌, length, Some, slice_get}
use Rattle.lw_laws.specs.Covers.{Cover, delays_of}
use Rattle.lw_laws.specs.Netlists.{Gate, Netlist, IsGate, AreOrdered, StandsFor}
use Rattle.lw_curves.specs.Backing.{Held, IsHeld, IsBefore}
use Rattle.lw_choices.specs.Choices.{Choice}
use Rattle.lw_choices.specs.Choices.Part.{gate}
use Rattle.lw_curves.specs.CurveTables.{CurveLists, HaveWays}
use Rattle.lw_choices.specs.Tasks.{Task, timing, IsCoverBy, area_of}
use Rattle.lw_curves.specs.Points.{AreCurves}
use Rattle.lw_backtrace.specs.Sites.{IsLastBy, Site, IsNetOfPoint, IsGateOfPoint}

-- the netlist has a gate for each of these sites, in their order
pub record IsBuilt (s : Task) (choices : List Choice) (held : List Held) (sites : List Site)
    (n : Netlist) : Type 0 where
  pub inputs : n.inputs ≡ length s.graph.leaves
  pub one_each : length n.gates ≡ length sites
  pub sites_are : (j : ℕ) (site : Site) → slice_get sites j ≡ Some site → IsHeld held site.point
  pub gates : (j : ℕ) (site : Site) (g : Gate) → slice_get sites j ≡ Some site → IsGate n j g
      → IsGateOfPoint s choices held sites site g
  pub ordered : AreOrdered n

-- a cover of the class of the point by its time that has its area
pub record IsCoverOfPoint (s : Task) (n : Netlist) (h : Held) (net : ℕ) : Type 0 where
  pub by : Cover
  pub stands : StandsFor n by net
  pub is_cover : IsCoverBy s h.spot.class h.spot.time by
  pub area_is : area_of s by ≡ h.spot.area

-- In a netlist that is built from the points of curves the net of each exact point stands for such a cover.
abbrev pub BuiltNetsAreCovers : Type 0
BuiltNetsAreCovers =
    (s : Task) (horizon : ℕ) (curves : CurveLists) (ways : HaveWays s curves) (sites : List Site) (n : Netlist)
    → AreCurves s horizon curves.points → IsBuilt s curves.choices ways.held sites n → (h : Held) (net : ℕ)
    → IsHeld ways.held h → IsNetOfPoint s sites true h net → IsCoverOfPoint s n h net

-- for each pin the last point of its class by the point's time, with the delay of the pin, and it comes before the
-- point
abbrev pub HaveLastPins : List Held → Held → List ℕ → List ℕ → Type 0
HaveLastPins held h [] [] = Unit {0}
HaveLastPins held h (d ∷ ds) (p ∷ ps) =
    ((l : Held) × IsLastBy held p d h.spot.time l × IsBefore l h) × HaveLastPins held h ds ps
HaveLastPins held h _ _ = ⊥

-- The points of curves can be built in the order of their times, areas and gains: those of the pins come before.
abbrev pub PinsComeBefore : Type 0
PinsComeBefore =
    (s : Task) (horizon : ℕ) (curves : CurveLists) (ways : HaveWays s curves) → AreCurves s horizon curves.points
    → (h : Held) (c cell : ℕ) (ps : List ℕ) → IsHeld ways.held h
    → slice_get curves.choices h.choice ≡ Some (record { class = c; part = gate cell ps })
    → HaveLastPins ways.held h (delays_of (timing s).delays cell) ps
