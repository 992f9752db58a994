-- Points that get a gate, and the nets of their pins.
use Rattle.std.specs.Prelude.{ℕ, ◌+◌, ◌≤◌, ◌≡◌, ◌⊎◌, Bool, true, List, [], ◌∷◌, length, Some, slice_get}
use Rattle.lw_laws.specs.Covers.{delays_of, start_of}
use Rattle.lw_laws.specs.Netlists.{Gate}
use Rattle.lw_curves.specs.Backing.{Held, IsHeld}
use Rattle.lw_choices.specs.Choices.{Choice}
use Rattle.lw_choices.specs.Choices.Part.{gate}
use Rattle.lw_choices.specs.Tasks.{Task, timing}

-- the last point of the class that comes by a time, with a delay
pub record IsLastBy (held : List Held) (c delay time : ℕ) (l : Held) : Type 0 where
  pub held_is : IsHeld held l
  pub class_is : l.spot.class ≡ c
  pub in_time : l.spot.time + delay ≤ time
  pub last : (k : Held) → IsHeld held k → k.spot.class ≡ c → k.spot.time + delay ≤ time → k.spot.time ≤ l.spot.time

-- a point of the class that comes by a time, with a delay
pub record IsPointBy (held : List Held) (c delay time : ℕ) (l : Held) : Type 0 where
  pub held_is : IsHeld held l
  pub class_is : l.spot.class ≡ c
  pub in_time : l.spot.time + delay ≤ time

-- a point that gets a gate. An exact one has the point's area; a shared one has only to come by the point's time.
pub record Site : Type 0 where
  pub point : Held
  pub exact : Bool

-- the net of an input that has the class of the point, and starts by its time; or else that of the point's gate, which
-- stands where the site does
abbrev pub IsNetOfPoint : Task → List Site → Bool → Held → ℕ → Type 0
IsNetOfPoint s sites exact h net =
    ((slice_get s.graph.leaves net ≡ Some h.spot.class) × (start_of (timing s).starts net ≤ h.spot.time))
    ⊎ (((i : ℕ) → slice_get s.graph.leaves i ≡ Some h.spot.class → ⊥) × (j : ℕ)
    × (slice_get sites j ≡ Some (record { point = h; exact = exact })) × (net ≡ length s.graph.leaves + j))

-- the net of a point of the class in time; for an exact use that of the last such point, which is exact too
pub record IsPinNet (s : Task) (held : List Held) (sites : List Site) (exact : Bool)
    (c delay time net : ℕ) : Type 0 where
  pub point : Held
  pub own : Bool
  pub by : IsPointBy held c delay time point
  pub net_of : IsNetOfPoint s sites own point net
  pub last : exact ≡ true → (own ≡ true) × IsLastBy held c delay time point

-- for each pin such a net of its class by the time, with the delay of the pin
abbrev pub HavePinNets : Task → List Held → List Site → Bool → ℕ → List ℕ → List ℕ → List ℕ → Type 0
HavePinNets s held sites exact time [] [] [] = Unit {0}
HavePinNets s held sites exact time (d ∷ ds) (p ∷ ps) (net ∷ nets) =
    IsPinNet s held sites exact p d time net × HavePinNets s held sites exact time ds ps nets
HavePinNets s held sites exact time _ _ _ = ⊥

-- the gate has the cell of the point's choice, and such nets at its pins
pub record IsGateOfPoint (s : Task) (choices : List Choice) (held : List Held) (sites : List Site) (site : Site)
    (g : Gate) : Type 0 where
  pub class : ℕ
  pub pins : List ℕ
  pub chosen : slice_get choices site.point.choice ≡ Some (record { class = class; part = gate g.cell pins })
  pub nets : HavePinNets s held sites site.exact site.point.spot.time (delays_of (timing s).delays g.cell) pins g.pins
