-- Cuts by which no search is cut.
use Rattle.std.specs.Prelude.{◌≡◌, []}
use Rattle.lw_bounds.specs.declared.cuts.Cuts.{Cuts}
use Rattle.lw_bounds.specs.Numbers.{no_reading}
use Rattle.lw_bounds.specs.Places.{AreRootsListed}
use Rattle.lw_bounds.specs.Cuts.{CutsState, cuts_state}

abbrev pub no_cuts : CutsState
no_cuts = record {
  sides = [];
  roots = [];
  width = 0;
  starts = [];
  numbers = [];
  gaps = [];
  height_sides = [];
  heights = no_reading;
}

-- they are these, and list the roots, of which there are none
pub record AreNoCuts (cuts : Cuts) : Type 0 where
  pub state : cuts_state cuts ≡ no_cuts
  pub listed : AreRootsListed cuts.roots.now cuts.leaf_roots.now cuts.row_roots.now cuts.other_roots.now
