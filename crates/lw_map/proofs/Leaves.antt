-- No cover of an input's class is earlier than the input.
use Rattle.std.proofs.Common.{ℕ, ◌≤◌, ◌≡◌, List, length, map, Some, slice_get, refl, arith}
use Rattle.lw_laws.specs.Modes.{Mode}
use Rattle.lw_laws.specs.Networks.{Network}
use Rattle.lw_laws.specs.Listings.{listing_of}
use Rattle.lw_laws.specs.Graphs.{Graph}
use Rattle.lw_laws.specs.Classes.{IsGraphOf}
use Rattle.lw_laws.specs.Covers.{Timing, Pattern, ArePatterns, tree_of}
use Rattle.lw_laws.specs.Covers.Cover.{wire}
use Rattle.lw_laws.specs.Delays.{delay_cost}
use Rattle.lw_laws.specs.Matches.{IsLeastCover}
use Rattle.lw_laws.proofs.Delays.{cost_of-time}
use Rattle.lw_laws.proofs.InputLabels.{start_before, input_leaf}

pub start_is_least : (mode : Mode) (width : ℕ) (net : Network) (g : Graph) → 2 ≤ width → IsGraphOf mode net.inputs (listing_of width net) g → (pats : List Pattern) (timing : Timing) (cap : ℕ) → ArePatterns (map length timing.delays) pats → (i c : ℕ) → slice_get g.leaves i ≡ Some c → IsLeastCover g pats (delay_cost timing cap) c (Some ((delay_cost timing cap).leaf i))
start_is_least mode width net g wide is pats timing cap patterns i c at = (
  (wire i, tt, at, refl),
  λ k is_cover u.
      let after = start_before timing pats patterns i k is_cover (input_leaf mode width net g wide is i c (tree_of k) at u) in
      let cut = cost_of-time timing cap k in
      omega (arith, after, cut),
)
