-- Netlists that cover a network, whose outputs arrive by given times.
use Rattle.std.specs.Prelude.{ℕ, ◌≤◌, List, slice_index_or}
use Rattle.std.specs.List.{AllZip}
use Rattle.lw_laws.specs.Modes.{Mode}
use Rattle.lw_laws.specs.Networks.{Network}
use Rattle.lw_laws.specs.Signals.{sop_at, signals_of}
use Rattle.lw_laws.specs.Covers.{Timing, Pattern}
use Rattle.lw_laws.specs.Netlists.{Netlist, CellTruth, AreArrivals}
use Rattle.lw_laws.specs.Headline.{CoversForms, HasLeastArrival, Ports}

-- The netlist covers the sums of products of the network's nets, by the trees that the rules derive for them.
abbrev pub CoversNetwork : Mode → ℕ → Network → Ports → List Pattern → Timing → CellTruth → Netlist → Ports → Type 0
CoversNetwork mode width net ports pats timing truth n mapped =
    CoversForms mode width (signals_of width net) (sop_at (signals_of width net)) net ports pats timing truth n mapped

-- the least time of each output
abbrev pub AreLeastTimes : Mode → ℕ → Network → List Pattern → Timing → Ports → List ℕ → Type 0
AreLeastTimes mode width net pats timing ports times =
    AllZip (λ p d. HasLeastArrival mode width net pats timing p.net d) ports.outputs times

-- each output arrives by its time
abbrev pub ArriveBy : Timing → Netlist → Ports → List ℕ → Type 0
ArriveBy timing n mapped times =
    (ds : List ℕ) → AreArrivals timing n ds → AllZip (λ q t. slice_index_or ds q.net 0 ≤ t) mapped.outputs times
