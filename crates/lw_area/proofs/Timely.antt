-- Netlists that cover forms, and when their outputs arrive.
use Rattle.std.proofs.Common.{ℕ, ◌≤◌, List, [], ◌∷◌, slice_index_or, arith}
use Rattle.std.specs.List.{AllZip}
use Rattle.lw_laws.specs.Modes.{Mode}
use Rattle.lw_laws.specs.Networks.{Network}
use Rattle.lw_laws.specs.Forms.{Form}
use Rattle.lw_laws.specs.Signals.{Signal}
use Rattle.lw_laws.specs.Covers.{Pattern, Timing}
use Rattle.lw_laws.specs.Netlists.{CellTruth, Netlist}
use Rattle.lw_laws.specs.Headline.{CoversForms, HasLeastTime, MapsForms, Port, Ports, StandsForCoverOf}
use Rattle.lw_laws.specs.InTime.{ArriveBy}
use Rattle.lw_laws.proofs.Mapping.{timely_is_least}
use Rattle.lw_laws.proofs.NetlistOnce.{least_time_once}

module _ (mode : Mode) (width : ℕ) (signals : List Signal) (form : ℕ → Form) (pats : List Pattern) (timing : Timing) (n : Netlist) where
  abbrev pub AreLeast : List Port → List ℕ → Type 0
  AreLeast ports times = AllZip (λ p d. HasLeastTime mode width signals pats timing (form p.net) d) ports times

  module _ (net : Network) (truth : CellTruth) (ports mapped : Ports) where
    -- a cover in time maps the forms
    pub timely_maps : (times : List ℕ) → CoversForms mode width signals form net ports pats timing truth n mapped → AreLeast ports.outputs times → ArriveBy timing n mapped times → MapsForms mode width signals form net ports pats timing truth n mapped
    timely_maps times covering least by = record {
      covering = covering;
      arrivals = λ ds are. beside ds ports.outputs mapped.outputs times (covering.covers ds are) least (by ds are);
    }
      where
        beside : (ds : List ℕ) (ps qs : List Port) (ts : List ℕ) → AllZip (λ p q. StandsForCoverOf mode width signals pats timing n (form p.net) q.net (slice_index_or ds q.net 0)) ps qs → AreLeast ps ts → AllZip (λ q t. slice_index_or ds q.net 0 ≤ t) qs ts → AllZip (λ p q. HasLeastTime mode width signals pats timing (form p.net) (slice_index_or ds q.net 0)) ps qs
        beside ds [] [] ts a b c = tt
        beside ds [] (q ∷ qs) ts a b c = absurd a
        beside ds (p ∷ ps) [] ts a b c = absurd a
        beside ds (p ∷ ps) (q ∷ qs) [] a b c = absurd b
        beside ds (p ∷ ps) (q ∷ qs) (t ∷ ts) (s, a) (l, b) (le, c) = (timely_is_least mode width signals pats timing n (form p.net) q.net (slice_index_or ds q.net 0) t s l le, beside ds ps qs ts a b c)

    -- and what maps them arrives by any later times
    pub maps_by : (least times : List ℕ) → MapsForms mode width signals form net ports pats timing truth n mapped → AreLeast ports.outputs least → AllZip (λ (l t : ℕ). l ≤ t) least times → ArriveBy timing n mapped times
    maps_by least times is are late ds arrive = beside ports.outputs mapped.outputs least times (is.arrivals ds arrive) are late
      where
        beside : (ps qs : List Port) (ls ts : List ℕ) → AllZip (λ p q. HasLeastTime mode width signals pats timing (form p.net) (slice_index_or ds q.net 0)) ps qs → AreLeast ps ls → AllZip (λ (l t : ℕ). l ≤ t) ls ts → AllZip (λ q t. slice_index_or ds q.net 0 ≤ t) qs ts
        beside [] [] [] [] a b c = tt
        beside [] [] [] (t ∷ ts) a b c = absurd c
        beside [] [] (l ∷ ls) ts a b c = absurd b
        beside [] (q ∷ qs) ls ts a b c = absurd a
        beside (p ∷ ps) [] ls ts a b c = absurd a
        beside (p ∷ ps) (q ∷ qs) [] ts a b c = absurd b
        beside (p ∷ ps) (q ∷ qs) (l ∷ ls) [] a b c = absurd c
        beside (p ∷ ps) (q ∷ qs) (l ∷ ls) (t ∷ ts) (x, a) (y, b) (le, c) =
            let same = least_time_once mode width signals pats timing (form p.net) (slice_index_or ds q.net 0) l x y in
            (omega (arith, same, le), beside ps qs ls ts a b c)
