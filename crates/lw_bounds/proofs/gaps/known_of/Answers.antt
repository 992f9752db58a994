use Rattle.lw_pattern.specs.Listed.{pattern_of}
use Rattle.lw_cost.proofs.PinCounts.{pins_few}
use Rattle.lw_bounds.proofs.CertifiedGaps.{certified_by}
use Rattle.lw_bounds.proofs.gaps.known_of.Goals as goal
use Rattle.lw_laws.proofs.Extracts.{listed_at}

pub known_by-requires : goal.known_by-requires
known_by-requires g c =
    let p = c.get-pattern.result.now in
    let few = pins_few (g.C.Cost.costs c.args.cost.now).pin_counts p c.as_slice.result.now c.pin_count-pins.result (c.requires.of_cells (pattern_of p) (listed_at c.args.pats.now c.args.pat.0 (pattern_of p) c.get-pattern.ensures.listed)) c.get-pattern.ensures.kept c.as_slice.ensures c.pin_count-pins.ensures in
    record { has = few.has }

pub returns : goal.returns
returns g c = λ top le.
    let costs = g.C.Cost.costs c.args.cost.now in
    let p = c.get-pattern.result.now in
    let few = pins_few costs.pin_counts p c.as_slice.result.now c.pin_count-pins.result (c.requires.of_cells (pattern_of p) (listed_at c.args.pats.now c.args.pat.0 (pattern_of p) c.get-pattern.ensures.listed)) c.get-pattern.ensures.kept c.as_slice.ensures c.pin_count-pins.ensures in
    certified_by costs c.args.pats.now c.args.gaps.now c.args.pat.0 (pattern_of p) c.pin_count-pins.result c.gaps_at-own.result.now top c.get-pattern.ensures.listed few.has c.gaps_at-own.ensures (c.known_by.ensures top le)
