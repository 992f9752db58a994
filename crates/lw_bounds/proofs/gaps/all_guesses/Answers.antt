use Rattle.lw_pattern.specs.Listed.{pattern_of}
use Rattle.lw_cost.proofs.PinCounts.{pins_few}
use Rattle.lw_bounds.proofs.gaps.all_guesses.Goals as goal
use Rattle.lw_laws.proofs.Extracts.{listed_at}

pub guesses-gaps-requires : goal.guesses-gaps-requires
guesses-gaps-requires g c =
    let p = c.get-pattern.result.now in
    pins_few (g.C.Cost.costs c.args.cost.now).pin_counts p c.as_slice.result.now c.pin_count.result (c.requires (pattern_of p) (listed_at c.args.pats.now c.loop-number.number (pattern_of p) c.get-pattern.ensures.listed)) c.get-pattern.ensures.kept c.as_slice.ensures c.pin_count.ensures
