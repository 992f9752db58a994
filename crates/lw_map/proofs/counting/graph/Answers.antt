use Rattle.std.proofs.Common.{ap}
use Rattle.lw_map.specs.Options.{plain_options}
use Rattle.lw_map.proofs.Drives.{counted}
use Rattle.lw_map.proofs.counting.graph.Goals as goal

pub returns-clause-counts : goal.returns-clause-counts
returns-clause-counts c =
    rw (c.classes-classes.ensures.classes, c.pair_total-pairs.ensures)
    (counted (plain_options c.args.options) c.args.net.now c.in_ok-choices.choices (ap plain_options c.in_ok-choices.ensures.choices.0) c.in_ok-choices.ensures.choices.1)
