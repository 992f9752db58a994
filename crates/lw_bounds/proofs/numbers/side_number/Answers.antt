use Rattle.std.proofs.Common.{◌<◌, length, sym, subst}
use Rattle.lw_bounds.proofs.Lessening.{below_within}
use Rattle.lw_bounds.proofs.numbers.side_number.Goals as goal

pub kind_number-requires-clause-class : goal.kind_number-requires-clause-class
kind_number-requires-clause-class c =
    subst (λ n. n < length c.args.at.marks.now) (sym c.class_below.ensures) (below_within (length c.args.at.marks.now) c.args.side c.args.class.0 c.requires.reading.even c.requires.class)
