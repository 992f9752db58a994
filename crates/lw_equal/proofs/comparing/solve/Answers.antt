use Rattle.std.proofs.Common.{◌∙◌, sym}
use Rattle.lw_equal.proofs.Paired.{all_left, some_pairs}
use Rattle.lw_equal.proofs.comparing.solve.Goals as goal

pub returns-then-inputs-gt-MOST_INPUTS : goal.returns-then-inputs-gt-MOST_INPUTS
returns-then-inputs-gt-MOST_INPUTS c =
    let pairs = c.args.pairs.now in
    let some = some_pairs pairs (sym c.is_empty.ensures ∙ c.if-is_empty.false) in
    all_left c.args.one.now.side.now c.args.other.now pairs c.in_ok-all_open.field-0 c.requires.pairs some c.in_ok-all_open.ensures
