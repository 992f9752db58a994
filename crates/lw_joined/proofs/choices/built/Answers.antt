use Rattle.lw_assoc.specs.Modes.{law_mode}
use Rattle.lw_assoc.specs.Splits.{numbered_splits}
use Rattle.lw_joined.proofs.MadeJoins.{no_limit}
use Rattle.lw_joined.proofs.choices.built.Goals as goal

pub unreachable-requires : goal.unreachable-requires
unreachable-requires c = no_limit c.in-Err.fault (numbered_splits (law_mode c.args.mode) c.args.forms.now) c.in-Limit.is c.in-Err.ensures.limit c.requires
