use Rattle.std.proofs.Common.{◌∙◌, ap, length}
use Rattle.std.specs.Prelude.{unwrap_or}
use Rattle.lw_facts.proofs.Lists.{position_or_length}
use Rattle.lw_fixed.specs.Decimals.{is_point}
use Rattle.lw_fixed.proofs.reading.place_of_point.Goals as goal

pub returns-clause-place : goal.returns-clause-place
returns-clause-place c = c.unwrap_or.ensures ∙ (ap (λ o. unwrap_or o (length c.args.bytes.now)) c.first_point.ensures ∙ position_or_length is_point c.args.bytes.now)
