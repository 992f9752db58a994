use Rattle.std.proofs.Common.{◌∙◌, ap, length}
use Rattle.std.specs.Prelude.{unwrap_or}
use Rattle.lw_facts.proofs.Lists.{position_or_length}
use Rattle.lw_mapped.specs.GateLines.{is_equals}
use Rattle.lw_mapped.proofs.ties.place_of_equals.Goals as goal

pub returns : goal.returns
returns c = c.unwrap_or.ensures ∙ (ap (λ o. unwrap_or o (length c.args.word.now)) c.first_equals.ensures ∙ position_or_length is_equals c.args.word.now)
