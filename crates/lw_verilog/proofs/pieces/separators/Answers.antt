use Rattle.std.proofs.Common.{length, ap, not, ◌∙◌}
use Rattle.std.specs.Prelude.{unwrap_or}
use Rattle.lw_facts.proofs.Lists.{position_or_length}
use Rattle.lw_verilog.specs.Pieces.{is_separator}
use Rattle.lw_verilog.proofs.pieces.separators.Goals as goal

pub returns : goal.returns
returns c = c.unwrap_or.ensures ∙ (ap (λ o. unwrap_or o (length c.args.bytes.now)) c.separators_end.ensures ∙ position_or_length (λ b. not (is_separator b)) c.args.bytes.now)
