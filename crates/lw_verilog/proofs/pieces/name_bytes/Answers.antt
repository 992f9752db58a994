use Rattle.std.proofs.Common.{length, ap, not, ◌∙◌}
use Rattle.std.specs.Prelude.{unwrap_or}
use Rattle.lw_facts.proofs.Lists.{position_or_length}
use Rattle.lw_verilog.specs.Pieces.{is_name_byte}
use Rattle.lw_verilog.proofs.pieces.name_bytes.Goals as goal

pub returns : goal.returns
returns c = c.unwrap_or.ensures ∙ (ap (λ o. unwrap_or o (length c.args.bytes.now)) c.name_bytes_end.ensures ∙ position_or_length (λ b. not (is_name_byte b)) c.args.bytes.now)
