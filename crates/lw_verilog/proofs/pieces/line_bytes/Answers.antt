use Rattle.std.proofs.Common.{length, ap, ◌∙◌}
use Rattle.std.specs.Prelude.{unwrap_or}
use Rattle.lw_facts.proofs.Lists.{position_or_length}
use Rattle.lw_verilog.proofs.pieces.line_bytes.Goals as goal
use Rattle.lw_words.specs.Lines.{is_line_feed}

pub returns : goal.returns
returns c = c.unwrap_or.ensures ∙ (ap (λ o. unwrap_or o (length c.args.bytes.now)) c.line_bytes_end.ensures ∙ position_or_length (is_line_feed) c.args.bytes.now)
