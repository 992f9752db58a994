use Rattle.std.proofs.Common.{◌≤◌, length, sym, subst}
use Rattle.lw_words.specs.Limits.{most_bytes}
use Rattle.lw_verilog.proofs.Drafts.{draft-fits}
use Rattle.lw_verilog.proofs.reader.read_verilog.Goals as goal

pub close-requires : goal.close-requires
close-requires c = draft-fits c.args.lib.now c.as_slice.result.now c.parse.new.contents c.in-Ok.draft c.in_default.ensures.parsed (subst (λ b. length b ≤ most_bytes) (sym c.as_slice.ensures) c.requires) c.in-Ok.ensures
