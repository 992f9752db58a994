use Rattle.lw_verilog.specs.Tokens.{tokens}
use Rattle.lw_verilog.proofs.ReadRuns.{read-derived}
use Rattle.lw_verilog.proofs.laws.read_tokens_are_derived.Goals as goal

pub returns : goal.returns
returns c = λ cells text r e done. read-derived cells (tokens text) r e done
