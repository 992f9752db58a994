use Rattle.lw_verilog.specs.Tokens.{tokens}
use Rattle.lw_verilog.proofs.Faulted.{derived-read}
use Rattle.lw_verilog.proofs.laws.derived_tokens_are_read.Goals as goal

pub returns : goal.returns
returns c = λ cells text count derived. derived-read cells (tokens text) count derived
