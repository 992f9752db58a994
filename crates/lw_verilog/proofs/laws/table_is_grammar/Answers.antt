use Rattle.lw_verilog.proofs.Accepted.{accepted-derived}
use Rattle.lw_verilog.proofs.Derived.{derived-accepted}
use Rattle.lw_verilog.proofs.laws.table_is_grammar.Goals as goal

pub returns : goal.returns
returns c = λ tokens. (accepted-derived tokens, derived-accepted tokens)
