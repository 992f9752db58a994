use Rattle.lw_mapped.proofs.ReadKept.{read-certificate, read-few, read-mapped, read-netlist, read-over, read-trimmed}
use Rattle.lw_mapped.proofs.laws.read_netlists_are_kept.Goals as goal

pub returns-clause-netlist : goal.returns-clause-netlist
returns-clause-netlist c = λ cells lines mapped few comes. read-netlist cells lines mapped comes few

pub returns-clause-over : goal.returns-clause-over
returns-clause-over c = λ cells lines mapped comes. read-over cells lines mapped comes

pub returns-clause-gates : goal.returns-clause-gates
returns-clause-gates c = λ cells lines mapped lib comes. read-few cells lines mapped comes lib

pub returns-clause-certificate : goal.returns-clause-certificate
returns-clause-certificate c = λ cells lines mapped comes. read-certificate cells lines mapped comes

pub returns-clause-fits : goal.returns-clause-fits
returns-clause-fits c = λ cells lines mapped comes few. read-mapped cells lines mapped comes few

pub returns-clause-trimmed : goal.returns-clause-trimmed
returns-clause-trimmed c = λ cells lines mapped comes. read-trimmed cells lines mapped comes
