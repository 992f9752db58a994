use Rattle.lw_mapped.proofs.SaidNames.{read-named}
use Rattle.lw_mapped.proofs.laws.read_netlists_have_names.Goals as goal

pub returns : goal.returns
returns c = λ cells text mapped comes. read-named cells text mapped comes
