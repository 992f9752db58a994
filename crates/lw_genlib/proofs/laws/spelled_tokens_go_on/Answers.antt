use Rattle.lw_genlib.proofs.Onward.{spelled_goes_on}
use Rattle.lw_genlib.proofs.laws.spelled_tokens_go_on.Goals as goal

pub returns : goal.returns
returns c = spelled_goes_on
