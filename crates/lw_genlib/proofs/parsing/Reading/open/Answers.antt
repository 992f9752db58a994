use Rattle.std.proofs.Common.{[], refl}
use Rattle.lw_genlib.proofs.Taking.{open_taken}
use Rattle.lw_genlib.proofs.parsing.Reading.open.Goals as goal

pub returns : goal.returns
returns c = open_taken [] c.args.self.now _ c.in_ok-push.ensures.items c.new-self.ensures refl
