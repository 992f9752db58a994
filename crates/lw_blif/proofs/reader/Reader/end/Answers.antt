use Rattle.lw_blif.proofs.StandingFor.{some-parts}
use Rattle.lw_blif.proofs.reader.Reader.end.Goals as goal

pub close-requires : goal.close-requires
close-requires c = some-parts _ _ _ c.args.self.parts c.in_default.is c.args.self.kept
