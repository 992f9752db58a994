use Rattle.lw_area.proofs.Cases.{made_of}
use Rattle.lw_area.proofs.recovering.Case.certified.Goals as goal

pub returns : goal.returns
returns c = made_of c.args.self.now c.requires.case c.in_ok-cover.cover c.in_ok-cover.ensures c.in_ok-certificate.certificate c.in_ok-certificate.ensures
