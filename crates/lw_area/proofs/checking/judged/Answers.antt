use Rattle.lw_area.specs.Plain.{plain_settings}
use Rattle.lw_area.proofs.Judging.{verdict_in}
use Rattle.lw_area.proofs.checking.judged.Goals as goal

pub check-verdict-requires-clause-model : goal.check-verdict-requires-clause-model
check-verdict-requires-clause-model c = c.requires.sources.model

pub check-verdict-requires-clause-joined : goal.check-verdict-requires-clause-joined
check-verdict-requires-clause-joined c = c.in-Ok.ensures.joined.joined

pub returns : goal.returns
returns c = λ files. verdict_in (plain_settings c.args.settings) c.args.sources.now c.in-Ok.joined c.in-Ok.ensures.joined c.args.mapped.now _ c.in_ok-verdict.ensures
