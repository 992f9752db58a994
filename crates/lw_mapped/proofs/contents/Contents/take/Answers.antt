use Rattle.std.proofs.Common.{sym, subst}
use Rattle.std.proofs.lemmas.Result.{err_from_is_err_and}
use Rattle.lw_mapped.specs.declared.saying.Saying.{Saying}
use Rattle.lw_mapped.specs.Parsed.{TellsFault}
use Rattle.lw_mapped.specs.LineFaults.{told_fault}
use Rattle.lw_mapped.proofs.KeepingLemmas.{told-net, told-again, again}
use Rattle.lw_mapped.proofs.contents.Contents.take.Goals as goal

pub returns-in-Net-clause-fault : goal.returns-in-Net-clause-fault
returns-in-Net-clause-fault c = λ before k.
    subst (λ (s : Saying). TellsFault c.take_net.result (told_fault before s)) (sym c.in-Net.is)
    (told-net c.args.self.now before c.in-Net.name c.in-Net.class c.take_net.result k c.take_net.ensures.fault)

pub returns-in_err-add-in_default-clause-fault : goal.returns-in_err-add-in_default-clause-fault
returns-in_err-add-in_default-clause-fault c =
    let p = err_from_is_err_and c.from_residual.result c.from_residual.ensures.1 in
    λ before k. rw (p.1, p.2) tt

pub returns-in_err-add-in_default-clause-takes : goal.returns-in_err-add-in_default-clause-takes
returns-in_err-add-in_default-clause-takes c = rw (err_from_is_err_and c.from_residual.result c.from_residual.ensures.1).1 tt

pub returns-in_ok-add-in_default-clause-fault : goal.returns-in_ok-add-in_default-clause-fault
returns-in_ok-add-in_default-clause-fault c = λ before k. told-again before c.args.saying (again c.args.saying c.in_default.not-Label c.in_default.not-Net)

pub returns-in_ok-add-in_default-clause-takes : goal.returns-in_ok-add-in_default-clause-takes
returns-in_ok-add-in_default-clause-takes c = c.in_ok-add-in_default.ensures (again c.args.saying c.in_default.not-Label c.in_default.not-Net)
