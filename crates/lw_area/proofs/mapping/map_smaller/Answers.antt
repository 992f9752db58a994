use Rattle.std.proofs.Common.{refl}
use Rattle.std.proofs.lemmas.Result.{err_from_is_err_and}
use Rattle.lw_area.specs.Plain.{plain_settings}
use Rattle.lw_area.proofs.Made.{choice_fault, cover_fault, made_given}
use Rattle.lw_area.proofs.mapping.map_smaller.Goals as goal

pub returns-in_err-joined-clause-fault : goal.returns-in_err-joined-clause-fault
returns-in_err-joined-clause-fault g c =
    let p = err_from_is_err_and c.from_residual.result c.from_residual.ensures.1 in
    rw (p.1, p.2) (choice_fault (plain_settings c.args.settings) c.args.sources.now _ c.in_err-joined.ensures.fault)

pub returns-in_err-mapped-clause-fault : goal.returns-in_err-mapped-clause-fault
returns-in_err-mapped-clause-fault g c =
    let p = err_from_is_err_and c.from_residual-in_err-mapped.result c.from_residual-in_err-mapped.ensures.1 in
    rw (p.1, p.2) (cover_fault (plain_settings c.args.settings) c.args.sources.now c.in_ok-joined.joined c.in_ok-joined.ensures.joined _ c.in_err-mapped.ensures.fault)

pub returns-clause-made : goal.returns-clause-made
returns-clause-made g c =
    made_given (plain_settings c.args.settings) c.args.sources.now c.in_ok-joined.joined c.in_ok-joined.ensures.joined c.requires c.in_ok-mapped.mapped c.in_ok-mapped.ensures.made _ refl
