use Rattle.std.proofs.Common.{ap, subst}
use Rattle.std.proofs.lemmas.Result.{err_from_is_err_and}
use Rattle.lw_map.specs.Options.{Options, plain_options}
use Rattle.lw_map.specs.Certified.{IsCertified}
use Rattle.lw_map.proofs.Drives.{choice_fault, cover_fault, is_certified}
use Rattle.lw_map.proofs.mapping.map.Goals as goal

pub returns-in_err-choices-clause-fault : goal.returns-in_err-choices-clause-fault
returns-in_err-choices-clause-fault c =
    let p = err_from_is_err_and c.from_residual.result c.from_residual.ensures.1 in
    let model = c.args.model.now in
    rw (p.1, p.2) (choice_fault (plain_options c.args.options) c.args.lib.now model.network model.starts _ c.in_err-choices.ensures.fault)

pub returns-in_err-mapping-clause-fault : goal.returns-in_err-mapping-clause-fault
returns-in_err-mapping-clause-fault c =
    let p = err_from_is_err_and c.from_residual-in_err-mapping.result c.from_residual-in_err-mapping.ensures.1 in
    let model = c.args.model.now in
    rw (p.1, p.2) (cover_fault (plain_options c.args.options) c.args.lib.now model.network model.starts c.in_ok-choices.choices (ap plain_options c.in_ok-choices.ensures.choices.0) _ c.in_err-mapping.ensures.fault)

pub returns-clause-certified : goal.returns-clause-certified
returns-clause-certified c =
    subst (λ (o : Options). IsCertified o c.args.certified c.args.lib.now c.args.model.now (record { netlist = c.in_ok-mapping.mapping.netlist; certificate = c.in-Ok.certificate })) (ap plain_options c.in_ok-choices.ensures.choices.0)
    (is_certified c.args.lib.now c.args.model.now c.in_ok-choices.choices c.in_ok-mapping.mapping c.in_ok-choices.ensures.choices.1 c.in_ok-mapping.ensures.mapping c.in_ok-mapping.ensures.over c.args.certified c.in-Ok.certificate c.in-Ok.ensures)
