use Rattle.std.proofs.Common.{◌*◌, ◌+◌, length, refl}
use Rattle.std.proofs.lemmas.Result.{IfOk-from_err}
use Rattle.lw_assoc.proofs.Drafts.{bases_with_nands}
use Rattle.lw_assoc.proofs.Overlapping.{inverters_added, nands_by_inverter}
use Rattle.lw_assoc.proofs.overlaps.add_inverters.Goals as goal

pub returns-clause-so_far : goal.returns-clause-so_far
returns-clause-so_far c =
    inverters_added c.args.forms.now c.inputs.ensures.kept c.args.draft.now c.add_inverter.new.draft c.add_inverter-2.new.draft c.args.b c.requires.within c.in_ok-add_inverter.ensures c.in_ok-add_inverter-2.ensures c.requires.before

pub add_inverter-requires-clause-bases : goal.add_inverter-requires-clause-bases
add_inverter-requires-clause-bases c = c.requires.before.bases

pub add_inverter-requires-2-clause-bases : goal.add_inverter-requires-2-clause-bases
add_inverter-requires-2-clause-bases c =
    let forms = c.args.forms.now in
    let old = c.args.draft.now in
    let adds = nands_by_inverter (2 * c.args.b) old old c.add_inverter.new.draft (record { inputs = refl; samples = refl; links = refl }) c.in_ok-add_inverter.ensures in
    bases_with_nands forms (length forms.bases) old c.add_inverter.new.draft adds c.requires.before.bases

pub returns-clause-kept : goal.returns-clause-kept
returns-clause-kept c =
    let old = c.args.draft.now in
    let adds = nands_by_inverter (2 * c.args.b) old old c.add_inverter.new.draft (record { inputs = refl; samples = refl; links = refl }) c.in_ok-add_inverter.ensures in
    nands_by_inverter (2 * c.args.b + 1) old c.add_inverter.new.draft c.add_inverter-2.new.draft adds c.in_ok-add_inverter-2.ensures

pub returns-in_err-add_inverter-clause-so_far : goal.returns-in_err-add_inverter-clause-so_far
returns-in_err-add_inverter-clause-so_far c = IfOk-from_err _ _ c.from_residual.ensures.0

pub returns-in_err-add_inverter-clause-kept : goal.returns-in_err-add_inverter-clause-kept
returns-in_err-add_inverter-clause-kept c = IfOk-from_err _ _ c.from_residual.ensures.0
