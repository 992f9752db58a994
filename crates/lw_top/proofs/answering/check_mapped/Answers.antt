use Rattle.std.proofs.Common.{List, Err, subst}
use Rattle.lw_check.specs.declared.verdict.Verdict.{Verdict}
use Rattle.lw_genlib.specs.Cells.{CellParts}
use Rattle.lw_blif.specs.declared.parsed.Parsed.{Parsed}
use Rattle.lw_mapped.specs.declared.closing.Mapped.{Mapped}
use Rattle.lw_map.specs.Options.{Options, plain_options}
use Rattle.lw_files.specs.Steps.{Files}
use Rattle.lw_top.specs.declared.refusal.Refusal.{Refusal}
use Rattle.lw_top.specs.declared.refusal.Refusal.TheVariants.{Forms, Splits}
use Rattle.lw_top.specs.Checks.{Checks, HasVerdict}
use Rattle.lw_top.specs.Maps.{LacksGraph}
use Rattle.lw_top.proofs.Giving.{choice_refused}
use Rattle.lw_top.proofs.answering.check_mapped.Goals as goal

-- a check without a graph lacks it
check_lack : (options : Options) (cells : List CellParts) (model : Parsed) (mapped : Mapped) (files : Files) (r : Refusal) → LacksGraph options model.network r → Checks options cells model mapped files (Err r)
check_lack options cells model mapped files Forms m = m
check_lack options cells model mapped files Splits m = m
check_lack options cells model mapped files other m = absurd m

pub check-requires-clause-over : goal.check-requires-clause-over
check-requires-clause-over c = c.requires.mapped.over

pub check-requires-clause-fits : goal.check-requires-clause-fits
check-requires-clause-fits c = c.requires.mapped.fits

pub check-requires-clause-few : goal.check-requires-clause-few
check-requires-clause-few c = c.requires.mapped.few

pub returns-in-Err : goal.returns-in-Err
returns-in-Err c =
    let options = plain_options c.args.options in
    let model = c.args.model.now in
    rw c.of_map.ensures (choice_refused (Checks options c.args.library.now model c.args.mapped.now) options model.network (check_lack options c.args.library.now model c.args.mapped.now) c.in-Err.fault c.in-Err.ensures.fault)

pub returns-in-Yes : goal.returns-in-Yes
returns-in-Yes c = (λ text files says. (says, subst (λ (v : Verdict). HasVerdict (plain_options c.args.options) c.args.library.now c.args.model.now c.args.mapped.now v) c.in-Yes.is c.in-Ok.ensures.verdict), tt)

pub returns-in-No : goal.returns-in-No
returns-in-No c = λ files. subst (λ (v : Verdict). HasVerdict (plain_options c.args.options) c.args.library.now c.args.model.now c.args.mapped.now v) c.in-No.is c.in-Ok.ensures.verdict
