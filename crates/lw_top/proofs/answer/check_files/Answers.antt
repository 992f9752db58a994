use Rattle.std.proofs.Common.{◌∙◌, arith}
use Rattle.std.proofs.lemmas.Result.{err_from_is_err_and}
use Rattle.lw_map.specs.Options.{plain_options}
use Rattle.lw_top.specs.declared.refusal.Which.TheVariants as which
use Rattle.lw_files.specs.Steps.{followed_by}
use Rattle.lw_top.specs.Words.{checking}
use Rattle.lw_top.specs.Checks.{Checks}
use Rattle.lw_top.specs.Answers.{ReadsLibrary, ReadsModel, ReadsMapped}
use Rattle.lw_top.proofs.Steps.{refused, refused_later}
use Rattle.lw_top.proofs.AnswersGiven.{responds, file_refused, given_says, says_later, ends}
use Rattle.lw_top.proofs.answer.check_files.Goals as goal

pub returns-in_err-library : goal.returns-in_err-library
returns-in_err-library g c =
    let options = plain_options c.args.options in
    let p = err_from_is_err_and c.from_residual.result c.from_residual.ensures.1 in
    rw (p.1, p.2) (responds c.read_library.ensures.files c.read_library.ensures.later (file_refused _ _ _ (checking options c.args.library.now c.args.network.now c.args.mapped.now) which.Library _ c.in_err-library.ensures.blames c.in_err-library.ensures.not_words (tt, λ files is. tt)
    (refused _ (ReadsLibrary c.args.library.now) (λ cells. followed_by (ReadsModel c.args.network.now) (λ model. followed_by (ReadsMapped c.args.mapped.now cells) (λ m. Checks options cells model m))) _ _ _ c.in_err-library.ensures.reads)))

pub returns-in-Err : goal.returns-in-Err
returns-in-Err g c =
    let options = plain_options c.args.options in
    responds (c.read_model.ensures.reads.files ∙ c.read_library.ensures.files) (omega (arith, c.read_library.ensures.later, c.read_model.ensures.reads.later)) (file_refused _ _ _ (checking options c.args.library.now c.args.network.now c.args.mapped.now) which.Network _ c.in-Err.ensures.reads.blames c.in-Err.ensures.reads.not_words (tt, λ files is. (c.in_ok-library.library, c.in_ok-library.ensures.reads files is))
    (refused_later _ (ReadsLibrary c.args.library.now) (λ cells. followed_by (ReadsModel c.args.network.now) (λ model. followed_by (ReadsMapped c.args.mapped.now cells) (λ m. Checks options cells model m))) _ _ _ c.in_ok-library.library _ c.read_library.ensures.later c.in_ok-library.ensures.reads
    (refused _ (ReadsModel c.args.network.now) (λ model. followed_by (ReadsMapped c.args.mapped.now c.in_ok-library.library) (λ m. Checks options c.in_ok-library.library model m)) _ _ _ (rw (c.read_library.ensures.files) at c.in-Err.ensures.reads.reads))))

pub returns-in-Err-read_mapped : goal.returns-in-Err-read_mapped
returns-in-Err-read_mapped g c =
    let options = plain_options c.args.options in
    responds (c.read_mapped.ensures.reads.files ∙ c.read_model.ensures.reads.files ∙ c.read_library.ensures.files) (omega (arith, c.read_library.ensures.later, c.read_model.ensures.reads.later, c.read_mapped.ensures.reads.later)) (file_refused _ _ _ (checking options c.args.library.now c.args.network.now c.args.mapped.now) which.Mapped _ c.in-Err-read_mapped.ensures.reads.blames c.in-Err-read_mapped.ensures.reads.not_words (tt, λ files is. ((c.in_ok-library.library, c.in_ok-library.ensures.reads files is), (c.in-Ok.model, (rw (c.read_library.ensures.files) at c.in-Ok.ensures.reads.reads) files is)))
    (refused_later _ (ReadsLibrary c.args.library.now) (λ cells. followed_by (ReadsModel c.args.network.now) (λ model. followed_by (ReadsMapped c.args.mapped.now cells) (λ m. Checks options cells model m))) _ _ _ c.in_ok-library.library _ c.read_library.ensures.later c.in_ok-library.ensures.reads
    (refused_later _ (ReadsModel c.args.network.now) (λ model. followed_by (ReadsMapped c.args.mapped.now c.in_ok-library.library) (λ m. Checks options c.in_ok-library.library model m)) _ _ _ c.in-Ok.model _ c.read_model.ensures.reads.later (rw (c.read_library.ensures.files) at c.in-Ok.ensures.reads.reads)
    (refused _ (ReadsMapped c.args.mapped.now c.in_ok-library.library) (λ m. Checks options c.in_ok-library.library c.in-Ok.model m) _ _ _ (rw (c.read_model.ensures.reads.files ∙ c.read_library.ensures.files) at c.in-Err-read_mapped.ensures.reads.reads)))))

pub returns : goal.returns
returns g c =
    let options = plain_options c.args.options in
    responds (c.read_mapped.ensures.reads.files ∙ c.read_model.ensures.reads.files ∙ c.read_library.ensures.files) (omega (arith, c.read_library.ensures.later, c.read_model.ensures.reads.later, c.read_mapped.ensures.reads.later)) (ends _ _ _ (checking options c.args.library.now c.args.network.now c.args.mapped.now) (Checks options c.in_ok-library.library c.in-Ok.model c.in-Ok-read_mapped.mapped) c.check_mapped-answer.result c.check_mapped-answer.ensures
    (says_later _ (ReadsLibrary c.args.library.now) (λ cells. followed_by (ReadsModel c.args.network.now) (λ model. followed_by (ReadsMapped c.args.mapped.now cells) (λ m. Checks options cells model m))) _ _ _ c.in_ok-library.library c.check_mapped-answer.result c.read_library.ensures.later c.in_ok-library.ensures.reads
    (says_later _ (ReadsModel c.args.network.now) (λ model. followed_by (ReadsMapped c.args.mapped.now c.in_ok-library.library) (λ m. Checks options c.in_ok-library.library model m)) _ _ _ c.in-Ok.model c.check_mapped-answer.result c.read_model.ensures.reads.later (rw (c.read_library.ensures.files) at c.in-Ok.ensures.reads.reads)
    (says_later _ (ReadsMapped c.args.mapped.now c.in_ok-library.library) (λ m. Checks options c.in_ok-library.library c.in-Ok.model m) _ _ _ c.in-Ok-read_mapped.mapped c.check_mapped-answer.result c.read_mapped.ensures.reads.later (rw (c.read_model.ensures.reads.files ∙ c.read_library.ensures.files) at c.in-Ok-read_mapped.ensures.reads.reads)
    (given_says _ (g.F.Shelf.faults c.read_mapped.new.shelf) (g.F.Shelf.faults c.read_mapped.new.shelf) (Checks options c.in_ok-library.library c.in-Ok.model c.in-Ok-read_mapped.mapped) c.check_mapped-answer.result c.check_mapped-answer.ensures)))))
