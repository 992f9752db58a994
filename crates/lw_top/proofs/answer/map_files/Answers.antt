use Rattle.std.proofs.Common.{◌∙◌, arith}
use Rattle.std.proofs.lemmas.Result.{err_from_is_err_and}
use Rattle.lw_map.specs.Options.{plain_options}
use Rattle.lw_top.specs.declared.refusal.Which.TheVariants as which
use Rattle.lw_files.specs.Steps.{followed_by}
use Rattle.lw_top.specs.Words.{mapping}
use Rattle.lw_top.specs.Maps.{Maps}
use Rattle.lw_top.specs.Answers.{ReadsLibrary, ReadsModel}
use Rattle.lw_top.proofs.Steps.{refused, refused_later}
use Rattle.lw_top.proofs.AnswersGiven.{responds, file_refused, given_says, says_later, ends}
use Rattle.lw_top.proofs.answer.map_files.Goals as goal

pub returns-in_err-library : goal.returns-in_err-library
returns-in_err-library g c =
    let options = plain_options c.args.options in
    let p = err_from_is_err_and c.from_residual.result c.from_residual.ensures.1 in
    rw (p.1, p.2) (responds c.read_library.ensures.files c.read_library.ensures.later (file_refused _ _ _ (mapping options c.args.certified c.args.library.now c.args.network.now) which.Library _ c.in_err-library.ensures.blames c.in_err-library.ensures.not_words (tt, λ files is. tt)
    (refused _ (ReadsLibrary c.args.library.now) (λ cells. followed_by (ReadsModel c.args.network.now) (λ model. Maps options c.args.certified cells model)) _ _ _ c.in_err-library.ensures.reads)))

pub returns-in_err-model : goal.returns-in_err-model
returns-in_err-model g c =
    let options = plain_options c.args.options in
    let p = err_from_is_err_and c.from_residual-in_err-model.result c.from_residual-in_err-model.ensures.1 in
    rw (p.1, p.2) (responds (c.read_model.ensures.reads.files ∙ c.read_library.ensures.files) (omega (arith, c.read_library.ensures.later, c.read_model.ensures.reads.later)) (file_refused _ _ _ (mapping options c.args.certified c.args.library.now c.args.network.now) which.Network _ c.in_err-model.ensures.reads.blames c.in_err-model.ensures.reads.not_words (tt, λ files is. (c.in_ok-library.library, c.in_ok-library.ensures.reads files is))
    (refused_later _ (ReadsLibrary c.args.library.now) (λ cells. followed_by (ReadsModel c.args.network.now) (λ model. Maps options c.args.certified cells model)) _ _ _ c.in_ok-library.library _ c.read_library.ensures.later c.in_ok-library.ensures.reads
    (refused _ (ReadsModel c.args.network.now) (λ model. Maps options c.args.certified c.in_ok-library.library model) _ _ _ (rw (c.read_library.ensures.files) at c.in_err-model.ensures.reads.reads)))))

pub returns : goal.returns
returns g c =
    let options = plain_options c.args.options in
    responds (c.read_model.ensures.reads.files ∙ c.read_library.ensures.files) (omega (arith, c.read_library.ensures.later, c.read_model.ensures.reads.later)) (ends _ _ _ (mapping options c.args.certified c.args.library.now c.args.network.now) (Maps options c.args.certified c.in_ok-library.library c.in_ok-model.model) c.map_model.result c.map_model.ensures
    (says_later _ (ReadsLibrary c.args.library.now) (λ cells. followed_by (ReadsModel c.args.network.now) (λ model. Maps options c.args.certified cells model)) _ _ _ c.in_ok-library.library c.map_model.result c.read_library.ensures.later c.in_ok-library.ensures.reads
    (says_later _ (ReadsModel c.args.network.now) (λ model. Maps options c.args.certified c.in_ok-library.library model) _ _ _ c.in_ok-model.model c.map_model.result c.read_model.ensures.reads.later (rw (c.read_library.ensures.files) at c.in_ok-model.ensures.reads.reads)
    (given_says _ (g.F.Shelf.faults c.read_model.new.shelf) (g.F.Shelf.faults c.read_model.new.shelf) (Maps options c.args.certified c.in_ok-library.library c.in_ok-model.model) c.map_model.result c.map_model.ensures))))
