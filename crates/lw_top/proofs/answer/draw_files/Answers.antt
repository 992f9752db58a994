use Rattle.std.proofs.lemmas.Result.{err_from_is_err_and}
use Rattle.lw_top.specs.declared.refusal.Which.TheVariants as which
use Rattle.lw_top.specs.Words.{drawing}
use Rattle.lw_top.specs.Counts.{Draws}
use Rattle.lw_top.specs.Answers.{ReadsLibrary}
use Rattle.lw_top.proofs.Steps.{refused}
use Rattle.lw_top.proofs.AnswersGiven.{responds, file_refused, given_says, says_later, ends}
use Rattle.lw_top.proofs.answer.draw_files.Goals as goal

pub returns-in_err-library : goal.returns-in_err-library
returns-in_err-library g c =
    let p = err_from_is_err_and c.from_residual.result c.from_residual.ensures.1 in
    rw (p.1, p.2) (responds c.read_library.ensures.files c.read_library.ensures.later (file_refused _ _ _ (drawing c.args.seed c.args.count c.args.library.now) which.Library _ c.in_err-library.ensures.blames c.in_err-library.ensures.not_words (tt, λ files is. tt)
    (refused _ (ReadsLibrary c.args.library.now) (λ cells. Draws c.args.seed c.args.count cells) _ _ _ c.in_err-library.ensures.reads)))

pub returns : goal.returns
returns g c =
    responds c.read_library.ensures.files c.read_library.ensures.later (ends _ _ _ (drawing c.args.seed c.args.count c.args.library.now) (Draws c.args.seed c.args.count c.in_ok-library.library) c.draw.result c.draw.ensures
    (says_later _ (ReadsLibrary c.args.library.now) (λ cells. Draws c.args.seed c.args.count cells) _ _ _ c.in_ok-library.library c.draw.result c.read_library.ensures.later c.in_ok-library.ensures.reads
    (given_says _ (g.F.Shelf.faults c.read_library.new.shelf) (g.F.Shelf.faults c.read_library.new.shelf) (Draws c.args.seed c.args.count c.in_ok-library.library) c.draw.result c.draw.ensures)))
