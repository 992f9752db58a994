use Rattle.std.proofs.lemmas.Result.{err_from_is_err_and}
use Rattle.lw_map.specs.Options.{plain_options}
use Rattle.lw_top.specs.declared.refusal.Which.TheVariants as which
use Rattle.lw_top.specs.Words.{tabling}
use Rattle.lw_top.specs.Tables.{Tabulates}
use Rattle.lw_top.specs.Answers.{ReadsModel}
use Rattle.lw_top.proofs.Steps.{refused}
use Rattle.lw_top.proofs.AnswersGiven.{responds, file_refused, given_says, says_later, ends}
use Rattle.lw_top.proofs.answer.table_files.Goals as goal

pub returns-in_err-model : goal.returns-in_err-model
returns-in_err-model g c =
    let options = plain_options c.args.options in
    let p = err_from_is_err_and c.from_residual.result c.from_residual.ensures.1 in
    rw (p.1, p.2) (responds c.read_model.ensures.reads.files c.read_model.ensures.reads.later (file_refused _ _ _ (tabling c.args.leaves options c.args.network.now) which.Network _ c.in_err-model.ensures.reads.blames c.in_err-model.ensures.reads.not_words (tt, λ files is. tt)
    (refused _ (ReadsModel c.args.network.now) (λ model. Tabulates c.args.leaves options model) _ _ _ c.in_err-model.ensures.reads.reads)))

pub returns : goal.returns
returns g c =
    let options = plain_options c.args.options in
    responds c.read_model.ensures.reads.files c.read_model.ensures.reads.later (ends _ _ _ (tabling c.args.leaves options c.args.network.now) (Tabulates c.args.leaves options c.in_ok-model.model) c.table_model.result c.table_model.ensures
    (says_later _ (ReadsModel c.args.network.now) (λ model. Tabulates c.args.leaves options model) _ _ _ c.in_ok-model.model c.table_model.result c.read_model.ensures.reads.later c.in_ok-model.ensures.reads.reads
    (given_says _ (g.F.Shelf.faults c.read_model.new.shelf) (g.F.Shelf.faults c.read_model.new.shelf) (Tabulates c.args.leaves options c.in_ok-model.model) c.table_model.result c.table_model.ensures)))
