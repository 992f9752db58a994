use Rattle.std.proofs.Common.{◌∙◌, arith}
use Rattle.std.proofs.lemmas.Result.{err_from_is_err_and}
use Rattle.lw_top.specs.declared.refusal.Which.TheVariants as which
use Rattle.lw_files.specs.Steps.{followed_by}
use Rattle.lw_top.specs.Words.{simulation}
use Rattle.lw_top.specs.Reports.{Simulates}
use Rattle.lw_top.specs.Answers.{ReadsModel, ReadsVectors}
use Rattle.lw_top.specs.Named.{values_in}
use Rattle.lw_top.proofs.Steps.{refused, refused_later}
use Rattle.lw_top.proofs.AnswersGiven.{responds, file_refused, given_says, says_later, ends}
use Rattle.lw_top.proofs.answer.simulate_files.Goals as goal

pub returns-in_err-model : goal.returns-in_err-model
returns-in_err-model g c =
    let p = err_from_is_err_and c.from_residual.result c.from_residual.ensures.1 in
    rw (p.1, p.2) (responds c.read_model.ensures.reads.files c.read_model.ensures.reads.later (file_refused _ _ _ (simulation c.args.network.now c.args.vectors.now) which.Network _ c.in_err-model.ensures.reads.blames c.in_err-model.ensures.reads.not_words (tt, λ files is. tt)
    (refused _ (ReadsModel c.args.network.now) (λ model. followed_by (ReadsVectors c.args.vectors.now model.network.inputs) (λ xs. Simulates model xs)) _ _ _ c.in_err-model.ensures.reads.reads)))

pub returns-in_err-vectors : goal.returns-in_err-vectors
returns-in_err-vectors g c =
    let p = err_from_is_err_and c.from_residual-in_err-vectors.result c.from_residual-in_err-vectors.ensures.1 in
    rw (p.1, p.2) (responds (c.read_vectors.ensures.reads.files ∙ c.read_model.ensures.reads.files) (omega (arith, c.read_model.ensures.reads.later, c.read_vectors.ensures.reads.later)) (file_refused _ _ _ (simulation c.args.network.now c.args.vectors.now) which.Vectors _ c.in_err-vectors.ensures.reads.blames c.in_err-vectors.ensures.reads.not_words (tt, λ files is. (c.in_ok-model.model, c.in_ok-model.ensures.reads.reads files is))
    (refused_later _ (ReadsModel c.args.network.now) (λ model. followed_by (ReadsVectors c.args.vectors.now model.network.inputs) (λ xs. Simulates model xs)) _ _ _ c.in_ok-model.model _ c.read_model.ensures.reads.later c.in_ok-model.ensures.reads.reads
    (refused _ (ReadsVectors c.args.vectors.now c.in_ok-model.model.network.inputs) (λ xs. Simulates c.in_ok-model.model xs) _ _ _ (rw (c.read_model.ensures.reads.files, c.inputs.ensures.inputs) at c.in_err-vectors.ensures.reads.reads)))))

pub returns : goal.returns
returns g c =
    responds (c.read_vectors.ensures.reads.files ∙ c.read_model.ensures.reads.files) (omega (arith, c.read_model.ensures.reads.later, c.read_vectors.ensures.reads.later)) (ends _ _ _ (simulation c.args.network.now c.args.vectors.now) (Simulates c.in_ok-model.model (values_in c.in_ok-vectors.vectors)) c.simulate.result c.simulate.ensures
    (says_later _ (ReadsModel c.args.network.now) (λ model. followed_by (ReadsVectors c.args.vectors.now model.network.inputs) (λ xs. Simulates model xs)) _ _ _ c.in_ok-model.model c.simulate.result c.read_model.ensures.reads.later c.in_ok-model.ensures.reads.reads
    (says_later _ (ReadsVectors c.args.vectors.now c.in_ok-model.model.network.inputs) (λ xs. Simulates c.in_ok-model.model xs) _ _ _ (values_in c.in_ok-vectors.vectors) c.simulate.result c.read_vectors.ensures.reads.later (rw (c.read_model.ensures.reads.files, c.inputs.ensures.inputs) at c.in_ok-vectors.ensures.reads.reads)
    (given_says _ (g.F.Shelf.faults c.read_vectors.new.shelf) (g.F.Shelf.faults c.read_vectors.new.shelf) (Simulates c.in_ok-model.model (values_in c.in_ok-vectors.vectors)) c.simulate.result c.simulate.ensures))))
