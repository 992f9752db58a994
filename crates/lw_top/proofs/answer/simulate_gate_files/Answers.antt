use Rattle.std.proofs.Common.{◌∙◌, arith}
use Rattle.std.proofs.lemmas.Result.{err_from_is_err_and}
use Rattle.lw_top.specs.declared.refusal.Which.TheVariants as which
use Rattle.lw_files.specs.Steps.{followed_by}
use Rattle.lw_top.specs.Words.{gate_simulation}
use Rattle.lw_top.specs.Reports.{SimulatesNetlist}
use Rattle.lw_top.specs.Answers.{ReadsLibrary, ReadsMapped, ReadsVectors}
use Rattle.lw_top.specs.Named.{values_in}
use Rattle.lw_top.proofs.Steps.{refused, refused_later}
use Rattle.lw_top.proofs.AnswersGiven.{responds, file_refused, given_says, says_later, ends}
use Rattle.lw_top.proofs.answer.simulate_gate_files.Goals as goal

pub returns-in_err-library : goal.returns-in_err-library
returns-in_err-library g c =
    let p = err_from_is_err_and c.from_residual.result c.from_residual.ensures.1 in
    rw (p.1, p.2) (responds c.read_library.ensures.files c.read_library.ensures.later (file_refused _ _ _ (gate_simulation c.args.library.now c.args.mapped.now c.args.vectors.now) which.Library _ c.in_err-library.ensures.blames c.in_err-library.ensures.not_words (tt, λ files is. tt)
    (refused _ (ReadsLibrary c.args.library.now) (λ cells. followed_by (ReadsMapped c.args.mapped.now cells) (λ m. followed_by (ReadsVectors c.args.vectors.now m.netlist.inputs) (λ xs. SimulatesNetlist cells m.netlist xs))) _ _ _ c.in_err-library.ensures.reads)))

pub returns-in-Err : goal.returns-in-Err
returns-in-Err g c =
    responds (c.read_mapped.ensures.reads.files ∙ c.read_library.ensures.files) (omega (arith, c.read_library.ensures.later, c.read_mapped.ensures.reads.later)) (file_refused _ _ _ (gate_simulation c.args.library.now c.args.mapped.now c.args.vectors.now) which.Mapped _ c.in-Err.ensures.reads.blames c.in-Err.ensures.reads.not_words (tt, λ files is. (c.in_ok-library.library, c.in_ok-library.ensures.reads files is))
    (refused_later _ (ReadsLibrary c.args.library.now) (λ cells. followed_by (ReadsMapped c.args.mapped.now cells) (λ m. followed_by (ReadsVectors c.args.vectors.now m.netlist.inputs) (λ xs. SimulatesNetlist cells m.netlist xs))) _ _ _ c.in_ok-library.library _ c.read_library.ensures.later c.in_ok-library.ensures.reads
    (refused _ (ReadsMapped c.args.mapped.now c.in_ok-library.library) (λ m. followed_by (ReadsVectors c.args.vectors.now m.netlist.inputs) (λ xs. SimulatesNetlist c.in_ok-library.library m.netlist xs)) _ _ _ (rw (c.read_library.ensures.files) at c.in-Err.ensures.reads.reads))))

pub returns-in-Err-read_vectors : goal.returns-in-Err-read_vectors
returns-in-Err-read_vectors g c =
    responds (c.read_vectors.ensures.reads.files ∙ c.read_mapped.ensures.reads.files ∙ c.read_library.ensures.files) (omega (arith, c.read_library.ensures.later, c.read_mapped.ensures.reads.later, c.read_vectors.ensures.reads.later)) (file_refused _ _ _ (gate_simulation c.args.library.now c.args.mapped.now c.args.vectors.now) which.Vectors _ c.in-Err-read_vectors.ensures.reads.blames c.in-Err-read_vectors.ensures.reads.not_words (tt, λ files is. (c.in_ok-library.library, c.in-Ok.mapped, c.in_ok-library.ensures.reads files is, (rw (c.read_library.ensures.files) at c.in-Ok.ensures.reads.reads) files is))
    (refused_later _ (ReadsLibrary c.args.library.now) (λ cells. followed_by (ReadsMapped c.args.mapped.now cells) (λ m. followed_by (ReadsVectors c.args.vectors.now m.netlist.inputs) (λ xs. SimulatesNetlist cells m.netlist xs))) _ _ _ c.in_ok-library.library _ c.read_library.ensures.later c.in_ok-library.ensures.reads
    (refused_later _ (ReadsMapped c.args.mapped.now c.in_ok-library.library) (λ m. followed_by (ReadsVectors c.args.vectors.now m.netlist.inputs) (λ xs. SimulatesNetlist c.in_ok-library.library m.netlist xs)) _ _ _ c.in-Ok.mapped _ c.read_mapped.ensures.reads.later (rw (c.read_library.ensures.files) at c.in-Ok.ensures.reads.reads)
    (refused _ (ReadsVectors c.args.vectors.now c.in-Ok.mapped.netlist.inputs) (λ xs. SimulatesNetlist c.in_ok-library.library c.in-Ok.mapped.netlist xs) _ _ _ (rw (c.read_mapped.ensures.reads.files ∙ c.read_library.ensures.files, c.inputs.ensures.inputs) at c.in-Err-read_vectors.ensures.reads.reads)))))

pub returns-in-Ok-read_vectors : goal.returns-in-Ok-read_vectors
returns-in-Ok-read_vectors g c =
    responds (c.read_vectors.ensures.reads.files ∙ c.read_mapped.ensures.reads.files ∙ c.read_library.ensures.files) (omega (arith, c.read_library.ensures.later, c.read_mapped.ensures.reads.later, c.read_vectors.ensures.reads.later)) (ends _ _ _ (gate_simulation c.args.library.now c.args.mapped.now c.args.vectors.now) (SimulatesNetlist c.in_ok-library.library c.in-Ok.mapped.netlist (values_in c.in-Ok-read_vectors.vectors)) c.simulate_gates.result c.simulate_gates.ensures
    (says_later _ (ReadsLibrary c.args.library.now) (λ cells. followed_by (ReadsMapped c.args.mapped.now cells) (λ m. followed_by (ReadsVectors c.args.vectors.now m.netlist.inputs) (λ xs. SimulatesNetlist cells m.netlist xs))) _ _ _ c.in_ok-library.library c.simulate_gates.result c.read_library.ensures.later c.in_ok-library.ensures.reads
    (says_later _ (ReadsMapped c.args.mapped.now c.in_ok-library.library) (λ m. followed_by (ReadsVectors c.args.vectors.now m.netlist.inputs) (λ xs. SimulatesNetlist c.in_ok-library.library m.netlist xs)) _ _ _ c.in-Ok.mapped c.simulate_gates.result c.read_mapped.ensures.reads.later (rw (c.read_library.ensures.files) at c.in-Ok.ensures.reads.reads)
    (says_later _ (ReadsVectors c.args.vectors.now c.in-Ok.mapped.netlist.inputs) (λ xs. SimulatesNetlist c.in_ok-library.library c.in-Ok.mapped.netlist xs) _ _ _ (values_in c.in-Ok-read_vectors.vectors) c.simulate_gates.result c.read_vectors.ensures.reads.later (rw (c.read_mapped.ensures.reads.files ∙ c.read_library.ensures.files, c.inputs.ensures.inputs) at c.in-Ok-read_vectors.ensures.reads.reads)
    (given_says _ (g.F.Shelf.faults c.read_vectors.new.shelf) (g.F.Shelf.faults c.read_vectors.new.shelf) (SimulatesNetlist c.in_ok-library.library c.in-Ok.mapped.netlist (values_in c.in-Ok-read_vectors.vectors)) c.simulate_gates.result c.simulate_gates.ensures)))))
