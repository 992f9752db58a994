use Rattle.std.proofs.Common.{◌∙◌, sym}
use Rattle.std.proofs.lemmas.Bool.{false≢true}
use Rattle.lw_equal_top.specs.Outcomes.{names_in}
use Rattle.lw_equal_top.specs.Texts.{answer_text}
use Rattle.lw_equal_top.proofs.Served.{cut_out}
use Rattle.lw_equal_top.proofs.outcome.answer.Goals as goal

pub returns-clause-writes : goal.returns-clause-writes
returns-clause-writes g c =
    cut_out g.O.Sink.taken g.O.Sink.faults c.args.out.now c.write_answer-written.new.out c.finished.new.out (answer_text (names_in c.args.compared.sources.items) c.args.compared.outcome.answer) c.finished.ensures.kept c.write_answer-written.result c.write_answer-written.ensures c.finished.ensures.later (c.finished.ensures.failed (λ is. false≢true (sym c.if-finished.false ∙ is)))
