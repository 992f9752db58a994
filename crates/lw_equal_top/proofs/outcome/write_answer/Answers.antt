use Prim.{search}
use Rattle.std.proofs.Common.{◌≡◌, ◌∙◌, List, ℕ, ap, subst}
use Rattle.lw_io.specs.Writers.{Writes}
use Rattle.lw_io.proofs.Putting.{text_ends}
use Rattle.lw_equal_top.specs.Outcomes.{names_in}
use Rattle.lw_equal_top.specs.Sources.{input_names}
use Rattle.lw_equal_top.specs.Texts.{answer_text}
use Rattle.lw_equal_top.proofs.Paired.{first_names}
use Rattle.lw_equal_top.proofs.outcome.write_answer.Goals as goal

pub returns : goal.returns
returns g c =
    let compared = c.args.compared.now in
    let sources = compared.sources.items in
    let same : c.input_names.result.now ≡ names_in sources = c.input_names.ensures ∙ (ap input_names c.index.ensures ∙ first_names sources c.index.result.now c.requires.0) in
    text_ends c.new-text.ensures (subst (λ (names : List (List ℕ)). Writes g.O.Sink.taken g.O.Sink.faults c.new-text.result c.put_answer.new.out (answer_text names compared.outcome.answer)) same c.put_answer.ensures) c.end.ensures search
