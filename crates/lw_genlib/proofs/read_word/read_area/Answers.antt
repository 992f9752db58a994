use Rattle.std.proofs.Common.{◌∷◌, Ok, refl, sym, ap, ◌∙◌}
use Rattle.lw_genlib.specs.Streams.{word_on}
use Rattle.lw_genlib.specs.Entries as words
use Rattle.lw_genlib.specs.Libraries as library
use Rattle.lw_genlib.specs.Standing.{resume}
use Rattle.lw_genlib.proofs.Small.{small_number}
use Rattle.lw_genlib.proofs.Steps.{area-read, number-of_line, same-piece}
use Rattle.lw_genlib.proofs.read_word.read_area.Goals as goal

pub invariant_of-header : goal.invariant_of-header
invariant_of-header c = record {
  word = c.args.gate.word;
  small = small_number c.args.given.now.word.now c.in_ok-area.area (number-of_line c.args.given.now.line (words.number_of c.args.given.now.word.now) c.in_ok-area.area (sym c.in_ok-area.ensures));
}

pub returns : goal.returns
unfolding resume
returns c = λ rest.
    same-piece (library.opened_by c.args.before.so_far (words.behind_name c.args.gate.line c.args.gate.name (word_on c.args.given.now.line c.args.given.now.word.now ∷ rest))) (library.opened_by c.args.before.so_far (words.behind_words c.args.gate.line c.args.gate.name c.in_ok-area.area c.no_text.result rest))
    (area-read c.args.before.so_far c.args.gate.line c.args.given.now.line c.args.gate.name c.args.given.now.word.now c.in_ok-area.area rest (Ok c.in_ok-area.area) c.in_ok-area.ensures refl
    ∙ ap (λ (t : words.FunctionText). library.opened_by c.args.before.so_far (words.behind_words c.args.gate.line c.args.gate.name c.in_ok-area.area t rest)) (sym c.no_text.ensures))
