use Rattle.std.proofs.Common.{ℕ, List, ◌∷◌, sym, ap, ◌∙◌}
use Rattle.lw_genlib.specs.Streams.{word_on}
use Rattle.lw_genlib.specs.Entries as words
use Rattle.lw_genlib.specs.Libraries as library
use Rattle.lw_genlib.specs.Standing.{resume}
use Rattle.lw_genlib.proofs.Steps.{name-read, same-piece}
use Rattle.lw_genlib.proofs.read_word.read_name.Goals as goal

pub returns : goal.returns
unfolding resume
returns c = λ rest.
    same-piece (library.gate_on c.args.before.so_far c.args.gate (word_on c.args.given.now.line c.args.given.now.word.now ∷ rest)) (library.opened_by c.args.before.so_far (words.behind_name c.args.gate c.in_ok-name.name rest))
    (name-read c.args.before.so_far c.args.gate c.args.given.now.line c.args.given.now.word.now c.in-Some.name.now rest c.in-Some.ensures.some
    ∙ ap (λ (n : List ℕ). library.opened_by c.args.before.so_far (words.behind_name c.args.gate n rest)) (sym c.in_ok-name.ensures))
