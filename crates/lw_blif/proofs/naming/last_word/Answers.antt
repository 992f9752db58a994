use Rattle.std.proofs.Common.{◌-◌, ap, sym, ◌∙◌}
use Rattle.std.specs.Prelude.{slice_get}
use Rattle.lw_blif.proofs.WordLists.{last_word-get}
use Rattle.lw_blif.proofs.naming.last_word.Goals as goal

pub returns-clause-word : goal.returns-clause-word
returns-clause-word c = last_word-get c.args.words.now c.get.result.now (sym (ap (λ n. slice_get c.args.words.now (n - 1)) c.len.ensures) ∙ c.get.ensures.word)
