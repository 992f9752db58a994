use Rattle.std.proofs.Common.{length, ap, arith}
use Rattle.lw_words.proofs.WordsAt.{length-words_at}
use Rattle.lw_words.proofs.words.Words.get.Goals as goal

pub word_at-requires-clause-place : goal.word_at-requires-clause-place
word_at-requires-clause-place c =
    omega (arith, c.requires, ap length c.deref-2.ensures, length-words_at 0 c.self.inside.bytes.items c.self.inside.ends.items, ap length c.self.view_is)
