use Rattle.std.proofs.Common.{refl, arith}
use Rattle.std.proofs.lemmas.List.{length-take-le}
use Rattle.lw_words.proofs.Steady.{reads-comment}
use Rattle.lw_words.proofs.lines.Lines.skip_comment.Goals as goal

pub returns-clause-reads : goal.returns-clause-reads
returns-clause-reads c =
    let len = length-take-le c.comment_len-n.result c.args.bytes.now c.comment_len-n.ensures.within in
    reads-comment c.args.self.now _ _
    (record { marked = refl; finished = refl; fed = omega (arith, len); place = refl; gathering = refl; number = refl; at = refl; ready = refl })
    c.requires.comment c.comment_len-n.ensures.no_line_feed
