use Rattle.std.proofs.Common.{get_or}
use Rattle.std.proofs.lemmas.List.{take_more}
use Rattle.lw_words.proofs.Steady.{reads-more}
use Rattle.lw_words.proofs.lines.Lines.read_some.Goals as goal

pub returns-then-n-bytes-clause-reads : goal.returns-then-n-bytes-clause-reads
returns-then-n-bytes-clause-reads c =
    reads-more c.args.self.now _ c.read.new.self _ (get_or c.args.bytes.now c.in_ok-n.n 0) _ c.in_ok-n.ensures.reads c.in_ok-read.ensures (take_more c.args.bytes.now c.in_ok-n.n 0 c.if-n-bytes.true)
