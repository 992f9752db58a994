use Rattle.lw_mapped.proofs.ClosingLemmas.{starts-ok}
use Rattle.lw_mapped.proofs.contents.Contents.starts.Goals as goal

pub returns : goal.returns
returns c = starts-ok c.starts.result c.args.self.now c.as_slice.result.now c.len.result c.as_slice.ensures c.len.ensures c.starts.ensures.starts c.starts.ensures.early
