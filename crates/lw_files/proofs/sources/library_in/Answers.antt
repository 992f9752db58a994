use Rattle.lw_files.proofs.Hashes.{logical-plain}
use Rattle.lw_files.proofs.sources.library_in.Goals as goal

pub read_lines-requires-clause-accepted : goal.read_lines-requires-clause-accepted
read_lines-requires-clause-accepted c = logical-plain c.args.bytes.now
