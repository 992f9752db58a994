use Rattle.lw_mapped.specs.LineFaults.{text_fault, lines_read, lines_say}
use Rattle.lw_mapped.proofs.Once.{comes-once}
use Rattle.lw_mapped.proofs.laws.lines_have_one_meaning.Goals as goal

pub returns : goal.returns
returns c = λ cells lines a b p q na nb. comes-once (text_fault cells lines) (lines_say cells (lines_read lines)) a b p q na nb
