use Rattle.std.proofs.Common.{refl}
use Rattle.lw_mapped.proofs.ReadingLemmas.{keeps-none}
use Rattle.lw_mapped.proofs.parts.Parts.new.Goals as goal

pub returns : goal.returns
returns c = λ cells. keeps-none (record { alloc = c.args.alloc; wire = Rattle.std.proofs.Common.None; contents = c.new.result }) cells refl c.new.ensures
