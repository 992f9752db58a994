use Rattle.std.proofs.Common.{◌≡◌, ℕ, List, refl}
use Rattle.lw_io.specs.Writers.{Writes}
use Rattle.lw_equal_top.specs.declared.outcome.Ending.TheVariants.{WriteFault}
use Rattle.lw_equal_top.specs.declared.request.Request.{Request}
use Rattle.lw_equal_top.specs.declared.request.Request.TheVariants.{Help, Version, Comparing}
use Rattle.lw_equal_top.specs.declared.request.Comparison.{Comparison}
use Rattle.lw_equal_top.specs.Requests.{plain_request}
use Rattle.lw_equal_top.specs.Telling.{cannot_write, ending_line}
use Rattle.lw_equal_top.proofs.telling.put_ending.Goals as goal

page_line : (P : List ℕ → Type 0) (r : Request) → ((c : Comparison) → r ≡ Comparing c → ⊥) → P cannot_write → P (ending_line (plain_request r) WriteFault)
page_line P Help not p = p
page_line P Version not p = p
page_line P (Comparing c) not p = absurd (not c refl)

pub returns-in-WriteFault : goal.returns-in-WriteFault
returns-in-WriteFault g c = rw c.in-WriteFault.is (page_line (λ text. Writes g.E.Sink.taken g.E.Sink.faults c.args.out.now c.put.new.self text) c.args.request.now c.in_default.not-Comparing c.put.ensures)
