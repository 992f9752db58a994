use Rattle.std.proofs.Common.{ℕ, [], ◌∷◌, ◌++◌, sym, subst}
use Rattle.std.proofs.lemmas.List.{get_or-map}
use Rattle.lw_fixed.specs.Printed.{decimal_text}
use Rattle.lw_genlib.specs.Tables.{millionths}
use Rattle.lw_io.specs.Writers.{Writes}
use Rattle.lw_io.proofs.Putting.{Writes-both}
use Rattle.lw_report.proofs.report.put_arrival.Goals as goal

pub returns : goal.returns
returns g c =
    let name = subst (λ w. Writes g.S.Sink.taken g.S.Sink.faults c.put.new.self c.put_word.new.out (32 ∷ w)) c.as_bytes.ensures.bytes c.put_word.ensures in
    let time = sym (get_or-map millionths c.args.arrivals.now c.args.port.now.net.0 (record { 0 = 0 }) 0 c.requires) in
    let last = subst (λ (t : ℕ). Writes g.S.Sink.taken g.S.Sink.faults c.put_word.new.out c.put_last.new.out (32 ∷ decimal_text t ++ 10 ∷ [])) time c.put_last.ensures in
    Writes-both c.put.ensures (Writes-both name last)
