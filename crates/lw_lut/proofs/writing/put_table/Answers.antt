use Rattle.std.proofs.Common.{◌∷◌, sym, subst}
use Rattle.std.specs.List.{flat_map}
use Rattle.lw_io.specs.Writers.{Writes}
use Rattle.lw_io.proofs.Putting.{Writes-both}
use Rattle.lw_pool.specs.declared.id.ClassId.{ClassId}
use Rattle.lw_lut.specs.Texts.{net_name}
use Rattle.lw_lut.proofs.Pieces.{ended_nets}
use Rattle.lw_lut.proofs.writing.put_table.Goals as goal

pub returns : goal.returns
returns g c =
    let n = c.args.net.now in
    let t = c.args.table.now in
    let fanins = subst (λ cs. Writes g.S.Sink.taken g.S.Sink.faults c.put.new.self c.put_nets.new.out (flat_map (λ (class : ClassId). 32 ∷ net_name n class.0) cs)) c.as_slice.ensures c.put_nets.ensures in
    let out = subst (λ w. Writes g.S.Sink.taken g.S.Sink.faults c.put_nets.new.out c.put_word.new.out (32 ∷ w)) c.net_name.ensures c.put_word.ensures in
    let names = subst (λ l. Writes g.S.Sink.taken g.S.Sink.faults c.put.new.self c.put-2.new.self l) (sym (ended_nets n t.fanins (net_name n t.out.0))) (Writes-both fanins (Writes-both out c.put-2.ensures)) in
    Writes-both (Writes-both c.put.ensures names) c.put_rows.ensures
