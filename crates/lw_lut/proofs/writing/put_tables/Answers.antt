use Rattle.std.proofs.Common.{List, All, sym, subst, ◌∙◌}
use Rattle.std.specs.List.{flat_map}
use Rattle.std.proofs.lemmas.List.{take_all}
use Rattle.std.proofs.lemmas.List.Elements.{All-get_or}
use Rattle.lw_io.specs.Writers.{Writes}
use Rattle.lw_io.proofs.Putting.{Writes-more}
use Rattle.lw_lut.specs.Placed.{HasNets}
use Rattle.lw_lut.specs.Texts.{table_text}
use Rattle.lw_lut.specs.declared.table.Table.{Table}
use Rattle.lw_lut.proofs.NetsPlaced.{have_nets}
use Rattle.lw_lut.proofs.writing.put_tables.Goals as goal

pub loop-table-preserved : goal.loop-table-preserved
loop-table-preserved g c =
    let next = subst (λ (t : Table). Writes g.S.Sink.taken g.S.Sink.faults c.loop-table.out c.put_table.new.out (table_text c.args.net.now t)) c.table-item.is c.put_table.ensures in
    Writes-more (table_text c.args.net.now) c.as_slice-tables.result.now c.loop-table.table-index c.table-item.result c.loop-table-test.true c.loop-table.invariant next

pub put_table-requires : goal.put_table-requires
put_table-requires g c = subst (HasNets c.args.net.now) (sym c.table-item.is) (All-get_or (HasNets c.args.net.now) c.as_slice-tables.result.now c.loop-table.table-index c.table-item.result c.loop-table-test.true (subst (All (HasNets c.args.net.now)) (sym (c.as_slice-tables.ensures ∙ c.tables.ensures)) (have_nets c.args.net.now c.keeps.ensures.kept c.keeps.ensures.few)))

pub returns : goal.returns
returns g c = subst (λ (ts : List Table). Writes g.S.Sink.taken g.S.Sink.faults c.args.out.now c.loop-table.out (flat_map (table_text c.args.net.now) ts)) (take_all c.loop-table.table-index c.as_slice-tables.result.now c.loop-table-test.false ∙ (c.as_slice-tables.ensures ∙ c.tables.ensures)) c.loop-table.invariant
