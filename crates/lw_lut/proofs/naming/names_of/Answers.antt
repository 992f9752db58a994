use Rattle.std.proofs.Common.{◌∙◌, ◌<◌, ap}
use Rattle.std.proofs.lemmas.List.Elements.{All-map}
use Rattle.lw_naming.proofs.ClassNumbers.{classes_below}
use Rattle.lw_lut.specs.Nets.{table_classes}
use Rattle.lw_lut.specs.declared.table.Table.{Table}
use Rattle.lw_lut.proofs.naming.names_of.Goals as goal
use Rattle.lw_pool.specs.Numbers.{numbers}

pub gate_names-requires-clause-gates : goal.gate_names-requires-clause-gates
gate_names-requires-clause-gates c =
    let tables = c.args.tables.now in
    let same = ap numbers c.deref.ensures.value ∙ c.in_ok-gates.ensures in
    classes_below c.args.classes c.deref.result.now (table_classes tables) same (All-map (λ n. n < c.args.classes) (λ (t : Table). t.out.0) tables c.requires.tables)
