use Rattle.lw_map.proofs.choices.decompose.Goals as goal

pub forms-requires : goal.forms-requires
forms-requires c = record { low = c.args.options.wide.0; high = c.args.options.wide.1 }
