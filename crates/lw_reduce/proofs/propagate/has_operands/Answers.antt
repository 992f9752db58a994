use Rattle.lw_reduce.proofs.propagate.has_operands.Goals as goal

pub operands_of-own-requires : goal.operands_of-own-requires
operands_of-own-requires c = c.requires
