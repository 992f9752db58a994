use Rattle.lw_blif.proofs.Arriving.{latch-long, names-long, model-long}
use Rattle.lw_blif.proofs.parts.Parts.take_names.Goals as goal

pub invariant_of-node : goal.invariant_of-node
invariant_of-node c = record { long = names-long c.args.line.now.command c.args.line.now.words.now c.in-Names.is c.args.line.now.wanted }

pub invariant_of-latch : goal.invariant_of-latch
invariant_of-latch c = record { long = latch-long c.args.line.now.command c.args.line.now.words.now c.in-Latch.is c.args.line.now.wanted }

pub invariant_of-model : goal.invariant_of-model
invariant_of-model c = record { long = model-long c.args.line.now.command c.args.line.now.words.now c.in-Model.is c.args.line.now.wanted }
