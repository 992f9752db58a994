use Rattle.std.proofs.Common.{arith}
use Rattle.std.proofs.lemmas.Result.{IfErr-weaker}
use Rattle.lw_facts.proofs.Results.{ok_both}
use Rattle.lw_big.proofs.Kept.{generated_outputs_differ}
use Rattle.lw_map.proofs.Drives.{drawing_fault}
use Rattle.lw_map.proofs.counting.big.Goals as goal

pub map_drawn-requires : goal.map_drawn-requires
map_drawn-requires c = generated_outputs_differ c.args.seed c.args.count c.in_ok-net.net (omega (arith, c.requires)) c.in_ok-net.ensures.generated

pub returns-clause-sizes : goal.returns-clause-sizes
returns-clause-sizes c = ok_both c.map_drawn.result c.map_drawn.ensures.sizes c.map_drawn.ensures.sizes (λ s are same. (c.in_ok-net.net, c.in_ok-net.ensures.generated, are))

pub returns-clause-fault : goal.returns-clause-fault
returns-clause-fault c = IfErr-weaker c.map_drawn.result _ _ (drawing_fault c.args.seed c.args.count c.args.lib.now c.in_ok-net.net c.in_ok-net.ensures.generated) c.map_drawn.ensures.fault
