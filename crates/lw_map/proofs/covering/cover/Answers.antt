use Rattle.lw_map.proofs.Problems.{fastest_for, few_for, lack_for, over_for}
use Rattle.lw_map.proofs.covering.cover.Goals as goal

pub fastest-mapping-requires : goal.fastest-mapping-requires
fastest-mapping-requires c = c.in_ok-problem.ensures.is

pub returns-clause-mapping : goal.returns-clause-mapping
returns-clause-mapping c =
    fastest_for c.args.lib.now c.args.net.now c.args.starts.now c.args.choices.now c.in_ok-problem.problem c.in_ok-problem.ensures c.args.labeller c.fastest-mapping.result c.fastest-mapping.ensures.mapping

pub returns-clause-over : goal.returns-clause-over
returns-clause-over c =
    over_for c.args.lib.now c.args.net.now c.args.starts.now c.args.choices.now c.in_ok-problem.problem c.in_ok-problem.ensures c.args.labeller c.fastest-mapping.result c.fastest-mapping.ensures.mapping

pub returns-clause-few : goal.returns-clause-few
returns-clause-few c =
    few_for c.args.lib.now c.args.net.now c.args.starts.now c.args.choices.now c.in_ok-problem.problem c.in_ok-problem.ensures c.args.labeller c.fastest-mapping.result c.fastest-mapping.ensures.mapping

pub returns-clause-fault : goal.returns-clause-fault
returns-clause-fault c =
    lack_for c.args.lib.now c.args.net.now c.args.starts.now c.args.choices.now c.in_ok-problem.problem c.in_ok-problem.ensures c.fastest-mapping.result c.fastest-mapping.ensures.fault
