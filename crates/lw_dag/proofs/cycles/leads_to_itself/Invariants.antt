use Rattle.std.proofs.Common.{◌+◌, ◌*◌, [], vec_len}
use Rattle.lw_dag.specs.Searching.{IsSearching, unseen}
use Rattle.lw_dag.proofs.cycles.leads_to_itself.Given as goal

abbrev pub invariant-search : goal.invariant-search
invariant-search l = IsSearching l.graph.inputs l.graph.nodes.now l.p l.reached.seen.items l.reached.ready.items []

abbrev pub decreases-search : goal.decreases-search
decreases-search l = 2 * unseen l.reached.seen.items + vec_len l.reached.ready
