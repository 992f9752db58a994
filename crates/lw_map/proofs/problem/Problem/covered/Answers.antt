use Rattle.std.proofs.Common.{[], Some}
use Rattle.lw_facts.proofs.Results.{ok_both}
use Rattle.lw_laws.proofs.NetlistOnce.{least_cover_once}
use Rattle.lw_extract.specs.Choosing.{labels}
use Rattle.lw_map.proofs.Composed.{ports_fit}
use Rattle.lw_map.proofs.Refusals.{label_lacked}
use Rattle.lw_map.proofs.problem.Problem.covered.Goals as goal

pub extract_with-cover-requires-clause-fit : goal.extract_with-cover-requires-clause-fit
extract_with-cover-requires-clause-fit g c =
    ports_fit c.args.self.now.net.now [] c.args.self.now.choices.now c.in_ok-ports.ports c.inputs.ensures.kept c.requires.given.chosen c.in_ok-ports.ensures c.requires.given.outputs

pub extract_with-cover-requires-clause-labels : goal.extract_with-cover-requires-clause-labels
extract_with-cover-requires-clause-labels g c = record {
  cells = c.requires.given.counts;
  of_cells = c.requires.given.of_cells;
  least = c.requires.labels.least;
  leaves = λ k i at.
      least_cover_once c.args.self.now.choices.now.graph c.args.self.now.pats (g.C.Cost.costs c.args.cost.now) k (labels c.args.labelled.now.labels k) (Some ((g.C.Cost.costs c.args.cost.now).leaf i))
      (c.requires.labels.least.least k) (c.requires.given.leaves i k at);
}

pub returns-clause-cover : goal.returns-clause-cover
returns-clause-cover g c =
    ok_both c.extract_with-cover.result c.extract_with-cover.ensures.cover c.extract_with-cover.ensures.cover
    (λ cover is same. record { extracted = (c.in_ok-ports.ports, c.in_ok-ports.ensures, is.cover); over = is.over })

pub returns-clause-lacks : goal.returns-clause-lacks
returns-clause-lacks g c =
    label_lacked c.args.labelled.now.labels c.in_ok-ports.ports.roots c.args.self.now.choices.now.roots c.extract_with-cover.result c.in_ok-ports.ensures.roots (λ k e. (c.extract_with-cover.ensures.no_cover k).0 e)
