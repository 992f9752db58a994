use Rattle.lw_match.proofs.Sites.{sure_query, known_at, outcome_at}
use Rattle.lw_match.proofs.improving.find_better_at.Goals as goal

pub find_better-requires : goal.find_better-requires
find_better-requires g c = record {
  asked = sure_query g.C.Cost.costs g.C.Cost.CAP c.args.site c.query-query.result c.args.tops.now c.query-query.ensures.site c.query-query.ensures.query c.requires.site c.requires.known;
}

pub returns-clause-known : goal.returns-clause-known
returns-clause-known g c =
    known_at g.C.Cost.costs c.args.site c.query-query.result c.find_better.new.tops c.query-query.ensures.site c.find_better.ensures.known

pub returns-clause-outcome : goal.returns-clause-outcome
returns-clause-outcome g c =
    outcome_at g.C.Cost.costs c.args.site c.query-query.result c.args.want c.find_better.result c.query-query.ensures.site c.find_better.ensures.outcome
