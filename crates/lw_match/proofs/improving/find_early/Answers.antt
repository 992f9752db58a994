use Rattle.std.proofs.Common.{Bool, Some, None, ap, sym, subst, ◌∙◌, rules}
use Rattle.lw_match.specs.Cutting.{bound_past}
use Rattle.lw_match.specs.Queries.{FindsLeast}
use Rattle.lw_match.specs.Queries.{IsSureQuery}
use Rattle.lw_match.proofs.improving.find_early.Goals as goal

pub is_known_least-is_least-requires-clause-asked : goal.is_known_least-is_least-requires-clause-asked
is_known_least-is_least-requires-clause-asked g c =
    subst (IsSureQuery g.C.Cost.CAP g.C.Cost.costs c.args.query.now) (sym (c.give_back.ensures ∙ c.lent-scratch.ensures)) c.requires.asked

pub returns-clause-outcome : goal.returns-clause-outcome
returns-clause-outcome g c =
    let q = c.args.query.now in
    record {
      sound = search rules;
      none = λ e. cc;
      least = λ t bounds. subst (λ left. FindsLeast g.C.Cost.costs q left None) (sym (ap (λ (m : Bool). bound_past m (Some c.in_ok-best.best) c.args.want.bound) c.if-want.false)) (c.is_known_least-is_least.ensures.none t bounds);
    }
