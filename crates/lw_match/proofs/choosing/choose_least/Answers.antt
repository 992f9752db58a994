use Rattle.std.proofs.Common.{sym, subst, ◌∙◌}
use Rattle.lw_match.specs.Queries.{AreKnownFor}
use Rattle.lw_match.proofs.Picks.{below_next}
use Rattle.lw_match.proofs.choosing.choose_least.Goals as goal

pub pick_least-best-requires-clause-sure : goal.pick_least-best-requires-clause-sure
pick_least-best-requires-clause-sure g c = λ t. record {
  sure = c.are_sure_at-is_sure.ensures.sure t;
  below = below_next c.args.bound.cost c.saturating_add-top.result c.saturating_add-top.ensures (c.are_sure_at-is_sure.ensures.some t);
  last = c.requires.last;
}

pub returns-clause-known : goal.returns-clause-known
returns-clause-known g c =
    subst (AreKnownFor g.C.Cost.costs c.args.query.now) (sym (c.give_back.ensures ∙ c.lent-scratch.ensures)) c.are_sure_at-is_sure.ensures.known
