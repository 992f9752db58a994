use Rattle.std.proofs.Common.{◌++◌, map, sym, subst}
use Rattle.lw_cost.specs.Coming.{AreMatches, still_to_come}
use Rattle.lw_cost.specs.Values.{plain_match}
use Rattle.lw_choices.proofs.Moving.{matches_ended, matches_moved}
use Rattle.lw_choices.proofs.choices.matches_at.Goals as goal

pub loop-found-init : goal.loop-found-init
loop-found-init c = record {
  fits = c.new-cursor.ensures.fits c.args.graph.now c.requires;
  are = subst (λ ms. AreMatches c.args.graph.now c.args.pats.now c.args.class.0 (map plain_match ms ++ still_to_come c.new-cursor.result c.args.graph.now c.args.pats.now)) (sym c.new-list.ensures.items) (c.new-cursor.ensures.coming c.args.graph.now c.args.pats.now c.classes.ensures.kept c.requires);
}

pub loop-found-preserved : goal.loop-found-preserved
loop-found-preserved c =
    let left = still_to_come c.next.new.self c.args.graph.now c.args.pats.now in
    record {
      fits = c.in-Some.ensures.fits;
      are = subst (AreMatches c.args.graph.now c.args.pats.now c.args.class.0) (matches_moved c.loop-found.list.items c.push.new.self.items c.in-Some.found _ left c.in-Some.ensures.first c.in_ok-push.ensures.items) c.loop-found.invariant.are;
    }

pub returns : goal.returns
returns c = subst (AreMatches c.args.graph.now c.args.pats.now c.args.class.0) (matches_ended c.loop-found.list.items _ c.in_default.ensures.first) c.loop-found.invariant.are
