use Rattle.lw_lut.proofs.FormDepths.{some_depth}
use Rattle.lw_lut.proofs.laws.class_depths_are_form_depths.Goals as goal

pub returns-clause-least : goal.returns-clause-least
returns-clause-least c = λ mode width net g wide is most f d occurs ((k, ok, u, e), least).
    let trees = c.graphs_have_the_trees.ensures mode width net g wide is in
    record {
      attained = (k, ok, (trees f _ occurs).0 u, e);
      least = λ l good has. least l good ((trees f _ occurs).1 has);
    }

pub returns-clause-some : goal.returns-clause-some
returns-clause-some c = some_depth
