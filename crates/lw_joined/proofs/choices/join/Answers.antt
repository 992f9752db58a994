use Rattle.std.proofs.Common.{◌∙◌, subst, sym}
use Rattle.lw_net.specs.Networks.{NetworkParts, plain}
use Rattle.lw_joined.specs.Joins.{BeginsWith}
use Rattle.lw_joined.specs.Unions.{AreLeftOut, ends_of, united}
use Rattle.lw_joined.proofs.MadeJoins.{begins_united, listed_itself}
use Rattle.lw_joined.proofs.choices.join.Goals as goal

pub graph_of-requires-clause-begins : goal.graph_of-requires-clause-begins
graph_of-requires-clause-begins c =
    let t = c.in_ok-listed.ensures.taken in
    subst (λ (n : NetworkParts). BeginsWith (plain c.args.net.now) (plain n)) (sym t.1.listed.union) (begins_united c.args.net.now c.args.others.now t.0 c.inputs.ensures.kept)

pub graph_of-requires-clause-listed : goal.graph_of-requires-clause-listed
graph_of-requires-clause-listed c =
    let t = c.in_ok-listed.ensures.taken in
    listed_itself c.args.options (united c.args.net.now c.args.others.now t.0) (ends_of c.args.net.now c.args.others.now t.0) _ t.1.listed

pub returns-clause-joined : goal.returns-clause-joined
returns-clause-joined c =
    let t = c.in_ok-listed.ensures.taken in
    let is = c.in_ok-graph_of.ensures in
    record {
      joined = is.joined;
      options_are = is.options_are;
      taken = t.0;
      union = is.union ∙ t.1.listed.union;
      ends = is.ends ∙ t.1.listed.ends;
      left_out = subst (AreLeftOut c.args.options c.args.net.now c.args.others.now t.0) (sym is.told) t.1.left_out;
      unlinked = is.unlinked;
    }
