use Rattle.std.proofs.Common.{Contains, subst}
use Rattle.std.proofs.lemmas.List.{take_all}
use Rattle.std.proofs.lemmas.List.Elements.{All-more}
use Rattle.lw_aig.specs.Literals.{complement}
use Rattle.lw_search.specs.Queries.{ArePartOfComplements}
use Rattle.lw_search.proofs.querying.are_complements.Goals as goal

pub loop-literal-preserved : goal.loop-literal-preserved
loop-literal-preserved c =
    All-more (λ l. Contains c.args.roots.now (complement l)) c.args.clause.now c.loop-literal.literal-index _ c.loop-literal-test.true c.loop-literal.invariant
    (subst (Contains c.args.roots.now) c.flip.ensures (c.is_among.ensures c.if-not-is_among.false))

pub returns : goal.returns
returns c = λ yes. subst (ArePartOfComplements c.args.roots.now) (take_all c.loop-literal.literal-index c.args.clause.now c.loop-literal-test.false) c.loop-literal.invariant
