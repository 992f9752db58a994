use Rattle.std.proofs.Common.{◌+◌, List, All, subst, sym, take}
use Rattle.std.proofs.lemmas.List.Elements.{All-push}
use Rattle.lw_equal.specs.declared.side.Side.{Side}
use Rattle.lw_equal.specs.Sides.{IsSide}
use Rattle.lw_equal_top.specs.Sources.{AreSides, IsSideOf}
use Rattle.lw_equal_top.proofs.Paired.{one_more}
use Rattle.lw_equal_top.proofs.comparing.sides.Goals as goal

pub sources-preserved : goal.sources-preserved
sources-preserved c =
    let cells = c.args.library.now in
    let sources = c.args.sources.now in
    let i = c.sources.source-index in
    let source = c.source-item.result in
    let sides = c.sources.sides.items in
    let pushed = sym c.in_ok-push.ensures.items in
    record {
      of = subst (λ (ss : List Side). AreSides cells (take (i + 1) sources) ss) pushed (one_more cells sources i source sides c.side.result c.sources-test.true c.sources.invariant.of (subst (λ s. IsSideOf cells s c.side.result) c.source-item.is c.side.ensures.of));
      all = subst (All IsSide) pushed (All-push IsSide sides c.side.result c.sources.invariant.all c.side.ensures.side);
    }
