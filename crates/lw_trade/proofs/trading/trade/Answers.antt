use Rattle.std.proofs.Common.{refl, sym}
use Rattle.lw_choices.specs.Tasks.{task}
use Rattle.lw_facts.proofs.Results.{ok_both}
use Rattle.lw_trade.proofs.trading.trade.Goals as goal

pub assemble-requires : goal.assemble-requires
assemble-requires c =
    let s = task c.args.graph.now c.args.pats.now c.args.lib.now c.args.starts.now in
    let curves = c.args.curves.now in
    let are = c.requires.curves in
    let (sites, walk) = c.in_ok-walk.ensures s are refl refl in
    record { walk = (s, curves, are, sites, c.requires.targets, sym c.inputs.ensures.inputs, walk) }

pub returns : goal.returns
returns c =
    let s = task c.args.graph.now c.args.pats.now c.args.lib.now c.args.starts.now in
    let curves = c.args.curves.now in
    let are = c.requires.curves in
    let (sites, walk) = c.in_ok-walk.ensures s are refl refl in
    ok_both c.assemble.result c.assemble.ensures c.assemble.ensures (λ n f g. f s curves are sites c.len.ensures.kept c.requires.targets (sym c.inputs.ensures.inputs) walk)
