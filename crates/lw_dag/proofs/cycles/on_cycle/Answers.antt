use Rattle.std.proofs.Common.{◌≡◌, ◌<◌, ◌+◌, [], false, length, ap, sym, ◌∙◌, subst, arith, Contains}
use Rattle.std.proofs.lemmas.List.{get_or_default, get_or_read}
use Rattle.std.proofs.lemmas.List.Elements.{All-contains}
use Rattle.std.proofs.lemmas.Result.{IfOk-from_err}
use Rattle.lw_dag.specs.Graphs.{IsStuck, fanins_at}
use Rattle.lw_dag.specs.Searching.{is_seen}
use Rattle.lw_dag.proofs.Rising.{fanins_in_heights}
use Rattle.lw_dag.proofs.Searching.{nothing_seen, unseen-set, walk_step}
use Rattle.lw_dag.proofs.cycles.on_cycle.Goals as goal

pub walk-preserved : goal.walk-preserved
walk-preserved c =
    let graph = c.args.of.now.graph.now.nodes.now in
    let at = c.walk.at in
    let next = c.stuck_fanin-at.result in
    let fanins : c.as_slice.result.now ≡ fanins_at graph at = c.as_slice.ensures ∙ get_or_default graph at c.index-graph-at.result [] c.walk.invariant.within in
    let among : Contains (fanins_at graph at) (c.args.of.now.graph.now.inputs + next) = subst (λ ns. Contains ns (c.args.of.now.graph.now.inputs + next)) fanins c.stuck_fanin-at.ensures.among in
    let within : c.args.of.now.graph.now.inputs + next < c.args.of.now.graph.now.inputs + length graph = All-contains (λ s. s < c.args.of.now.graph.now.inputs + length graph) (fanins_at graph at) (c.args.of.now.graph.now.inputs + next) (c.args.of.now.graph.now.small.graph at) among in
    record {
      flags = c.walk.invariant.flags;
      within = omega arith;
      lacks = c.stuck_fanin-at.ensures.lacks;
      led = walk_step c.args.of.now.graph.now.inputs graph c.walk.seen.items at next (omega (arith, c.walk.invariant.flags)) among c.walk.invariant.led;
    }

pub returns-in_err-seen : goal.returns-in_err-seen
returns-in_err-seen c = IfOk-from_err _ _ c.from_residual.ensures.0

pub walk-init : goal.walk-init
walk-init c =
    let graph = c.args.of.now.graph.now.nodes.now in
    let none = c.in_ok-seen.ensures.items_if_clones_equal (λ y e. e) in
    record {
      flags = omega (arith, c.in_ok-seen.ensures.len);
      within = c.requires.start.within;
      lacks = c.requires.start.lacks;
      led = λ x is. absurd (nothing_seen (length graph) x (sym (ap (λ seen. is_seen seen x) none) ∙ is));
    }

pub stuck_fanin-at-requires-clause-signals : goal.stuck_fanin-at-requires-clause-signals
stuck_fanin-at-requires-clause-signals c =
    let graph = c.args.of.now.graph.now.nodes.now in
    let at = c.walk.at in
    fanins_in_heights c.args.of.now.graph.now.inputs graph c.args.of.now.heights.now c.as_slice.result.now at c.args.of.now.graph.now.small.graph c.requires.heights.known.one_each (c.as_slice.ensures ∙ get_or_default graph at c.index-graph-at.result [] c.walk.invariant.within)

pub stuck_fanin-at-requires-clause-given_ones : goal.stuck_fanin-at-requires-clause-given_ones
stuck_fanin-at-requires-clause-given_ones c = c.requires.heights.known.given_ones

pub stuck_fanin-at-requires-clause-stuck : goal.stuck_fanin-at-requires-clause-stuck
stuck_fanin-at-requires-clause-stuck c =
    let graph = c.args.of.now.graph.now.nodes.now in
    let at = c.walk.at in
    let fanins : c.as_slice.result.now ≡ fanins_at graph at = c.as_slice.ensures ∙ get_or_default graph at c.index-graph-at.result [] c.walk.invariant.within in
    subst (IsStuck c.args.of.now.heights.now) (sym fanins) (c.requires.heights.stuck at c.walk.invariant.within c.walk.invariant.lacks)

pub walk-smaller : goal.walk-smaller
walk-smaller c =
    let seen = c.walk.seen.items in
    let within : c.walk.at < length seen = omega (arith, c.walk.seen.ok.0, c.walk.invariant.flags, c.walk.invariant.within) in
    let read = get_or_read seen c.walk.at c.index.result.now within c.index.ensures false in
    omega (arith, unseen-set seen c.walk.at within (sym read ∙ c.walk-test.true))

pub returns : goal.returns
returns c =
    let seen = c.walk.seen.items in
    let within : c.walk.at < length seen = omega (arith, c.walk.seen.ok.0, c.walk.invariant.flags, c.walk.invariant.within) in
    let read = get_or_read seen c.walk.at c.index.result.now within c.index.ensures false in
    record { within = c.walk.invariant.within; cycle = c.walk.invariant.led c.walk.at (sym read ∙ c.walk-test.false) }
