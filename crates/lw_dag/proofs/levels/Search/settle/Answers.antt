use Rattle.std.proofs.Common.{◌≡◌, ◌<◌, ◌+◌, [], length, get_or, refl, sym, ap, ◌∙◌, subst, arith, All, Contains}
use Rattle.std.proofs.lemmas.List.{get_or_default, get_or_read}
use Rattle.std.proofs.lemmas.List.Elements.{All-contains, All-same}
use Rattle.std.proofs.lemmas.Result.{on_ok_weaker}
use Rattle.lw_dag.specs.Graphs.{fanins_at, height_at, tallest}
use Rattle.lw_dag.proofs.Rising.{fanins_in_heights, rising_known, tallest_low, unknown-set}
use Rattle.lw_dag.proofs.Settling.{raised_settles, waits_settles}
use Rattle.lw_dag.proofs.levels.Search.settle.Goals as goal

pub index-requires : goal.index-requires
index-requires c = omega (arith, c.args.self.now.heights.ok.0, c.requires.before.rising.known.one_each, c.requires.nodes c.args.at 0 c.requires.place)

pub bounds-graph-j : goal.bounds-graph-j
bounds-graph-j c = c.requires.nodes c.args.at 0 c.requires.place

pub open_fanin-requires : goal.open_fanin-requires
open_fanin-requires c =
    let graph = c.args.graph.now.nodes.now in
    let j = get_or c.args.list.now c.args.at 0 in
    let one_each : length c.deref.result.now ≡ c.args.graph.now.inputs + length graph = ap length c.deref.ensures.value ∙ c.requires.before.rising.known.one_each in
    fanins_in_heights c.args.graph.now.inputs graph c.deref.result.now c.as_slice-fanins.result.now j c.args.graph.now.small.graph one_each (c.as_slice-fanins.ensures ∙ get_or_default graph j c.index-graph-j.result [] (c.requires.nodes c.args.at 0 c.requires.place))

pub wait-requires : goal.wait-requires
wait-requires c =
    let graph = c.args.graph.now.nodes.now in
    let j = get_or c.args.list.now c.args.at 0 in
    let n = c.args.graph.now.inputs + length graph in
    let fanins = c.as_slice-fanins.ensures ∙ get_or_default graph j c.index-graph-j.result [] (c.requires.nodes c.args.at 0 c.requires.place) in
    let within : c.in-Some.s < n = All-contains (λ t. t < n) c.as_slice-fanins.result.now c.in-Some.s (All-same (λ t. t < n) _ _ fanins (c.args.graph.now.small.graph j)) c.in-Some.ensures.among in
    omega (arith, c.args.self.now.waiting.ok.0, c.requires.before.rising.lists, within)

pub tallest_of-height-requires : goal.tallest_of-height-requires
tallest_of-height-requires c =
    let graph = c.args.graph.now.nodes.now in
    let j = get_or c.args.list.now c.args.at 0 in
    let one_each : length c.deref-2.result.now ≡ c.args.graph.now.inputs + length graph = ap length c.deref-2.ensures.value ∙ c.requires.before.rising.known.one_each in
    fanins_in_heights c.args.graph.now.inputs graph c.deref-2.result.now c.as_slice-fanins.result.now j c.args.graph.now.small.graph one_each (c.as_slice-fanins.ensures ∙ get_or_default graph j c.index-graph-j.result [] (c.requires.nodes c.args.at 0 c.requires.place))

pub raise-requires : goal.raise-requires
raise-requires c = omega (arith, c.args.self.now.heights.ok.0, c.requires.before.rising.known.one_each, c.requires.nodes c.args.at 0 c.requires.place)

pub overflow_add-height : goal.overflow_add-height
overflow_add-height c =
    let r = c.requires.before.rising in
    let low = tallest_low c.args.self.now.heights.items _ (length c.args.graph.now.nodes.now) c.as_slice-fanins.result.now r.low r.few in
    let is = rw c.deref-2.ensures.value at c.tallest_of-height.ensures in
    let l = c.args.self.now in
    let j = get_or c.args.list.now c.args.at 0 in
    let node : j < length c.args.graph.now.nodes.now = c.requires.nodes c.args.at 0 c.requires.place in
    let within : c.args.graph.now.inputs + j < length l.heights.items = omega (arith, r.known.one_each) in
    let read = get_or_read l.heights.items (c.args.graph.now.inputs + j) c.index.result.now within c.index.ensures 0 in
    let open_there = unknown-set l.heights.items (c.args.graph.now.inputs + j) 1 within (sym read ∙ c.if-index-ne0.false) (omega arith) in
    omega (arith, is, low, open_there)

pub returns-then-index-ne0 : goal.returns-then-index-ne0
returns-then-index-ne0 c =
    let l = c.args.self.now in
    let j = get_or c.args.list.now c.args.at 0 in
    let node : j < length c.args.graph.now.nodes.now = c.requires.nodes c.args.at 0 c.requires.place in
    let within : c.args.graph.now.inputs + j < length l.heights.items = omega (arith, c.requires.before.rising.known.one_each) in
    let read = get_or_read l.heights.items (c.args.graph.now.inputs + j) c.index.result.now within c.index.ensures 0 in
    record {
      levelling = record {
        rising = rising_known c.args.graph.now.inputs c.args.graph.now.nodes.now l.heights.items l.waiting.items l.ready.items c.args.list.now c.args.at j c.requires.place refl (λ none. omega (arith, c.if-index-ne0.true, read, none)) c.requires.before.rising;
        ordered = c.requires.before.ordered;
      };
      less = omega arith;
    }

pub returns-in-Some : goal.returns-in-Some
returns-in-Some c =
    let l = c.args.self.now in
    let j = get_or c.args.list.now c.args.at 0 in
    let s = c.in-Some.s in
    let graph = c.args.graph.now.nodes.now in
    let node : j < length graph = c.requires.nodes c.args.at 0 c.requires.place in
    let fanins : c.as_slice-fanins.result.now ≡ fanins_at graph j = c.as_slice-fanins.ensures ∙ get_or_default graph j c.index-graph-j.result [] node in
    let among : Contains (fanins_at graph j) s = subst (λ ns. Contains ns s) fanins c.in-Some.ensures.among in
    let within : s < c.args.graph.now.inputs + length graph = All-contains (λ n. n < c.args.graph.now.inputs + length graph) (fanins_at graph j) s (c.args.graph.now.small.graph j) among in
    on_ok_weaker _ (waits_settles c.args.graph.now c.args.list.now c.args.at j s l _ c.requires.place refl node c.requires.before among (rw c.deref.ensures.value at c.in-Some.ensures.lacks) within) c.wait.ensures

pub returns : goal.returns
returns c =
    let l = c.args.self.now in
    let j = get_or c.args.list.now c.args.at 0 in
    let graph = c.args.graph.now.nodes.now in
    let node : j < length graph = c.requires.nodes c.args.at 0 c.requires.place in
    let fanins : c.as_slice-fanins.result.now ≡ fanins_at graph j = c.as_slice-fanins.ensures ∙ get_or_default graph j c.index-graph-j.result [] node in
    let within : c.args.graph.now.inputs + j < length l.heights.items = omega (arith, c.requires.before.rising.known.one_each) in
    let read = get_or_read l.heights.items (c.args.graph.now.inputs + j) c.index.result.now within c.index.ensures 0 in
    let none : height_at l.heights.items (c.args.graph.now.inputs + j) ≡ 0 = sym read ∙ c.if-index-ne0.false in
    let all = subst (All (λ s. 0 < height_at l.heights.items s)) fanins (rw c.deref.ensures.value at c.in_default.ensures.none) in
    let is = (rw c.deref-2.ensures.value at c.tallest_of-height.ensures) ∙ ap (tallest l.heights.items) fanins in
    on_ok_weaker _ (raised_settles c.args.graph.now c.args.list.now c.args.at j _ l _ c.requires.place refl node c.requires.before none all (ap (λ t. 1 + t) is)) c.raise.ensures
