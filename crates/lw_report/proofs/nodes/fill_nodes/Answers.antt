use Rattle.std.proofs.Common.{◌≢◌, ◌+◌, ◌<◌, ◌∙◌, length, refl, sym, subst, arith, get_or-set_other}
use Rattle.std.proofs.lemmas.List.{length-map, length-set, map-set}
use Rattle.std.proofs.lemmas.Option.{slice_get_within, slice_get_read}
use Rattle.std.proofs.lemmas.List.Elements.{All-weaker}
use Rattle.lw_pool.specs.declared.id.NetId.{NetId}
use Rattle.lw_genlib.specs.Words.{bit}
use Rattle.lw_net.proofs.Filling.{IsFilled, IsFilled-more}
use Rattle.lw_report.specs.Blocks.{bits_at}
use Rattle.lw_report.proofs.nodes.fill_nodes.Goals as goal

pub loop-j-init : goal.loop-j-init
loop-j-init c = record {
  inputs = λ i below. refl;
  filled = λ k lt. record { each = λ j node below at. absurd (omega arith) };
  length = refl;
}

pub node_word-requires-clause-columns : goal.node_word-requires-clause-columns
node_word-requires-clause-columns c = (c.requires.nodes c.loop-j.j c.index-nodes-j.result (slice_get_read c.args.nodes.now (length c.args.nodes.now) c.loop-j.j c.index-nodes-j.result refl c.loop-j-test.true c.index-nodes-j.is)).columns

pub node_word-requires-clause-known : goal.node_word-requires-clause-known
node_word-requires-clause-known c =
    let nodes = c.args.nodes.now in
    let first = c.args.first in
    let j = c.loop-j.j in
    let nets = c.loop-j.nets in
    let node = c.index-nodes-j.result in
    let inside : first + j < length nets = omega (arith, c.loop-j.invariant.length, c.loop-j-test.true, c.requires.one_each) in
    let at = slice_get_read nodes (length nodes) j node refl c.loop-j-test.true c.index-nodes-j.is in
    All-weaker (λ (net : NetId). net.0 < first + j) (λ (net : NetId). net.0 < length nets) (λ net lt. omega (arith, lt, inside)) node.fanins (c.requires.nodes j node at).before

pub bounds-nets-first : goal.bounds-nets-first
bounds-nets-first c = omega (arith, c.loop-j.invariant.length, c.loop-j-test.true, c.requires.one_each)

pub loop-j-preserved : goal.loop-j-preserved
loop-j-preserved c =
    let nodes = c.args.nodes.now in
    let first = c.args.first in
    let j = c.loop-j.j in
    let nets = c.loop-j.nets in
    let word = c.node_word.result in
    let node = c.index-nodes-j.result in
    let inside : first + j < length nets = omega (arith, c.loop-j.invariant.length, c.loop-j-test.true, c.requires.one_each) in
    let at = slice_get_read nodes (length nodes) j node refl c.loop-j-test.true c.index-nodes-j.is in
    record {
      inputs = λ i below. let other : i ≢ first + j = omega arith in get_or-set_other nets (first + j) i word 0 other ∙ c.loop-j.invariant.inputs i below;
      filled = λ k lt.
          let within : first + j < length (bits_at k nets) = omega (arith, inside, length-map nets (bit k)) in
          subst (IsFilled nodes first (j + 1)) (sym (map-set (bit k) nets (first + j) word)) (IsFilled-more nodes first j (bits_at k nets) (bit k word) node c.requires.nodes within at (c.node_word.ensures k lt) (c.loop-j.invariant.filled k lt));
      length = length-set nets (first + j) word ∙ c.loop-j.invariant.length;
    }

pub returns : goal.returns
returns c = record {
  inputs = c.loop-j.invariant.inputs;
  values = λ k lt j node at. let inside = slice_get_within c.args.nodes.now j node at in (c.loop-j.invariant.filled k lt).each j node (omega (arith, inside, c.loop-j-test.false)) at;
}
