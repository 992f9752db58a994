use Rattle.std.proofs.Common.{◌∙◌, get_or}
use Rattle.std.proofs.lemmas.List.{length-set}
use Rattle.std.proofs.lemmas.Option.{slice_get-get_or}
use Rattle.lw_aig.specs.declared.gate.Gate.TheVariants.{Zero}
use Rattle.lw_equal.proofs.Tried.{no_words, word_more, words_of_all}
use Rattle.lw_equal.proofs.trying.fill.Goals as goal

pub loop-node-init : goal.loop-node-init
loop-node-init c = record { size = c.requires.one_each; are = no_words c.args.gates.now c.args.block c.args.words.now }

pub loop-node-preserved : goal.loop-node-preserved
loop-node-preserved c =
    let gates = c.args.gates.now in
    let node = c.loop-node.node in
    let words = c.loop-node.words in
    let size = c.loop-node.invariant.size in
    let gate = get_or gates node Zero in
    let at = slice_get-get_or gates node Zero c.loop-node-test.true in
    record {
      size = length-set words node _ ∙ size;
      are = word_more gates node c.args.block c.node_word.result words gate c.requires.aig size at c.loop-node.invariant.are c.node_word.ensures;
    }

pub returns : goal.returns
returns c = words_of_all c.args.gates.now c.loop-node.node c.args.block c.loop-node.words c.loop-node.invariant.size c.loop-node-test.false c.loop-node.invariant.are
