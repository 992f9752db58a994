use Rattle.std.proofs.Common.{◌++◌, map, sym, ap, subst}
use Rattle.std.specs.Prelude.{All}
use Rattle.lw_words.specs.Lines.{LogicalLine}
use Rattle.lw_words.specs.Gathering.{IsNoHash}
use Rattle.lw_genlib.specs.Streams.{word_on, items_on}
use Rattle.lw_genlib.specs.Standing.{resume}
use Rattle.lw_genlib.specs.declared.reader_state.ReaderState.{ReaderState}
use Rattle.lw_genlib.proofs.Lines.{long-breaks, long-items, plain-items, words-plain}
use Rattle.lw_genlib.proofs.Steps.{outcome-moved}
use Rattle.lw_genlib.proofs.reader.read_line.Goals as goal

pub returns-then-line : goal.returns-then-line
returns-then-line c = λ rest.
    long-breaks c.args.state c.line.inside.number (items_on c.args.line.now ++ rest) rest
    (long-items c.args.line.now c.line.inside.number c.line.inside.long c.line.inside.words rest c.line.view_is c.if-line.true)

pub read_words-requires : goal.read_words-requires
read_words-requires c =
    words-plain c.line.inside.words c.line.invariant.are_words (subst (λ (l : LogicalLine). All (All IsNoHash) l.words) (sym c.line.view_is) c.requires)

pub returns : goal.returns
returns c = λ rest.
    outcome-moved c.read_words.result (λ (p : ReaderState). resume p rest)
    (resume c.args.state (items_on c.args.line.now ++ rest)) (resume c.args.state (map (word_on c.line.inside.number) c.line.inside.words ++ rest))
    (ap (resume c.args.state) (plain-items c.args.line.now c.line.inside.number c.line.inside.long c.line.inside.words rest c.line.view_is c.if-line.false))
    (c.read_words.ensures rest)
