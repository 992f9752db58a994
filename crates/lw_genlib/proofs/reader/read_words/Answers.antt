use Rattle.std.proofs.Common.{◌++◌, ◌+◌, map, drop, sym, ap, ◌∙◌, subst}
use Rattle.lw_genlib.specs.Streams.{word_on}
use Rattle.lw_genlib.specs.Libraries.{Outcome}
use Rattle.lw_genlib.specs.Standing.{resume, BreaksAt}
use Rattle.lw_genlib.proofs.Lines.{word-first}
use Rattle.lw_genlib.proofs.reader.read_words.Goals as goal

pub returns-in-Err : goal.returns-in-Err
returns-in-Err c = λ rest.
    subst (λ (o : Outcome). BreaksAt o c.in-Err.fault)
    (sym (c.loop-place.invariant rest ∙ ap (resume c.loop-place.state) (word-first c.args.line c.args.words.now c.loop-place.place c.get-word.result.now rest c.get-word.ensures.word)))
    (c.in-Err.ensures (map (word_on c.args.line) (drop (c.loop-place.place + 1) c.args.words.now) ++ rest))

pub loop-place-preserved : goal.loop-place-preserved
loop-place-preserved c = λ rest.
    c.loop-place.invariant rest
    ∙ (ap (resume c.loop-place.state) (word-first c.args.line c.args.words.now c.loop-place.place c.get-word.result.now rest c.get-word.ensures.word)
    ∙ c.in-Ok.ensures (map (word_on c.args.line) (drop (c.loop-place.place + 1) c.args.words.now) ++ rest))
