use Rattle.std.proofs.Common.{◌<◌, Some, ap, sym, ◌∙◌, arith, length}
use Rattle.std.proofs.lemmas.Bool.Decides.{nat_tests}
use Rattle.lw_words.specs.Gathering.{line_gathered, Gathered}
use Rattle.lw_words.proofs.WordsAt.{length-words_at}
use Rattle.lw_words.proofs.GatheredMore.{IsLine-gathered, line-gathered}
use Rattle.lw_words.proofs.gathering.Gathering.take_line.Goals as goal

pub invariant_of-result : goal.invariant_of-result
invariant_of-result c =
    let some : 0 < length c.self.inside.ends.items = grind (arith, nat_tests) in
    let same = ap (λ (g : Gathered). length g.words) (c.bytes.view_is ∙ (c.replace.ensures.value ∙ sym c.self.view_is)) in
    let before = length-words_at 0 c.self.inside.bytes.items c.self.inside.ends.items in
    let behind = length-words_at 0 c.bytes.inside.bytes.items c.bytes.inside.ends.items in
    rw c.new-2.ensures (IsLine-gathered _ _ _ _ c.bytes.invariant (omega arith))

pub returns-clause-line : goal.returns-clause-line
returns-clause-line c =
    let some : 0 < length c.self.inside.ends.items = grind (arith, nat_tests) in
    let same = ap (λ (g : Gathered). length g.words) (c.bytes.view_is ∙ (c.replace.ensures.value ∙ sym c.self.view_is)) in
    let before = length-words_at 0 c.self.inside.bytes.items c.self.inside.ends.items in
    let behind = length-words_at 0 c.bytes.inside.bytes.items c.bytes.inside.ends.items in
    ap (λ ws. Some (record { number = c.args.number; long = c.bytes.inside.long; words = ws })) c.new-2.ensures
    ∙ (line-gathered c.bytes.inside.bytes.items c.bytes.inside.ends.items c.bytes.inside.start c.bytes.inside.long c.args.number (omega arith)
    ∙ ap (line_gathered c.args.number) (c.bytes.view_is ∙ c.replace.ensures.value))
