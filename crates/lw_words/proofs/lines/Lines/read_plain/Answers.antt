use Rattle.std.proofs.Common.{◌≡◌, take, refl, arith}
use Rattle.std.proofs.lemmas.List.{length-take-le}
use Rattle.lw_words.specs.Reading.{over_bytes}
use Rattle.lw_words.proofs.Steady.{reads-plain}
use Rattle.lw_words.proofs.lines.Lines.read_plain.Goals as goal

pub returns-clause-reads : goal.returns-clause-reads
returns-clause-reads c =
    let n = c.in_ok-n.n in
    let len = length-take-le n c.args.bytes.now c.in_ok-n.ensures.within in
    let gathered : c.over_plain.new.gathering ≡ over_bytes c.args.self.now.gathering (take n c.args.bytes.now) = c.in_ok-n.ensures.gathered in
    reads-plain c.args.self.now _ _
    (record { marked = refl; finished = refl; fed = omega (arith, len); place = refl; gathering = gathered; number = refl; at = refl; ready = refl })
    c.requires.text c.in_ok-n.ensures.plain
