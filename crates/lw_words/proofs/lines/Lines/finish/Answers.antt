use Rattle.std.proofs.Common.{◌++◌, refl, ap, ◌∙◌}
use Rattle.std.specs.Prelude.{option_to_list}
use Rattle.lw_words.specs.Gathering.{line_gathered}
use Rattle.lw_words.proofs.Stands.{stands-finish}
use Rattle.lw_words.proofs.lines.Lines.finish.Goals as goal

pub returns-clause-stands : goal.returns-clause-stands
returns-clause-stands c =
    let old = c.args.self.now in
    let p = c.in_ok-put_line.ensures in
    λ fed taken h.
    stands-finish old _ fed taken
    (record {
      marked = p.marked;
      finished = refl;
      fed = p.fed;
      ready = p.ready ∙ ap (λ g. old.ready.items ++ option_to_list (line_gathered old.number g)) c.in_ok-over_end.ensures;
    })
    c.requires h
