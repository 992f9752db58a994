use Rattle.std.proofs.Common.{length, ap, sym, ◌∙◌}
use Rattle.lw_words.proofs.WordsAt.{length-words_at}
use Rattle.lw_named_netlist.specs.declared.draft.DraftGate.{DraftGate}
use Rattle.lw_named_netlist.proofs.spelled.SpelledGate.len.Goals as goal

pub returns : goal.returns
returns c =
    let s = c.self.inside in
    c.len.ensures.value ∙ (sym (length-words_at s.out s.bytes.items s.ends.items) ∙ ap (λ (gate : DraftGate). length gate.pins) c.self.view_is)
