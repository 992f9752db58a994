use Rattle.std.proofs.Common.{length, ap, arith}
use Rattle.lw_words.proofs.WordsAt.{length-words_at}
use Rattle.lw_named_netlist.specs.declared.draft.DraftGate.{DraftGate}
use Rattle.lw_named_netlist.proofs.spelled.SpelledGate.pin.Goals as goal

pub name_at-requires-clause-place : goal.name_at-requires-clause-place
name_at-requires-clause-place c =
    let s = c.self.inside in
    omega (arith, c.requires, ap length c.deref-2.ensures, length-words_at s.out s.bytes.items s.ends.items, ap (λ (gate : DraftGate). length gate.pins) c.self.view_is)
