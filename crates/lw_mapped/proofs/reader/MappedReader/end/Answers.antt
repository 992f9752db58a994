use Rattle.std.proofs.Common.{Err, sym, ◌∙◌, subst}
use Rattle.lw_mapped.specs.declared.fault.MappedFault.{MappedFault}
use Rattle.lw_mapped.specs.LineFaults.{lines_read, lines_say}
use Rattle.lw_mapped.specs.Unmapped.{IsUnmapped}
use Rattle.lw_blif_text.proofs.StandingFor.{no_fault}
use Rattle.lw_mapped.proofs.StandingFor.{comes-stopped, comes-wire, comes-closed}
use Rattle.lw_mapped.proofs.Ending.{few-lines, read-over}
use Rattle.lw_mapped.proofs.Weights.{few-gates}
use Rattle.lw_mapped.proofs.reader.MappedReader.end.Goals as goal

pub returns-in-Some-clause-answer : goal.returns-in-Some-clause-answer
returns-in-Some-clause-answer c = λ lines h.
    subst (λ (f : MappedFault). IsUnmapped c.args.lib.now lines (Err f)) (sym c.fault_of.ensures)
    (comes-stopped c.args.lib.now lines (lines_say c.args.lib.now (lines_read lines)) c.args.self.stop c.in-Some.stop c.in-Some.is h.stop)

pub returns-in-Some-wire-clause-answer : goal.returns-in-Some-wire-clause-answer
returns-in-Some-wire-clause-answer c = λ lines h.
    comes-wire c.args.lib.now lines (lines_say c.args.lib.now (lines_read lines)) c.in-Some-wire.number
    (no_fault _ _ c.args.self.stop c.args.self.parts lines c.in_default.is h) (sym c.in-Some-wire.is ∙ (h.kept c.in_default.is).wire)

pub close-requires : goal.close-requires
close-requires c = few-lines c.args.self c.args.lib.now c.in_default.is c.requires

pub returns-clause-answer : goal.returns-clause-answer
returns-clause-answer c = λ lines h.
    let kept = h.kept c.in_default.is in
    comes-closed c.args.lib.now lines (lines_say c.args.lib.now (lines_read lines)) c.close.result
    (no_fault _ _ c.args.self.stop c.args.self.parts lines c.in_default.is h) (sym c.in_default-wire.is ∙ kept.wire)
    (c.close.ensures.closes (lines_say c.args.lib.now (lines_read lines)) kept.said)

pub returns-clause-kept : goal.returns-clause-kept
returns-clause-kept c = read-over c.args.lib.now c.args.self.parts.contents c.close.result c.close.ensures

pub returns-clause-few : goal.returns-clause-few
returns-clause-few c = λ lines h.
    few-gates c.args.lib.now lines c.close.result c.len-count.ensures.kept
    (c.close.ensures.closes (lines_say c.args.lib.now (lines_read lines)) (h.kept c.in_default.is).said)
