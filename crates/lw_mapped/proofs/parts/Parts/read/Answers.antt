use Rattle.std.proofs.Common.{Option, Some, None, Ok, Err, cond, drop, ap, sym, ◌∙◌, subst}
use Rattle.lw_words.specs.Lines.{LogicalLine}
use Rattle.lw_mapped.specs.declared.fault.MappedKind.{MappedKind}
use Rattle.lw_mapped.specs.declared.fault.MappedKind.TheVariants as kind
use Rattle.lw_mapped.specs.Parsed.{TellsFault, Says}
use Rattle.lw_mapped.specs.Sayings.{command_says}
use Rattle.lw_mapped.specs.LineFaults.{is_row, is_names_command, lines_say}
use Rattle.lw_mapped.proofs.Limits.{fits}
use Rattle.lw_mapped.proofs.ReadingLemmas.{fault-long, fault-row, fault-says, wire-last, refused-alone, said-told, said-keeps, is-wire, no-wire, row-ok, row-keeps, take-ok}
use Rattle.lw_mapped.proofs.parts.Parts.read.Goals as goal

pub returns-then-line-clause-fault : goal.returns-then-line-clause-fault
returns-then-line-clause-fault c = λ lines k.
    fault-long c.args.lib.now lines c.args.line.now (sym (ap (λ (l : LogicalLine). l.long) c.line.view_is) ∙ c.if-line.true)

pub returns-then-is_some-clause-fault : goal.returns-then-is_some-clause-fault
returns-then-is_some-clause-fault c = λ lines k.
    let wire = is-wire c.args.self.now.wire (sym c.is_some.ensures ∙ c.if-is_some.true) in
    let short = sym (ap (λ (l : LogicalLine). l.long) c.line.view_is) ∙ c.if-line.false in
    let row = fault-row c.args.lib.now lines c.args.line.now wire.0 short (sym wire.1 ∙ k.wire) in
    subst (λ (f : Option MappedKind). TellsFault c.read_row.result f) (ap (λ (l : LogicalLine). cond (is_row l.words) None (Some kind.Shape)) c.line.view_is ∙ sym row) c.read_row.ensures.fault

pub returns-then-is_some-clause-keeps : goal.returns-then-is_some-clause-keeps
returns-then-is_some-clause-keeps c =
    row-ok c.read_row.result (is_row c.line.inside.words) _ _ c.read_row.ensures.fault c.read_row.ensures.wire
    (λ row wire lines k. row-keeps c.args.lib.now c.args.self.now c.read_row.new.self lines c.args.line.now (sym (ap (λ (l : LogicalLine). is_row l.words) c.line.view_is) ∙ row) wire c.read_row.ensures.contents k)

pub returns-in-Err-clause-fault : goal.returns-in-Err-clause-fault
returns-in-Err-clause-fault c = λ lines k.
    let wire = sym (no-wire c.args.self.now.wire (sym c.is_some.ensures ∙ c.if-is_some.false)) ∙ k.wire in
    let short = sym (ap (λ (l : LogicalLine). l.long) c.line.view_is) ∙ c.if-line.false in
    let says = subst (λ (l : LogicalLine). Says (Err c.in-Err.refusal) (command_says c.args.lib.now c.args.asked (drop 1 l.words))) c.line.view_is c.in-Err.ensures in
    subst (TellsFault (Err c.in-Err.refusal)) (sym (fault-says c.args.lib.now lines c.args.line.now c.args.asked short wire c.requires))
    (refused-alone (lines_say c.args.lib.now lines) (command_says c.args.lib.now c.args.asked (drop 1 c.args.line.now.words)) c.in-Err.refusal says)

pub take-requires : goal.take-requires
take-requires c = fits (Ok c.in-Ok.saying) c.args.lib.now c.args.asked (drop 1 c.line.inside.words) c.in-Ok.ensures

pub returns-in-Ok-clause-fault : goal.returns-in-Ok-clause-fault
returns-in-Ok-clause-fault c = λ lines k.
    let wire = sym (no-wire c.args.self.now.wire (sym c.is_some.ensures ∙ c.if-is_some.false)) ∙ k.wire in
    let short = sym (ap (λ (l : LogicalLine). l.long) c.line.view_is) ∙ c.if-line.false in
    let says = ap (λ (l : LogicalLine). command_says c.args.lib.now c.args.asked (drop 1 l.words)) (sym c.line.view_is) ∙ c.in-Ok.ensures in
    subst (TellsFault c.take.result) (sym (fault-says c.args.lib.now lines c.args.line.now c.args.asked short wire c.requires))
    (said-told (lines_say c.args.lib.now lines) (command_says c.args.lib.now c.args.asked (drop 1 c.args.line.now.words)) c.in-Ok.saying c.take.result says (c.take.ensures.fault (lines_say c.args.lib.now lines) k.said))

pub returns-in-Ok-clause-keeps : goal.returns-in-Ok-clause-keeps
returns-in-Ok-clause-keeps c =
    let says = ap (λ (l : LogicalLine). command_says c.args.lib.now c.args.asked (drop 1 l.words)) (sym c.line.view_is) ∙ c.in-Ok.ensures in
    take-ok c.take.result _ _ _ c.take.ensures.takes c.take.ensures.wire
    (λ takes at lines k. record {
      wire = at ∙ (c.wire_at.ensures
          ∙ (ap (λ (l : LogicalLine). cond (is_names_command c.args.asked) (Some l.number) None) c.line.view_is
          ∙ (ap (λ a. cond (is_names_command a) (Some c.args.line.now.number) None) c.requires ∙ sym (wire-last lines c.args.line.now))));
      said = said-keeps c.args.lib.now c.args.self.now.contents c.take.new.self.contents lines c.args.line.now c.args.asked c.in-Ok.saying c.requires says takes k.said;
    })
