use Rattle.std.proofs.Common.{◌≡◌, Some, sym, subst}
use Rattle.lw_genlib.specs.declared.state_parts.Expect.{Expect}
use Rattle.lw_genlib.specs.Entries as words
use Rattle.lw_genlib.specs.Libraries as library
use Rattle.lw_genlib.specs.Fields.{fields_behind}
use Rattle.lw_genlib.specs.Standing.{resume, reads_on, piece_at}
use Rattle.lw_genlib.proofs.Steps.{field-next, field-last}
use Rattle.lw_genlib.proofs.read_word.behind_field.Goals as goal
use Rattle.lw_genlib.proofs.read_word.behind_field.Goals.{in-Some, in-None}

pub returns : goal.returns
unfolding resume
returns c = λ rest.
    elim c.match-next.branch [
      | in-Some w ↦ subst (λ (p : Expect). reads_on (piece_at c.args.before.so_far p rest)
          ≡ reads_on (library.piece_by (library.opened_by (library.with_open c.args.before.so_far (Some c.args.entry)) (words.behind_target c.args.entry c.args.pin.pins (fields_behind c.args.field) c.args.pin.delay rest)))) (sym w.expect-is)
          (field-next c.args.before.so_far c.args.entry c.args.pin c.args.field w.in-Some.next rest w.in-Some.ensures)
      | in-None w ↦ subst (λ (p : Expect). reads_on (piece_at c.args.before.so_far p rest)
          ≡ reads_on (library.piece_by (library.opened_by (library.with_open c.args.before.so_far (Some c.args.entry)) (words.behind_target c.args.entry c.args.pin.pins (fields_behind c.args.field) c.args.pin.delay rest)))) (sym w.expect-is)
          (field-last c.args.before.so_far c.args.entry w.with_delay.result c.args.pin.pins c.args.field c.args.pin.delay rest w.in-None.ensures w.with_delay.ensures)
    ]
