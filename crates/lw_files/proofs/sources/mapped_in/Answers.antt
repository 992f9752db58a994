use Rattle.std.proofs.Common.{◌≡◌, ◌∙◌, Result, Ok, Err, true, false, sym, subst, arith}
use Rattle.std.specs.Prelude.{T, OnOk, is_err}
use Rattle.lw_words.proofs.Weights.{weights_fit}
use Rattle.lw_mapped.specs.declared.fault.MappedFault.{MappedFault}
use Rattle.lw_mapped.specs.Unmapped.{IsUnmapped}
use Rattle.lw_files.specs.Sources.{marked_lines_in}
use Rattle.lw_files.proofs.Kept.{few_words}
use Rattle.lw_files.proofs.sources.mapped_in.Goals as goal

-- what a call gives that did not fail
unless_failed : {X E P : Type 0} (r : Result X E) → is_err r ≡ false → OnOk r P → P
unless_failed (Ok x) fine p = p
unless_failed (Err e) fine p = absurd (subst T fine tt)

pub read_lines-requires-clause-few : goal.read_lines-requires-clause-few
read_lines-requires-clause-few c = c.requires

pub read_lines-requires-clause-unread : goal.read_lines-requires-clause-unread
read_lines-requires-clause-unread c = c.new-reader.ensures c.args.library.now

pub returns-then-is_err-clause-comes : goal.returns-then-is_err-clause-comes
returns-then-is_err-clause-comes c = tt

pub returns-then-is_err-clause-kept : goal.returns-then-is_err-clause-kept
returns-then-is_err-clause-kept c = tt

pub end-requires : goal.end-requires
end-requires c = record { lines = marked_lines_in c.args.bytes.now; stands = unless_failed c.read_lines.result (sym c.is_err.ensures.value ∙ c.if-is_err.false) c.read_lines.ensures; few = few_words c.args.bytes.now c.requires }

pub returns-in-Ok-clause-comes : goal.returns-in-Ok-clause-comes
returns-in-Ok-clause-comes c = λ files. c.in-Ok.ensures.answer (marked_lines_in c.args.bytes.now) (unless_failed c.read_lines.result (sym c.is_err.ensures.value ∙ c.if-is_err.false) c.read_lines.ensures)

pub returns-in-Ok-clause-kept : goal.returns-in-Ok-clause-kept
returns-in-Ok-clause-kept c =
    let few = c.in-Ok.ensures.few (marked_lines_in c.args.bytes.now) (unless_failed c.read_lines.result (sym c.is_err.ensures.value ∙ c.if-is_err.false) c.read_lines.ensures) in
    record { over = c.in-Ok.ensures.kept.over; fits = c.in-Ok.ensures.kept.fits; few = omega (arith, few, weights_fit true c.args.bytes.now, c.requires) }

pub returns-in-Err-Line-clause-comes : goal.returns-in-Err-Line-clause-comes
returns-in-Err-Line-clause-comes c = λ files. subst (λ (e : MappedFault). IsUnmapped c.args.library.now (marked_lines_in c.args.bytes.now) (Err e)) c.in-Err-Line.field-0-is (c.in-Err-Line.ensures.answer (marked_lines_in c.args.bytes.now) (unless_failed c.read_lines.result (sym c.is_err.ensures.value ∙ c.if-is_err.false) c.read_lines.ensures))

pub returns-in-Err-Line-clause-kept : goal.returns-in-Err-Line-clause-kept
returns-in-Err-Line-clause-kept c = tt

pub returns-in-Err-Whole-Twice-clause-kept : goal.returns-in-Err-Whole-Twice-clause-kept
returns-in-Err-Whole-Twice-clause-kept c = tt

pub returns-in-Err-Whole-Undriven-clause-kept : goal.returns-in-Err-Whole-Undriven-clause-kept
returns-in-Err-Whole-Undriven-clause-kept c = tt

pub returns-in-Err-Whole-Cycle-clause-kept : goal.returns-in-Err-Whole-Cycle-clause-kept
returns-in-Err-Whole-Cycle-clause-kept c = tt

pub returns-in-Err-Whole-Memory-clause-comes : goal.returns-in-Err-Whole-Memory-clause-comes
returns-in-Err-Whole-Memory-clause-comes c = tt

pub returns-in-Err-Whole-Memory-clause-kept : goal.returns-in-Err-Whole-Memory-clause-kept
returns-in-Err-Whole-Memory-clause-kept c = tt
