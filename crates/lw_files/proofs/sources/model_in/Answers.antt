use Rattle.std.proofs.Common.{◌≡◌, ◌∙◌, Result, Ok, Err, false, sym, subst}
use Rattle.std.specs.Prelude.{T, OnOk, is_err}
use Rattle.lw_blif.specs.declared.fault.BlifFault.{BlifFault}
use Rattle.lw_blif.specs.BlifNetworks.{IsBlifNetwork}
use Rattle.lw_files.specs.Sources.{lines_in}
use Rattle.lw_files.proofs.sources.model_in.Goals as goal

-- what a call gives that did not fail
unless_failed : {X E P : Type 0} (r : Result X E) → is_err r ≡ false → OnOk r P → P
unless_failed (Ok x) fine p = p
unless_failed (Err e) fine p = absurd (subst T fine tt)

pub read_lines-requires-clause-few : goal.read_lines-requires-clause-few
read_lines-requires-clause-few c = c.requires

pub read_lines-requires-clause-unread : goal.read_lines-requires-clause-unread
read_lines-requires-clause-unread c = c.new-reader.ensures

pub returns-then-is_err-clause-comes : goal.returns-then-is_err-clause-comes
returns-then-is_err-clause-comes c = tt

pub returns-then-is_err-clause-model : goal.returns-then-is_err-clause-model
returns-then-is_err-clause-model c = tt

pub returns-in-Ok-clause-comes : goal.returns-in-Ok-clause-comes
returns-in-Ok-clause-comes c = λ files. c.in-Ok.ensures.answer (lines_in c.args.bytes.now) (unless_failed c.read_lines.result (sym c.is_err.ensures.value ∙ c.if-is_err.false) c.read_lines.ensures)

pub returns-in-Ok-clause-model : goal.returns-in-Ok-clause-model
returns-in-Ok-clause-model c = c.in-Ok.ensures.model

pub returns-in-Err-Line-clause-comes : goal.returns-in-Err-Line-clause-comes
returns-in-Err-Line-clause-comes c = λ files. subst (λ (e : BlifFault). IsBlifNetwork (lines_in c.args.bytes.now) (Err e)) c.in-Err-Line.field-0-is (c.in-Err-Line.ensures.answer (lines_in c.args.bytes.now) (unless_failed c.read_lines.result (sym c.is_err.ensures.value ∙ c.if-is_err.false) c.read_lines.ensures))

pub returns-in-Err-Line-clause-model : goal.returns-in-Err-Line-clause-model
returns-in-Err-Line-clause-model c = tt

pub returns-in-Err-Whole-Undefined-clause-model : goal.returns-in-Err-Whole-Undefined-clause-model
returns-in-Err-Whole-Undefined-clause-model c = tt

pub returns-in-Err-Whole-Cycle-clause-model : goal.returns-in-Err-Whole-Cycle-clause-model
returns-in-Err-Whole-Cycle-clause-model c = tt

pub returns-in-Err-Whole-Memory-clause-comes : goal.returns-in-Err-Whole-Memory-clause-comes
returns-in-Err-Whole-Memory-clause-comes c = tt

pub returns-in-Err-Whole-Memory-clause-model : goal.returns-in-Err-Whole-Memory-clause-model
returns-in-Err-Whole-Memory-clause-model c = tt
