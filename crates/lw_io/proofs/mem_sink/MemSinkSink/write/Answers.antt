use Rattle.std.proofs.Common.{inl, refl, ◌∙◌, arith}
use Rattle.std.proofs.lemmas.Result.{err_from_is_err_and}
use Rattle.lw_io.proofs.mem_sink.MemSinkSink.write.Goals as goal

pub returns-in_err-call-clause-some : goal.returns-in_err-call-clause-some
returns-in_err-call-clause-some c = rw (err_from_is_err_and c.from_residual.result c.from_residual.ensures.1).1 tt

pub returns-in_err-call-clause-bytes : goal.returns-in_err-call-clause-bytes
returns-in_err-call-clause-bytes c = rw (err_from_is_err_and c.from_residual.result c.from_residual.ensures.1).1 refl

pub returns-in_err-call-clause-is_finished : goal.returns-in_err-call-clause-is_finished
returns-in_err-call-clause-is_finished c = refl

pub returns-in_err-call-clause-cause : goal.returns-in_err-call-clause-cause
returns-in_err-call-clause-cause c =
    rw (err_from_is_err_and c.from_residual.result c.from_residual.ensures.1).1 (record { later = c.call.ensures.cause.later; failed = c.in_err-call.ensures.cause.failed })

pub returns-in_err-call-clause-counted : goal.returns-in_err-call-clause-counted
returns-in_err-call-clause-counted c = c.call.ensures.counted

pub returns-in_err-call-clause-fails : goal.returns-in_err-call-clause-fails
returns-in_err-call-clause-fails c =
    rw (err_from_is_err_and c.from_residual.result c.from_residual.ensures.1).1 (λ _. inl (c.in_err-call.ensures.listed.0 refl), λ _. refl)

pub returns-in_err-call-clause-took : goal.returns-in_err-call-clause-took
returns-in_err-call-clause-took c = rw (err_from_is_err_and c.from_residual.result c.from_residual.ensures.1).1 tt

pub returns-in_err-call-clause-quiet : goal.returns-in_err-call-clause-quiet
returns-in_err-call-clause-quiet c = rw (err_from_is_err_and c.from_residual.result c.from_residual.ensures.1).1 tt

pub returns-in_err-call-clause-same : goal.returns-in_err-call-clause-same
returns-in_err-call-clause-same c = (refl, refl, c.call.ensures.same)

pub returns-then-not-is_empty-clause-cause : goal.returns-then-not-is_empty-clause-cause
returns-then-not-is_empty-clause-cause c = record {
  later = omega (arith, c.call.ensures.cause.later, c.fault.ensures.later);
  failed = omega (arith, c.call.ensures.cause.later, c.fault.ensures.faults);
}

pub returns-then-not-is_empty-clause-counted : goal.returns-then-not-is_empty-clause-counted
returns-then-not-is_empty-clause-counted c = c.fault.ensures.calls ∙ c.call.ensures.counted

pub returns-then-not-is_empty-clause-same : goal.returns-then-not-is_empty-clause-same
returns-then-not-is_empty-clause-same c = (refl, refl, c.fault.ensures.fail ∙ c.call.ensures.same)

pub returns-clause-cause : goal.returns-clause-cause
returns-clause-cause c = record { later = c.call.ensures.cause.later; failed = tt }

pub returns-clause-counted : goal.returns-clause-counted
returns-clause-counted c = c.call.ensures.counted

pub returns-clause-quiet : goal.returns-clause-quiet
returns-clause-quiet c = c.in_ok-call.ensures.quiet

pub returns-clause-same : goal.returns-clause-same
returns-clause-same c = (refl, refl, c.call.ensures.same)
