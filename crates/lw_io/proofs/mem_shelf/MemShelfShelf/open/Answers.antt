use Rattle.std.proofs.Common.{◌≡◌, None, inl, inr, refl, sym, subst, true≢false}
use Rattle.std.proofs.lemmas.Result.{err_from_is_err_and}
use Rattle.lw_io.specs.Files.{bytes_of}
use Rattle.lw_io.proofs.Putting.{true_is_false}
use Rattle.lw_io.proofs.mem_shelf.MemShelfShelf.open.Goals as goal

pub returns-in_err-call-clause-files : goal.returns-in_err-call-clause-files
returns-in_err-call-clause-files c = refl

pub returns-in_err-call-clause-is_open : goal.returns-in_err-call-clause-is_open
returns-in_err-call-clause-is_open c = rw (err_from_is_err_and c.from_residual.result c.from_residual.ensures.1).1 tt

pub returns-in_err-call-clause-opens : goal.returns-in_err-call-clause-opens
returns-in_err-call-clause-opens c = rw (err_from_is_err_and c.from_residual.result c.from_residual.ensures.1).1 tt

pub returns-in_err-call-clause-later : goal.returns-in_err-call-clause-later
returns-in_err-call-clause-later c = c.call.ensures.cause.later

pub returns-in_err-call-clause-cause : goal.returns-in_err-call-clause-cause
returns-in_err-call-clause-cause c =
    rw (err_from_is_err_and c.from_residual.result c.from_residual.ensures.1).1 (inl c.in_err-call.ensures.cause.failed)

pub returns-in_err-call-clause-is_closed : goal.returns-in_err-call-clause-is_closed
returns-in_err-call-clause-is_closed c =
    rw (err_from_is_err_and c.from_residual.result c.from_residual.ensures.1).1 (λ e. true≢false (sym e))

pub returns-in_err-call-clause-counted : goal.returns-in_err-call-clause-counted
returns-in_err-call-clause-counted c = c.call.ensures.counted

pub returns-in_err-call-clause-fails : goal.returns-in_err-call-clause-fails
returns-in_err-call-clause-fails c =
    rw (err_from_is_err_and c.from_residual.result c.from_residual.ensures.1).1 (λ _. inl (c.in_err-call.ensures.listed.0 refl), λ _. refl)

pub returns-in_err-call-clause-listed : goal.returns-in_err-call-clause-listed
returns-in_err-call-clause-listed c = λ _. c.in_err-call.ensures.cause.failed

pub returns-in_err-call-clause-quiet : goal.returns-in_err-call-clause-quiet
returns-in_err-call-clause-quiet c = λ unlisted. absurd (unlisted (c.in_err-call.ensures.listed.0 refl))

pub returns-in_err-call-clause-same : goal.returns-in_err-call-clause-same
returns-in_err-call-clause-same c = (refl, c.call.ensures.same)

pub returns-in-None-clause-later : goal.returns-in-None-clause-later
returns-in-None-clause-later c = c.call.ensures.cause.later

pub returns-in-None-clause-cause : goal.returns-in-None-clause-cause
returns-in-None-clause-cause c = inr (subst (λ files. bytes_of files c.args.name.now ≡ None) c.deref.ensures.value c.in-None.ensures.none)

pub returns-in-None-clause-counted : goal.returns-in-None-clause-counted
returns-in-None-clause-counted c = c.call.ensures.counted

pub returns-in-None-clause-fails : goal.returns-in-None-clause-fails
returns-in-None-clause-fails c = (λ _. inr (subst (λ files. bytes_of files c.args.name.now ≡ None) c.deref.ensures.value c.in-None.ensures.none), λ _. refl)

pub returns-in-None-clause-listed : goal.returns-in-None-clause-listed
returns-in-None-clause-listed c = λ listed. true_is_false (sym (c.in_ok-call.ensures.listed.1 listed))

pub returns-in-None-clause-quiet : goal.returns-in-None-clause-quiet
returns-in-None-clause-quiet c = λ _. c.in_ok-call.ensures.quiet

pub returns-in-None-clause-same : goal.returns-in-None-clause-same
returns-in-None-clause-same c = (refl, c.call.ensures.same)

pub returns-in-Some-clause-later : goal.returns-in-Some-clause-later
returns-in-Some-clause-later c = c.call.ensures.cause.later

pub returns-in-Some-clause-counted : goal.returns-in-Some-clause-counted
returns-in-Some-clause-counted c = c.call.ensures.counted

pub returns-in-Some-clause-listed : goal.returns-in-Some-clause-listed
returns-in-Some-clause-listed c = λ listed. true_is_false (sym (c.in_ok-call.ensures.listed.1 listed))

pub returns-in-Some-clause-quiet : goal.returns-in-Some-clause-quiet
returns-in-Some-clause-quiet c = λ _. c.in_ok-call.ensures.quiet

pub returns-in-Some-clause-same : goal.returns-in-Some-clause-same
returns-in-Some-clause-same c = (refl, c.call.ensures.same)
