use Rattle.std.proofs.Common.{subst}
use Rattle.std.proofs.lemmas.Result.{err_from_is_err_and}
use Rattle.lw_files.specs.Reading.{Comes}
use Rattle.lw_files.proofs.Comings.{bytes_refused, bytes_read}
use Rattle.lw_equal_top.specs.Sources.{HasSource}
use Rattle.lw_equal_top.proofs.reading.read_source.Goals as goal

pub returns-in_err-bytes-clause-reads : goal.returns-in_err-bytes-clause-reads
returns-in_err-bytes-clause-reads g c =
    let p = err_from_is_err_and c.from_residual.result c.from_residual.ensures.1 in
    rw (p.1, p.2) (bytes_refused _ (λ source. source) _ _ _ _ c.args.name.now (HasSource c.args.known c.args.library.now) _ c.in_err-bytes.ensures.reads)

pub returns-clause-reads : goal.returns-clause-reads
returns-clause-reads g c =
    bytes_read _ (λ source. source) _ _ _ _ c.args.name.now (HasSource c.args.known c.args.library.now) c.in_ok-bytes.bytes c.source_in.result c.in_ok-bytes.ensures.reads
    (subst (λ b. Comes (λ source. source) (HasSource c.args.known c.args.library.now b) c.source_in.result) c.deref.ensures.value c.source_in.ensures.comes)
