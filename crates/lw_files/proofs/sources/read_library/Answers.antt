use Rattle.std.proofs.Common.{subst}
use Rattle.std.proofs.lemmas.Result.{err_from_is_err_and}
use Rattle.lw_files.specs.Sources.{HasCells}
use Rattle.lw_files.specs.Reading.{Comes}
use Rattle.lw_files.proofs.Comings.{bytes_refused, bytes_read}
use Rattle.lw_files.proofs.sources.read_library.Goals as goal

pub returns-in_err-bytes : goal.returns-in_err-bytes
returns-in_err-bytes g c =
    let p = err_from_is_err_and c.from_residual.result c.from_residual.ensures.1 in
    rw (p.1, p.2) (bytes_refused _ (λ cells. cells) _ _ _ _ c.args.name.now HasCells _ c.in_err-bytes.ensures.reads)

pub returns : goal.returns
returns g c =
    bytes_read _ (λ cells. cells) _ _ _ _ c.args.name.now HasCells c.in_ok-bytes.bytes c.library_in.result c.in_ok-bytes.ensures.reads
    (subst (λ b. Comes (λ cells. cells) (HasCells b) c.library_in.result) c.deref.ensures.value c.library_in.ensures)
