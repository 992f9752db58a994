use Rattle.lw_files.specs.Sources as file
use Rattle.lw_top.specs.declared.refusal.Which.TheVariants as which
use Rattle.lw_top.proofs.Files.{file_faulty, file_read}
use Rattle.lw_top.proofs.sources.read_library.Goals as goal

pub returns-in-Ok : goal.returns-in-Ok
returns-in-Ok g c = file_read (λ cells. cells) _ _ _ _ which.Library (file.ReadsLibrary c.args.name.now) c.in-Ok.library c.in-Ok.ensures

pub returns-in-Err : goal.returns-in-Err
returns-in-Err g c = file_faulty (λ cells. cells) _ _ _ _ which.Library (file.ReadsLibrary c.args.name.now) c.in-Err.fault _ c.of_file.ensures c.in-Err.ensures
