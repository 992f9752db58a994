use Rattle.lw_files.specs.Steps.{gives}
use Rattle.lw_files.specs.Sources as file
use Rattle.lw_top.proofs.Files.{file_faulty, file_read}
use Rattle.lw_top.proofs.sources.read_text.Goals as goal

pub returns-in-Ok-clause-reads : goal.returns-in-Ok-clause-reads
returns-in-Ok-clause-reads g c = file_read (λ v. v.items) _ _ _ _ c.args.which (gives (file.text_of c.args.name.now)) c.in-Ok.bytes c.in-Ok.ensures.reads

pub returns-in-Err-clause-reads : goal.returns-in-Err-clause-reads
returns-in-Err-clause-reads g c = file_faulty (λ v. v.items) _ _ _ _ c.args.which (gives (file.text_of c.args.name.now)) c.in-Err.fault _ c.of_file.ensures c.in-Err.ensures.reads
