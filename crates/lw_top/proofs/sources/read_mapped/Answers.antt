use Rattle.lw_files.specs.Sources as file
use Rattle.lw_top.specs.declared.refusal.Which.TheVariants as which
use Rattle.lw_top.proofs.Files.{file_faulty, file_read}
use Rattle.lw_top.proofs.sources.read_mapped.Goals as goal

pub returns-in-Ok-clause-reads : goal.returns-in-Ok-clause-reads
returns-in-Ok-clause-reads g c = file_read (λ mapped. mapped) _ _ _ _ which.Mapped (file.ReadsMapped c.args.name.now c.args.library.now) c.in-Ok.mapped c.in-Ok.ensures.reads

pub returns-in-Err-clause-reads : goal.returns-in-Err-clause-reads
returns-in-Err-clause-reads g c = file_faulty (λ mapped. mapped) _ _ _ _ which.Mapped (file.ReadsMapped c.args.name.now c.args.library.now) c.in-Err.fault _ c.of_file.ensures c.in-Err.ensures.reads
