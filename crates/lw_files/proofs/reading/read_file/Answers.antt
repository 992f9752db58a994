use Rattle.std.proofs.Common.{◌∙◌, arith}
use Rattle.lw_files.proofs.Told.{not_read, read_whole, read_long}
use Rattle.lw_files.proofs.reading.read_file.Goals as goal

pub returns-in_default-clause-reads : goal.returns-in_default-clause-reads
returns-in_default-clause-reads g c = record {
  files = c.open.ensures.files;
  later = c.open.ensures.later;
  reads = not_read _ _ _ _ c.in_default.ensures.cause;
}

pub returns-in-Ok-Some-clause-reads : goal.returns-in-Ok-Some-clause-reads
returns-in-Ok-Some-clause-reads g c = record {
  files = c.read_all.ensures.stays.files ∙ c.open.ensures.files;
  later = omega (arith, c.open.ensures.later, c.read_all.ensures.stays.later);
  reads = λ files is. read_whole _ c.args.name.now _ _ files c.in-Ok.ensures.opens (λ bytes left. rw c.in-Ok-Some.field-0-is at (c.in-Ok-Some.ensures.text.whole bytes left)) is;
}

pub returns-in-Ok-None-clause-reads : goal.returns-in-Ok-None-clause-reads
returns-in-Ok-None-clause-reads g c = record {
  files = c.read_all.ensures.stays.files ∙ c.open.ensures.files;
  later = omega (arith, c.open.ensures.later, c.read_all.ensures.stays.later);
  reads = λ files is. read_long _ c.args.name.now _ files c.in-Ok.ensures.opens (λ bytes left. rw c.in-Ok-None.field-0-is at (c.in-Ok-None.ensures.text.whole bytes left)) is;
}
