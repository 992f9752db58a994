use Rattle.lw_genlib.specs.Entries as words
use Rattle.lw_genlib.proofs.Steps.{larger-fault}
use Rattle.lw_genlib.proofs.fields.larger.Goals as goal

pub returns-in-Err : goal.returns-in-Err
returns-in-Err c = larger-fault c.args.given.now.line c.args.delay (words.number_of c.args.given.now.word.now) c.in-Err.fault c.in-Err.ensures
