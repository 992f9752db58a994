use Rattle.lw_blif.proofs.Keeping.{kept-start}
use Rattle.lw_blif.proofs.parts.Parts.new.Goals as goal

pub returns : goal.returns
returns c = record {
  names = kept-start _ _ _ _ c.new.ensures c.new-2.ensures.empty c.new-3.ensures.empty c.new-6.ensures;
  around = record { latches_are = c.new-4.ensures; arrivals_are = c.new-5.ensures };
}
