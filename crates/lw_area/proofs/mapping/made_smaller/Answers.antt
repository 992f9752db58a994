use Rattle.std.proofs.Common.{refl}
use Rattle.lw_area.proofs.Made.{first_of}
use Rattle.lw_area.proofs.mapping.made_smaller.Goals as goal

pub certified-requires-clause-case : goal.certified-requires-clause-case
certified-requires-clause-case c = record {
  library = c.len.ensures.kept;
  network = c.inputs.ensures.kept;
  model = c.requires.sources.model;
  joined = c.requires.joined.joined;
  options = c.requires.joined.options_are;
  labels = c.requires.covered.least;
}

pub certified-requires-clause-first : goal.certified-requires-clause-first
certified-requires-clause-first c = first_of _ c.requires.joined.joined c.requires.joined.options_are c.args.covered refl c.requires.covered
