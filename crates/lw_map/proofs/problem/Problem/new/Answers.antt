use Rattle.std.proofs.Common.{refl}
use Rattle.lw_label.proofs.CellLaws.{patterns_of_cells}
use Rattle.lw_map.proofs.problem.Problem.new.Goals as goal

pub returns : goal.returns
returns c = record {
  lib = refl;
  network = refl;
  starts_are = refl;
  choices = refl;
  is = record {
    library = c.len.ensures.kept;
    network = c.inputs.ensures.kept;
    chosen = c.requires.choices;
    outputs = c.requires.outputs;
    early = c.requires.early;
    patterns = c.in_ok-pats.ensures.list;
    of_cells = patterns_of_cells c.args.lib.now c.len.ensures.kept c.in_ok-pats.pats c.in_ok-pats.ensures.list c.in_ok-pats.ensures.pins;
  };
}
