use Rattle.lw_form.proofs.Rows.{CubesSoFar}
use Rattle.lw_form.proofs.maker.Fanins.cubes.Given as goal

abbrev pub invariant-loop-row : goal.invariant-loop-row
invariant-loop-row l = CubesSoFar l.self.maker.now.width l.initial.table l.table l.self.forms.now l.rows l.row-index l.cubes.items
