use Rattle.std.proofs.Common.{◌≡◌, map, take}
use Rattle.lw_net.specs.Signs.{asked}
use Rattle.lw_form.proofs.occurring.rows_of.Given as goal

abbrev pub invariant-loop-cube : goal.invariant-loop-cube
invariant-loop-cube l = l.rows.items ≡ map (map asked) (take l.cube-index l.cubes)
