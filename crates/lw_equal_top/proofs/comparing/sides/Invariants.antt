use Rattle.std.proofs.Common.{take, All}
use Rattle.lw_equal.specs.Sides.{IsSide}
use Rattle.lw_equal_top.specs.Sources.{AreSides}
use Rattle.lw_equal_top.proofs.comparing.sides.Given as goal

abbrev pub invariant-sources : goal.invariant-sources
invariant-sources l = record {
  of : AreSides l.library (take l.source-index l.sources) l.sides.items;
  all : All IsSide l.sides.items;
}
