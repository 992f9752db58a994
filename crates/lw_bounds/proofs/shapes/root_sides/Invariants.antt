use Rattle.std.proofs.Common.{ℕ, ◌≡◌, List, length, map}
use Rattle.lw_bounds.specs.declared.parts.Part.{Part}
use Rattle.lw_bounds.specs.Shapes.{AllHaveShapes, HaveRootShapes}
use Rattle.lw_bounds.proofs.shapes.root_sides.Given as goal

abbrev pub invariant-loop-number : goal.invariant-loop-number
invariant-loop-number l = record {
  count : length l.roots.items ≡ l.number;
  shapes : (parts : List Part) (gaps : List (List ℕ)) → AllHaveShapes parts gaps l.pats (map (λ sides. sides.items) l.all) → HaveRootShapes parts gaps l.pats l.roots.items;
}
