use Rattle.std.proofs.Common.{◌≡◌, ◌++◌, map, drop}
use Rattle.lw_net.specs.Signs.{asked}
use Rattle.lw_form.specs.Products.{literal_numbers}
use Rattle.lw_form.proofs.products.literals.Given as goal

abbrev pub invariant-loop-column : goal.invariant-loop-column
invariant-loop-column l = l.literals.items ++ literal_numbers (drop l.column l.fanins) (drop l.column (map asked l.signs)) ≡ literal_numbers l.fanins (map asked l.signs)
