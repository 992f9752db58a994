use Rattle.std.proofs.Common.{◌∷◌, ◌++◌, [], length, take}
use Rattle.lw_joined.specs.Unions.{IsUnionOf, ends_from, first_of, united_to}
use Rattle.lw_joined.proofs.uniting.union_of.Given as goal

abbrev pub invariant-loop-k : goal.invariant-loop-k
invariant-loop-k l =
    IsUnionOf (united_to (first_of l.net) (take l.k l.others) (take l.k l.taken))
    (length (first_of l.net).names ∷ [] ++ ends_from (first_of l.net) (take l.k l.others) (take l.k l.taken)) l.union
