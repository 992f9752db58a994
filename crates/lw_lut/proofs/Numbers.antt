-- The numbers of classes.
use Rattle.std.proofs.Common.{◌≡◌, List, [], ◌∷◌, length, refl, ap, suc}
use Rattle.lw_pool.specs.declared.id.ClassId.{ClassId}
use Rattle.lw_pool.specs.Numbers.{numbers}

pub long : (xs : List ClassId) → length (numbers xs) ≡ length xs
long [] = refl
long (x ∷ xs) = ap suc (long xs)
