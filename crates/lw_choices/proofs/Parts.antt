-- Pins of a part.
use Rattle.std.proofs.Common.{ℕ, ◌-◌, ◌<◌, List, [], ◌∷◌}
use Rattle.std.specs.List.{All, AllByRecursion}
use Rattle.std.proofs.lemmas.List.Elements.{All-from_recursion}
use Rattle.lw_pool.specs.declared.id.ClassId.{ClassId}
use Rattle.lw_pool.specs.Numbers.{numbers}

pub within_pins : (n : ℕ) (pins : List ClassId) → AllByRecursion (λ p. p < n) (numbers pins) → All (λ (c : ClassId). c.0 < n) pins
within_pins n pins all = All-from_recursion (λ (c : ClassId). c.0 < n) pins (each pins all)
  where
    each : (ps : List ClassId) → AllByRecursion (λ p. p < n) (numbers ps) → AllByRecursion (λ (c : ClassId). c.0 < n) ps
    each [] all = tt
    each (p ∷ ps) (lt, all) = (lt, each ps all)
