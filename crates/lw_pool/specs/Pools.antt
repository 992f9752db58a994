-- What a pool is seen as.
use Rattle.std.specs.Prelude.{ℕ, List}

-- the entries by their numbers, and how many more may be pushed without memory
pub record PoolState (T : Type 0) : Type 0 where
  pub items : List T
  pub spare : ℕ
