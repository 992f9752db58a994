-- What a generator keeps.
use Rattle.std.specs.Prelude.{ℕ, ◌+◌, ◌≡◌}
use Rattle.lw_big.specs.declared.draws.Draws.{Draws}
use Rattle.lw_big.specs.Draws.{draw, state_after}

-- So many numbers were drawn from the seed.
abbrev pub HasDrawn : ℕ → ℕ → Draws → Type 0
HasDrawn seed count draws = draws.state ≡ state_after seed count

-- The next number of whatever seed is drawn.
pub record DrawsNext (old new : Draws) (drawn : ℕ) : Type 0 where
  pub value : (seed count : ℕ) → HasDrawn seed count old → drawn ≡ draw seed count
  pub draws : (seed count : ℕ) → HasDrawn seed count old → HasDrawn seed (count + 1) new
