-- Passes that go on until nothing changes.
use Rattle.std.specs.Prelude.{ℕ, ◌<◌, ◌≡◌, Bool, true, false}

-- something has changed and the weight has fallen, or nothing has and nothing would at these classes
pub record Passes {S : Type 0} (weight : S → ℕ) (IsStill : S → ℕ → Type 0) (old new : S) (at : ℕ → Type 0)
    (changed : Bool) : Type 0 where
  pub falls : changed ≡ true → weight new < weight old
  pub same : changed ≡ false → new ≡ old
  pub still : changed ≡ false → (c : ℕ) → at c → IsStill old c
