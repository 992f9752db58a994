-- A sink that is written piece by piece.
use Rattle.std.specs.Prelude.{ℕ, ◌≡◌, [], false, List, Result}
use Rattle.std.specs.Borrow.{MutBor}
use Rattle.std.specs.declared.option.Option.{Option}
use Rattle.lw_io.specs.declared.failed.Failed.{Failed}
use Rattle.lw_io.specs.declared.writer.Writer.{Writer}
use Rattle.lw_io.specs.Waitings.{Puts, Ends}

-- nothing is put into this sink yet
pub record Begins {S : Type 0} (sink : MutBor S) (new : Writer S) : Type 0 where
  pub same : new.sink.ghost_name ≡ sink.ghost_name
  pub now : new.sink.now ≡ sink.now
  pub empty : new.waiting.bytes ≡ []
  pub unfailed : new.waiting.failed ≡ false

-- A piece is put behind what was put before, and the sink stays the same one.
pub record Writes {S : Type 0} (taken : S → Option (List ℕ)) (faults : S → ℕ) (old new : Writer S)
    (piece : List ℕ) : Type 0 where
  pub same : new.sink.ghost_name ≡ old.sink.ghost_name
  pub puts : Puts (taken old.sink.now) (faults old.sink.now) old.waiting (taken new.sink.now)
      (faults new.sink.now) new.waiting piece

-- What was put is taken, or a part of it.
pub record Ended {S : Type 0} (taken : S → Option (List ℕ)) (faults : S → ℕ) (old new : Writer S)
    (result : Result (Unit {0}) Failed) : Type 0 where
  pub same : new.sink.ghost_name ≡ old.sink.ghost_name
  pub ends : Ends (taken old.sink.now) (faults old.sink.now) old.waiting (taken new.sink.now)
      (faults new.sink.now) result
