-- What a sink was given, and what waits to be given.
use Rattle.std.specs.Prelude.{ℕ, ◌≡◌, ◌≤◌, Bool, true, false, List, ◌++◌, Result, OnOk, OnErr}
use Rattle.std.specs.declared.option.Option.{Option}
use Rattle.std.specs.Io.KnownBytes.{Appends}
use Rattle.lw_io.specs.declared.failed.Failed.{Failed}
use Rattle.lw_io.specs.Causes.{Rose, HasCause}
use Rattle.lw_io.specs.Moves.{AppendsPrefix, IsWrittenUpTo}

-- bytes that wait, and whether the sink has failed
pub record Pending : Type 0 where
  pub bytes : List ℕ
  pub failed : Bool

-- Since a sink had taken `start`, at `count` faults, the text was put: the sink has taken all but what waits, or a part
-- where it failed.
pub record IsPut (start : Option (List ℕ)) (count : ℕ) (taken : Option (List ℕ)) (faults : ℕ) (pending : Pending)
    (text : List ℕ) : Type 0 where
  pub later : count ≤ faults
  pub whole : pending.failed ≡ false → IsWrittenUpTo start taken text pending.bytes
  pub part : pending.failed ≡ true → AppendsPrefix start taken text
  pub cause : pending.failed ≡ true → Rose count faults

-- a piece is put behind what was put before
pub record Puts (taken : Option (List ℕ)) (faults : ℕ) (pending : Pending) (taken' : Option (List ℕ)) (faults' : ℕ)
    (pending' : Pending) (piece : List ℕ) : Type 0 where
  pub stands : (start : Option (List ℕ)) (count : ℕ) (text : List ℕ) → IsPut start count taken faults pending text
      → IsPut start count taken' faults' pending' (text ++ piece)

-- The text was taken, or a part of it where the sink failed.
pub record IsTaken (start : Option (List ℕ)) (count : ℕ) (taken : Option (List ℕ)) (faults : ℕ) (text : List ℕ)
    (result : Result (Unit {0}) Failed) : Type 0 where
  pub ok : OnOk result (Appends start taken text)
  pub failed : OnErr result (AppendsPrefix start taken text)
  pub cause : HasCause count faults result

-- what was put is taken, or a part of it
pub record Ends (taken : Option (List ℕ)) (faults : ℕ) (pending : Pending) (taken' : Option (List ℕ)) (faults' : ℕ)
    (result : Result (Unit {0}) Failed) : Type 0 where
  pub stands : (start : Option (List ℕ)) (count : ℕ) (text : List ℕ) → IsPut start count taken faults pending text
      → IsTaken start count taken' faults' text result
