-- The first time of two queues is in time.
use Rattle.std.proofs.Common.{ℕ, ◌≤◌, Some, inl, inr, arith}
use Rattle.lw_queue.specs.Queues.{IsFirstOf}
use Rattle.lw_curves.specs.Settling.{Turns, AreInTime}

-- the first time of two queues is one of theirs
pub first_within : (now choices time : ℕ) (w : Turns) → AreInTime now choices w → IsFirstOf w.coming w.looked (Some time) → (now ≤ time) × (time ≤ w.coming.horizon)
first_within now choices time w in_time (inl (n, v), first, second) = ((in_time.coming time n v).0, v.0)
first_within now choices time w in_time (inr (n, v), first, second) = ((in_time.looked time n v).0, let le = v.0 in omega (arith, le, in_time.horizon))
