-- What a collection of arrival lines stands for.
use Rattle.std.specs.Prelude.{ℕ, ◌≡◌, List}
use Rattle.std.specs.Str.{bytes_eq}
use Rattle.indexmap.specs.IndexMap.{get}
use Rattle.lw_frame.specs.declared.arrivals.Arrivals.{Arrivals}
use Rattle.lw_frame.specs.Starts.{Arrival, last_start, is_named, is_for_all}

-- The lines were given, in this order.
pub record StandsFor (arrivals : Arrivals) (lines : List Arrival) : Type 0 where
  pub own : (name : List ℕ) → get bytes_eq arrivals.own name ≡ last_start (is_named name) lines
  pub every : arrivals.every ≡ last_start is_for_all lines
