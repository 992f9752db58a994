-- What a collection of arrival lines keeps.
use Rattle.std.specs.Prelude.{ℕ, List, unwrap_or}
use Rattle.std.specs.Str.{bytes_eq}
use Rattle.indexmap.specs.IndexMap.{get}
use Rattle.lw_fixed.specs.declared.micro.Micro.{Micro}
use Rattle.lw_frame.specs.declared.arrivals.Arrivals.{Arrivals}
use Rattle.lw_frame.specs.Starts.{at_once}

-- the start of an input of this name
abbrev pub start_kept : Arrivals → List ℕ → Micro
start_kept arrivals name = unwrap_or (get bytes_eq arrivals.own name) (unwrap_or arrivals.every at_once)
