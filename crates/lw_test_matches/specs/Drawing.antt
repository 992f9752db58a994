-- What drawn marks keep.
use Rattle.std.specs.Prelude.{◌-◌, ◌^◌, ◌<◌, ◌≤◌, Option, IfSome}
use Rattle.lw_cost.specs.declared.mark.Mark.{Mark}
use Rattle.lw_label.specs.Delays.{most_time}

-- no cost above the cap of times, and a height that can rise by one
abbrev pub IsInRange : Option Mark → Type 0
IsInRange mark = IfSome mark (λ (m : Mark). (m.cost ≤ most_time) × (m.height < 2 ^ 32 - 1))
