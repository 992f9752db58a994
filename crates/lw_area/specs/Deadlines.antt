-- By when each output has to arrive.
use Rattle.std.specs.Prelude.{ℕ, ◌*◌, ◌/◌, max, min, List, map, fold}
use Rattle.lw_fixed.specs.declared.micro.Micro.{Micro}
use Rattle.lw_label.specs.Delays.{most_time}
use Rattle.lw_area.specs.declared.words.Deadline.{Deadline}
use Rattle.lw_area.specs.declared.words.Deadline.TheVariants.{Greatest, Each, Percent, At}

abbrev pub greatest_of : List Micro → ℕ
greatest_of times = fold (λ most (time : Micro). max most time.0) 0 times

-- The time that all outputs may take, by the greatest of their least times: a part of it in percent, cut at the
-- greatest time that is told.
abbrev pub common_time : Deadline → ℕ → ℕ
common_time Greatest greatest = greatest
common_time Each greatest = 0
common_time (Percent part) greatest = min (greatest * part / 100) most_time
common_time (At time) greatest = time.0

abbrev pub put_off : ℕ → Micro → Micro
put_off common least = record { 0 = max least.0 common }

-- the deadlines of outputs with these least times: none is before its output's own
abbrev pub deadlines_of : Deadline → List Micro → List Micro
deadlines_of deadline least = map (put_off (common_time deadline (greatest_of least))) least
