use Rattle.std.proofs.Common.{◌≡◌, ◌<◌, ◌^◌, ◌++◌, take, replicate}
use Rattle.std.specs.Str.Parse.{digits_value}
use Rattle.lw_fixed.proofs.digits.value_of_decimals.Given as goal

abbrev pub invariant-loop-place : goal.invariant-loop-place
invariant-loop-place l = (l.value ≡ digits_value 10 (take l.place (l.decimals ++ replicate 6 48))) × (l.value < 10 ^ l.place)
