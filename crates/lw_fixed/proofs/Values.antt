-- The values of digits, one digit at a time.
use Rattle.std.proofs.Common.{ℕ, ◌+◌, ◌-◌, ◌*◌, ◌≤◌, ◌<◌, ◌^◌, ◌≡◌, IsTrue, List, ◌++◌, length, take, get_or, replicate, arith, add-one, pow-suc}
use Rattle.std.specs.List.{list_all}
use Rattle.std.specs.Char.{is_ascii_digit}
use Rattle.std.specs.Str.Parse.{digits_value}
use Rattle.std.proofs.lemmas.List.Folds.{list_all-append}
use Rattle.std.proofs.lemmas.Grind.{common_steps}
use Rattle.lw_facts.proofs.Lists.{decimal_value_more}

-- with zeros behind them they are digits still
pub padded_digits : (ds : List ℕ) → IsTrue (list_all is_ascii_digit ds) → IsTrue (list_all is_ascii_digit (ds ++ replicate 6 48))
padded_digits ds all = grind (arith, list_all-append)

pub padded_step : (ds : List ℕ) (i v d w : ℕ) → IsTrue (list_all is_ascii_digit ds) → i < 6 → v ≡ digits_value 10 (take i (ds ++ replicate 6 48)) → d ≡ get_or (ds ++ replicate 6 48) i 0 - 48 → w ≡ v * 10 + d → w ≡ digits_value 10 (take (i + 1) (ds ++ replicate 6 48))
padded_step ds i v d w all lt before digit now =
    let within : i < length (ds ++ replicate 6 48) = grind (arith, common_steps) in
    let more : digits_value 10 (take (i + 1) (ds ++ replicate 6 48)) ≡ digits_value 10 (take i (ds ++ replicate 6 48)) * 10 + (get_or (ds ++ replicate 6 48) i 0 - 48) = decimal_value_more _ i (padded_digits ds all) within in
    cc

-- so many digits stay below that power of ten
pub one_more : (v d places : ℕ) → v < 10 ^ places → d ≤ 9 → v * 10 + d < 10 ^ (places + 1)
one_more v d places below digit = rw (add-one, pow-suc) (omega arith)
