-- Numbers of libraries are below a million.
use Rattle.std.proofs.Common.{ℕ, ◌+◌, ◌*◌, ◌≡◌, ◌<◌, Bool, true, false, not, ◌&&◌, cond, List, length, refl, ap, subst, arith, Result, Ok, Err}
use Rattle.std.specs.Prelude.{nat_le, nat_lt}
use Rattle.std.specs.List.{list_all}
use Rattle.std.specs.Char.{is_ascii_digit}
use Rattle.std.proofs.lemmas.Bool.{leb-false}
use Rattle.lw_fixed.proofs.Six.{below_one}
use Rattle.lw_facts.proofs.Tests.{second_of_three}
use Rattle.lw_fixed.specs.declared.micro.Micro.{Micro}
use Rattle.lw_fixed.specs.declared.fault.DecimalFault.TheVariants.{Shape, Large, Fine, Negative}
use Rattle.lw_fixed.specs.Decimals.{decimal_of, value_of_decimals, decimals, units_of, whole_part, is_decimal, is_finer, is_negative, millionths_of}
use Rattle.lw_genlib.specs.declared.fault.LibKind.{LibKind}
use Rattle.lw_genlib.specs.Cells.{IsSmall}
use Rattle.lw_genlib.specs.declared.fault.LibKind.TheVariants.{PhaseWord, Expected}
use Rattle.lw_genlib.specs.declared.pin.Field.{Field}
use Rattle.lw_genlib.specs.declared.pin.Field.TheVariants.{Phase, Load, MostLoad, Rise, RiseUnused, Fall, FallUnused}
use Rattle.lw_genlib.specs.Entries.{number_of, in_library, larger, delay_behind, is_phase, is_like_number}

got : Result Micro LibKind → ℕ
got (Ok m) = m.0
got (Err kind) = 0

pub small_number : (bytes : List ℕ) (m : Micro) → number_of bytes ≡ Ok m → IsSmall m
unfolding decimal_of got
small_number bytes m e =
    at (is_decimal bytes) (nat_le 1000000 (units_of bytes)) (is_finer (decimals bytes)) (is_negative bytes && nat_lt 0 (millionths_of bytes)) refl refl e
  where
    inside : list_all is_ascii_digit (decimals bytes) ≡ true → nat_le 1000000 (units_of bytes) ≡ false → millionths_of bytes ≡ m.0 → IsSmall m
    inside digits few is =
        let units : units_of bytes < 1000000 = leb-false 1000000 (units_of bytes) few in
        let part : value_of_decimals (decimals bytes) < 1000000 = below_one (decimals bytes) digits in
        let whole : 1000000 * units_of bytes + value_of_decimals (decimals bytes) ≡ m.0 = is in
        omega arith

    at : (d l f n : Bool) → is_decimal bytes ≡ d → nat_le 1000000 (units_of bytes) ≡ l
        → in_library (cond (not d) (Err Shape) (cond l (Err Large) (cond f (Err Fine) (cond n (Err Negative) (Ok (record { 0 = millionths_of bytes })))))) ≡ Ok m → IsSmall m
    at false l f n ds ls g = cc
    at true true f n ds ls g = cc
    at true false true n ds ls g = cc
    at true false false true ds ls g = cc
    at true false false false ds ls g = inside (second_of_three (list_all is_ascii_digit (whole_part bytes)) (list_all is_ascii_digit (decimals bytes)) (nat_lt 0 (length (whole_part bytes) + length (decimals bytes))) ds) ls (ap got g)

-- Delays.

abbrev got_by : Result Micro LibKind → ℕ
got_by (Ok m) = m.0
got_by (Err kind) = 0

small-if : (b : Bool) (delay m : Micro) (kind : LibKind) → IsSmall delay → cond b (Ok delay) (Err kind) ≡ Ok m → IsSmall m
small-if true delay m kind h e = subst (λ n. n < 1000000 * 1000000) (ap got_by e) h
small-if false delay m kind h e = cc

small-larger : (delay m : Micro) (r : Result Micro LibKind) → ((x : Micro) → r ≡ Ok x → IsSmall x) → IsSmall delay → larger delay r ≡ Ok m → IsSmall m
small-larger delay m (Ok x) small h e =
    let here : x.0 < 1000000 * 1000000 = small x refl in
    let there : delay.0 < 1000000 * 1000000 = h in
    subst (λ n. n < 1000000 * 1000000) (ap got_by e) (omega arith)
small-larger delay m (Err kind) small h e = cc

pub small-behind : (field : Field) (delay m : Micro) (bytes : List ℕ) → IsSmall delay → delay_behind field delay bytes ≡ Ok m → IsSmall m
small-behind Phase delay m bytes h e = small-if (is_phase bytes) delay m PhaseWord h e
small-behind Load delay m bytes h e = small-if (is_like_number bytes) delay m Expected h e
small-behind MostLoad delay m bytes h e = small-if (is_like_number bytes) delay m Expected h e
small-behind Rise delay m bytes h e = small-larger delay m (number_of bytes) (small_number bytes) h e
small-behind RiseUnused delay m bytes h e = small-if (is_like_number bytes) delay m Expected h e
small-behind Fall delay m bytes h e = small-larger delay m (number_of bytes) (small_number bytes) h e
small-behind FallUnused delay m bytes h e = small-if (is_like_number bytes) delay m Expected h e
