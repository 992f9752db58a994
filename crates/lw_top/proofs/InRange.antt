-- The numbers of a command.
use Rattle.std.proofs.Common.{◌≡◌, ℕ, ◌≤◌, ◌-◌, Bool, true, false, ◌&&◌, nat_le, List, [], ◌∷◌, Option, Some, None, Result, Ok, Err, if◌then◌else◌, refl, sym, subst, arith}
use Rattle.std.specs.Prelude.{IfSome, codes, nat_eq}
use Rattle.std.specs.List.{starts_with}
use Rattle.std.specs.Str.{bytes_eq}
use Rattle.std.proofs.lemmas.Bool.{leb-true}
use Rattle.lw_fixed.specs.Decimals.{decimal_of}
use Rattle.lw_fixed.specs.declared.fault.DecimalFault.{DecimalFault}
use Rattle.lw_fixed.specs.declared.micro.Micro.{Micro}
use Rattle.lw_frame.proofs.Early.{decimal_below}
use Rattle.lw_genlib.specs.Cells.{IsSmall}
use Rattle.lw_laws.specs.Modes.Mode.{plain, idempotent}
use Rattle.lw_map.specs.Options.{Options, IsWide}
use Rattle.lw_map.specs.Tabled.{AreLeaves}
use Rattle.lw_top.specs.Words.{Command, mapping, checking, timing, simulation, gate_simulation, counting, tabling, drawing, to_verilog, from_verilog, Two, Three, Begun, one_file, two_files, three_files, width_of, with_mode, with_width, begun_by, number_of, seed_of, count_in, count_of, mapping_of, certified_of, mapping_begun, checking_of, checking_begun, counting_of, counting_begun, leaves_of, tabling_of, tabling_by, tabling_begun, timing_of, network_simulation, netlist_simulation, simulation_of, drawing_by, drawing_of, to_verilog_of, from_verilog_of, trading, time_read, deadline_of, trading_of, traded_of, trading_begun, named, command_of, IsCount, IsInRange}

-- each value that an option holds
abbrev Each : {A : Type 0} → (A → Type 0) → Option A → Type 0
Each {A} P option = (x : A) → option ≡ Some x → P x

-- Widths.

abbrev IsWidth : ℕ → Type 0
IsWidth width = (2 ≤ width) × (width ≤ 8)

digit_width : (low high : Bool) (digit : ℕ) → nat_le 50 digit ≡ low → nat_le digit 56 ≡ high → Each IsWidth (if low && high then Some (digit - 48) else None)
digit_width true true digit above below width is =
    let same : digit - 48 ≡ width = cc in
    let le : 50 ≤ digit = leb-true _ _ above in
    let ge : digit ≤ 56 = leb-true _ _ below in
    (omega arith, omega arith)
digit_width true false digit above below width is = cc
digit_width false high digit above below width is = cc

word_width : (word : List ℕ) → Each IsWidth (width_of word)
word_width [] width is = cc
word_width (digit ∷ []) width is = digit_width (nat_le 50 digit) (nat_le digit 56) digit refl refl width is
word_width (digit ∷ other ∷ word) width is = cc

default_width : Each IsWidth (Some 6)
default_width width is = let same : 6 ≡ width = cc in (omega arith, omega arith)

-- Options.

abbrev HasWide : Begun → Type 0
HasWide begun = IsWide begun.options

mode_wide : (width : ℕ) (words : List (List ℕ)) → IsWidth width → HasWide (with_mode width words)
mode_wide width [] w = record { least = w.0; most = w.1 }
mode_wide width (option ∷ words) w = by_test (bytes_eq option (codes "-i"))
  where
    by_test : (b : Bool) → HasWide (if b then record { options = record { width = width; mode = idempotent }; rest = words } else record { options = record { width = width; mode = plain }; rest = option ∷ words })
    by_test true = record { least = w.0; most = w.1 }
    by_test false = record { least = w.0; most = w.1 }

width_wide : (width : Option ℕ) (words : List (List ℕ)) → Each IsWidth width → Each HasWide (with_width width words)
width_wide None words widths begun is = cc
width_wide (Some width) words widths begun is =
    let same : with_mode width words ≡ begun = cc in
    subst HasWide same (mode_wide width words (widths width refl))

option_wide : (b : Bool) (width : Option ℕ) (words all : List (List ℕ)) → Each IsWidth width → Each HasWide (if b then with_width width words else with_width (Some 6) all)
option_wide true width words all widths begun is = width_wide width words widths begun is
option_wide false width words all widths begun is = width_wide (Some 6) all default_width begun is

begun_wide : (words : List (List ℕ)) → Each HasWide (begun_by words)
begun_wide [] begun is = width_wide (Some 6) [] default_width begun is
begun_wide (a ∷ []) begun is = width_wide (Some 6) (a ∷ []) default_width begun is
begun_wide (option ∷ word ∷ words) begun is = option_wide _ (width_of word) words (option ∷ word ∷ words) (word_width word) begun is

-- Counts.

counted : (low high : Bool) (n : ℕ) → nat_le 1 n ≡ low → nat_le n 20000 ≡ high → Each IsCount (if low && high then Some n else None)
counted true true n above below count is =
    let same : n ≡ count = cc in
    subst IsCount same (record { least = leb-true _ _ above; most = leb-true _ _ below })
counted true false n above below count is = cc
counted false high n above below count is = cc

count_in_range : (number : Option ℕ) → Each IsCount (count_in number)
count_in_range None count is = cc
count_in_range (Some n) count is = counted (nat_le 1 n) (nat_le n 20000) n refl refl count is

word_count : (b : Bool) (number : Option ℕ) → Each IsCount (if b then None else count_in number)
word_count true number count is = cc
word_count false number count is = count_in_range number count is

-- Commands.

files_in_range : (options : Options) (certified : Bool) (files : Option Two) → IsWide options → Each IsInRange (mapping_of options certified files)
files_in_range options certified None wide c is = cc
files_in_range options certified (Some files) wide c is =
    let same : mapping options certified files.first files.second ≡ c = cc in
    subst IsInRange same wide

either_in_range : (b : Bool) (options : Options) (words all : Option Two) → IsWide options → Each IsInRange (if b then mapping_of options true words else mapping_of options false all)
either_in_range true options words all wide c is = files_in_range options true words wide c is
either_in_range false options words all wide c is = files_in_range options false all wide c is

certified_in_range : (options : Options) (words : List (List ℕ)) → IsWide options → Each IsInRange (certified_of options words)
certified_in_range options [] wide c is = cc
certified_in_range options (option ∷ words) wide c is = either_in_range _ options (two_files words) (two_files (option ∷ words)) wide c is

mapping_in_range : (begun : Option Begun) → Each HasWide begun → Each IsInRange (mapping_begun begun)
mapping_in_range None wide c is = cc
mapping_in_range (Some begun) wide c is = certified_in_range begun.options begun.rest (wide begun refl) c is

checking_in_range : (begun : Option Begun) → Each HasWide begun → Each IsInRange (checking_begun begun)
checking_in_range None wide c is = cc
checking_in_range (Some begun) wide c is = by_files (three_files begun.rest) is
  where
    by_files : (files : Option Three) → checking_of begun.options files ≡ Some c → IsInRange c
    by_files None is = cc
    by_files (Some files) is =
        let same : checking begun.options files.first files.second files.third ≡ c = cc in
        subst IsInRange same (wide begun refl)

counting_in_range : (begun : Option Begun) → Each HasWide begun → Each IsInRange (counting_begun begun)
counting_in_range None wide c is = cc
counting_in_range (Some begun) wide c is = by_file (one_file begun.rest) is
  where
    by_file : (file : Option (List ℕ)) → counting_of begun.options file ≡ Some c → IsInRange c
    by_file None is = cc
    by_file (Some file) is =
        let same : counting begun.options file ≡ c = cc in
        subst IsInRange same (wide begun refl)

digit_leaves : (low high : Bool) (digit : ℕ) → nat_le 50 digit ≡ low → nat_le digit 54 ≡ high → Each AreLeaves (if low && high then Some (digit - 48) else None)
digit_leaves true true digit above below leaves is =
    let same : digit - 48 ≡ leaves = cc in
    let le : 50 ≤ digit = leb-true _ _ above in
    let ge : digit ≤ 54 = leb-true _ _ below in
    record { least = omega arith; limit = omega arith }
digit_leaves true false digit above below leaves is = cc
digit_leaves false high digit above below leaves is = cc

word_leaves : (word : List ℕ) → Each AreLeaves (leaves_of word)
word_leaves [] leaves is = cc
word_leaves (digit ∷ []) leaves is = digit_leaves (nat_le 50 digit) (nat_le digit 54) digit refl refl leaves is
word_leaves (digit ∷ other ∷ word) leaves is = cc

tables_in_range : (leaves : Option ℕ) (begun : Option Begun) → Each AreLeaves leaves → Each HasWide begun → Each IsInRange (tabling_by leaves begun)
tables_in_range None begun few wide c is = cc
tables_in_range (Some leaves) None few wide c is = cc
tables_in_range (Some leaves) (Some begun) few wide c is = by_file (one_file begun.rest) is
  where
    by_file : (file : Option (List ℕ)) → tabling_of leaves begun.options file ≡ Some c → IsInRange c
    by_file None is = cc
    by_file (Some file) is =
        let same : tabling leaves begun.options file ≡ c = cc in
        subst IsInRange same (few leaves refl, wide begun refl)

tabling_in_range : (words : List (List ℕ)) → Each IsInRange (tabling_begun words)
tabling_in_range [] c is = cc
tabling_in_range (leaves ∷ words) c is = tables_in_range (leaves_of leaves) (begun_by words) (word_leaves leaves) (begun_wide words) c is

timing_in_range : (files : Option Two) → Each IsInRange (timing_of files)
timing_in_range None c is = cc
timing_in_range (Some files) c is = let same : timing files.first files.second ≡ c = cc in subst IsInRange same tt

netlist_in_range : (files : Option Three) → Each IsInRange (netlist_simulation files)
netlist_in_range None c is = cc
netlist_in_range (Some files) c is = let same : gate_simulation files.first files.second files.third ≡ c = cc in subst IsInRange same tt

network_in_range : (files : Option Two) → Each IsInRange (network_simulation files)
network_in_range None c is = cc
network_in_range (Some files) c is = let same : simulation files.first files.second ≡ c = cc in subst IsInRange same tt

simulation_in_range : (words : List (List ℕ)) → Each IsInRange (simulation_of words)
simulation_in_range [] c is = cc
simulation_in_range (option ∷ words) c is = by_test (bytes_eq option (codes "-g")) is
  where
    by_test : (b : Bool) → (if b then netlist_simulation (three_files words) else network_simulation (two_files (option ∷ words))) ≡ Some c → IsInRange c
    by_test true is = netlist_in_range (three_files words) c is
    by_test false is = network_in_range (two_files (option ∷ words)) c is

drawn_in_range : (seed count : Option ℕ) (file : Option (List ℕ)) → Each IsCount count → Each IsInRange (drawing_by seed count file)
drawn_in_range None count file counts c is = cc
drawn_in_range (Some seed) None file counts c is = cc
drawn_in_range (Some seed) (Some count) None counts c is = cc
drawn_in_range (Some seed) (Some count) (Some file) counts c is =
    let same : drawing seed count file ≡ c = cc in
    subst IsInRange same (counts count refl)

drawing_in_range : (words : List (List ℕ)) → Each IsInRange (drawing_of words)
drawing_in_range [] c is = cc
drawing_in_range (a ∷ []) c is = cc
drawing_in_range (seed ∷ count ∷ words) c is =
    drawn_in_range (seed_of seed) (count_of count) (one_file words) (word_count (starts_with nat_eq count (codes "0")) (number_of count)) c is

to_verilog_in_range : (files : Option Two) → Each IsInRange (to_verilog_of files)
to_verilog_in_range None c is = cc
to_verilog_in_range (Some files) c is = let same : to_verilog files.first files.second ≡ c = cc in subst IsInRange same tt

from_verilog_in_range : (files : Option Two) → Each IsInRange (from_verilog_of files)
from_verilog_in_range None c is = cc
from_verilog_in_range (Some files) c is = let same : from_verilog files.first files.second ≡ c = cc in subst IsInRange same tt

abbrev IsTime : Option Micro → Type 0
IsTime deadline = IfSome deadline IsSmall

time_small : (word : List ℕ) (r : Result Micro DecimalFault) → decimal_of word 1000000 ≡ r → Each IsTime (time_read r)
time_small word (Ok time) e deadline is =
    let same : Some time ≡ deadline = cc in
    subst IsTime same (decimal_below word 1000000 time e)
time_small word (Err fault) e deadline is = cc

word_time : (b : Bool) (o : Option (Option Micro)) → Each IsTime o → Each IsTime (if b then Some None else o)
word_time true o times deadline is = let same : None ≡ deadline = cc in subst IsTime same tt
word_time false o times deadline is = times deadline is

trades_in_range : (options : Options) (deadline : Option (Option Micro)) (files : Option Two) → IsWide options → Each IsTime deadline → Each IsInRange (trading_of options deadline files)
trades_in_range options None files wide times c is = cc
trades_in_range options (Some deadline) None wide times c is = cc
trades_in_range options (Some deadline) (Some files) wide times c is =
    let same : trading deadline options files.first files.second ≡ c = cc in
    subst IsInRange same (times deadline refl, wide)

traded_in_range : (options : Options) (words : List (List ℕ)) → IsWide options → Each IsInRange (traded_of options words)
traded_in_range options [] wide c is = cc
traded_in_range options (time ∷ words) wide c is =
    trades_in_range options (deadline_of time) (two_files words) wide (word_time (bytes_eq time (codes "none")) (time_read (decimal_of time 1000000)) (time_small time (decimal_of time 1000000) refl)) c is

trading_in_range : (begun : Option Begun) → Each HasWide begun → Each IsInRange (trading_begun begun)
trading_in_range None wide c is = cc
trading_in_range (Some begun) wide c is = traded_in_range begun.options begun.rest (wide begun refl) c is

chosen : (b : Bool) (o p : Option Command) → Each IsInRange o → Each IsInRange p → Each IsInRange (if b then o else p)
chosen true o p first other c is = first c is
chosen false o p first other c is = other c is

named_in_range : (name : List ℕ) (words : List (List ℕ)) → Each IsInRange (named name words)
named_in_range name words =
    chosen (bytes_eq name (codes "map")) _ _ (mapping_in_range (begun_by words) (begun_wide words))
    (chosen (bytes_eq name (codes "check")) _ _ (checking_in_range (begun_by words) (begun_wide words))
    (chosen (bytes_eq name (codes "time")) _ _ (timing_in_range (two_files words))
    (chosen (bytes_eq name (codes "sim")) _ _ (simulation_in_range words)
    (chosen (bytes_eq name (codes "graph")) _ _ (counting_in_range (begun_by words) (begun_wide words))
    (chosen (bytes_eq name (codes "big")) _ _ (drawing_in_range words)
    (chosen (bytes_eq name (codes "verilog")) _ _ (to_verilog_in_range (two_files words))
    (chosen (bytes_eq name (codes "unverilog")) _ _ (from_verilog_in_range (two_files words))
    (chosen (bytes_eq name (codes "lut")) _ _ (tabling_in_range words)
    (chosen (bytes_eq name (codes "trade")) _ None (trading_in_range (begun_by words) (begun_wide words)) (λ c is. cc))))))))))

-- a command's numbers are those that words may say
pub command_in_range : (words : List (List ℕ)) (c : Command) → command_of words ≡ Some c → IsInRange c
command_in_range [] c is = cc
command_in_range (name ∷ words) c is = named_in_range name words c is

-- so are those of a command that was asked for
pub asked_in_range : (o : Option Command) (words : List (List ℕ)) → o ≡ command_of words → IfSome o IsInRange
asked_in_range None words e = tt
asked_in_range (Some c) words e = command_in_range words c (sym e)
