-- The words of a command.
use Rattle.std.specs.Prelude.{ℕ, ◌≤◌, ◌-◌, ◌^◌, Bool, true, false, not, ◌&&◌, nat_le, nat_lt, nat_eq, List, [], ◌∷◌}
use Rattle.std.specs.Prelude.{length, Option, Some, None, Result, Ok, Err, if◌then◌else◌, codes, IfSome}
use Rattle.std.specs.List.{list_all, starts_with}
use Rattle.std.specs.Char.{is_ascii_digit}
use Rattle.std.specs.Str.{bytes_eq}
use Rattle.std.specs.Str.Parse.{digits_value}
use Rattle.lw_fixed.specs.Decimals.{given_units, decimal_of}
use Rattle.lw_fixed.specs.declared.fault.DecimalFault.{DecimalFault}
use Rattle.lw_fixed.specs.declared.micro.Micro.{Micro}
use Rattle.lw_map.specs.Counts.{most_nodes}
use Rattle.lw_genlib.specs.Cells.{IsSmall}
use Rattle.lw_laws.specs.Modes.Mode.{plain, idempotent}
use Rattle.lw_map.specs.Options.{Options, IsWide}
use Rattle.lw_map.specs.Tabled.{AreLeaves}
use Rattle.lw_top.specs.declared.refusal.Which.{Which}
use Rattle.lw_top.specs.declared.refusal.Which.TheVariants as which

-- a command, with its options and the words for its files
pub data Command : Type 0 where
  -- the network mapped to cells of the library, with its certificate or without
  mapping : Options → Bool → List ℕ → List ℕ → Command
  -- a mapped netlist with its certificate, checked against the library and the network
  checking : Options → List ℕ → List ℕ → List ℕ → Command
  -- when the outputs of a mapped netlist arrive
  timing : List ℕ → List ℕ → Command
  -- the values of a network's outputs, and of a mapped netlist's
  simulation : List ℕ → List ℕ → Command
  gate_simulation : List ℕ → List ℕ → List ℕ → Command
  -- how large the graph of a network's forms is
  counting : Options → List ℕ → Command
  -- a network covered by lookup tables of at most so many fan-ins
  tabling : ℕ → Options → List ℕ → Command
  -- a network drawn from a number, of so many nodes, mapped to cells of the library
  drawing : ℕ → ℕ → List ℕ → Command
  -- a mapped netlist, written in Verilog
  to_verilog : List ℕ → List ℕ → Command
  -- a netlist in Verilog, written as a mapped netlist
  from_verilog : List ℕ → List ℕ → Command
  -- the network mapped to cells of the library with the least area by a deadline, or without one
  trading : Option Micro → Options → List ℕ → List ℕ → Command

-- Files.

-- a file's word does not begin with `-`
abbrev pub is_file_word : List ℕ → Bool
is_file_word word = not (starts_with nat_eq word (codes "-"))

-- the words for files, where there are so many and no others
pub record Two : Type 0 where
  pub first : List ℕ
  pub second : List ℕ

abbrev pub two : List ℕ → List ℕ → Two
two a b = record { first = a; second = b }

pub record Three : Type 0 where
  pub first : List ℕ
  pub second : List ℕ
  pub third : List ℕ

abbrev pub three : List ℕ → List ℕ → List ℕ → Three
three a b c = record { first = a; second = b; third = c }

abbrev pub one_file : List (List ℕ) → Option (List ℕ)
one_file (a ∷ []) = if is_file_word a then Some a else None
one_file words = None

abbrev pub two_files : List (List ℕ) → Option Two
two_files (a ∷ b ∷ []) = if is_file_word a && is_file_word b then Some (two a b) else None
two_files words = None

abbrev pub three_files : List (List ℕ) → Option Three
three_files (a ∷ b ∷ c ∷ []) = if is_file_word a && (is_file_word b && is_file_word c) then Some (three a b c) else None
three_files words = None

-- Options.

-- one of the words `2` to `8`
abbrev pub width_of : List ℕ → Option ℕ
width_of (digit ∷ []) = if nat_le 50 digit && nat_le digit 56 then Some (digit - 48) else None
width_of word = None

-- one of the words `2` to `6`
abbrev pub leaves_of : List ℕ → Option ℕ
leaves_of (digit ∷ []) = if nat_le 50 digit && nat_le digit 54 then Some (digit - 48) else None
leaves_of word = None

-- options, and the words behind them
pub record Begun : Type 0 where
  pub options : Options
  pub rest : List (List ℕ)

-- `[-i]`, behind the width
abbrev pub with_mode : ℕ → List (List ℕ) → Begun
with_mode width [] = record { options = record { width = width; mode = plain }; rest = [] }
with_mode width (option ∷ words) =
    if bytes_eq option (codes "-i") then record { options = record { width = width; mode = idempotent }; rest = words }
    else record { options = record { width = width; mode = plain }; rest = option ∷ words }

abbrev pub with_width : Option ℕ → List (List ℕ) → Option Begun
with_width None words = None
with_width (Some width) words = Some (with_mode width words)

-- `[-w K] [-i]`, at width 6 without the first
abbrev pub begun_by : List (List ℕ) → Option Begun
begun_by (option ∷ word ∷ words) = if bytes_eq option (codes "-w") then with_width (width_of word) words else with_width
    (Some 6) (option ∷ word ∷ words)
begun_by words = with_width (Some 6) words

-- Numbers.

-- one digit or more, and nothing else
abbrev pub is_numeral : List ℕ → Bool
is_numeral word = nat_le 1 (length word) && list_all is_ascii_digit word

-- a decimal numeral below 2^64
abbrev pub number_of : List ℕ → Option ℕ
number_of word = if is_numeral word && nat_lt (digits_value 10 word) (2 ^ 64) then Some (digits_value 10 word) else None

-- of at most 20 digits
abbrev pub seed_of : List ℕ → Option ℕ
seed_of word = if nat_le (length word) 20 then number_of word else None

abbrev pub count_in : Option ℕ → Option ℕ
count_in None = None
count_in (Some n) = if nat_le 1 n && nat_le n most_nodes then Some n else None

-- without leading zero, from 1 to 20000
abbrev pub count_of : List ℕ → Option ℕ
count_of word = if starts_with nat_eq word (codes "0") then None else count_in (number_of word)

-- Commands.

abbrev pub mapping_of : Options → Bool → Option Two → Option Command
mapping_of options certified None = None
mapping_of options certified (Some files) = Some (mapping options certified files.first files.second)

-- `[-c] LIB IN`
abbrev pub certified_of : Options → List (List ℕ) → Option Command
certified_of options [] = None
certified_of options (option ∷ words) = if bytes_eq option (codes "-c") then mapping_of options true
    (two_files words) else mapping_of options false (two_files (option ∷ words))

abbrev pub mapping_begun : Option Begun → Option Command
mapping_begun None = None
mapping_begun (Some begun) = certified_of begun.options begun.rest

abbrev pub checking_of : Options → Option Three → Option Command
checking_of options None = None
checking_of options (Some files) = Some (checking options files.first files.second files.third)

abbrev pub checking_begun : Option Begun → Option Command
checking_begun None = None
checking_begun (Some begun) = checking_of begun.options (three_files begun.rest)

abbrev pub counting_of : Options → Option (List ℕ) → Option Command
counting_of options None = None
counting_of options (Some file) = Some (counting options file)

abbrev pub counting_begun : Option Begun → Option Command
counting_begun None = None
counting_begun (Some begun) = counting_of begun.options (one_file begun.rest)

abbrev pub tabling_of : ℕ → Options → Option (List ℕ) → Option Command
tabling_of leaves options None = None
tabling_of leaves options (Some file) = Some (tabling leaves options file)

abbrev pub tabling_by : Option ℕ → Option Begun → Option Command
tabling_by (Some leaves) (Some begun) = tabling_of leaves begun.options (one_file begun.rest)
tabling_by leaves begun = None

-- `L [-w K] [-i] IN`
abbrev pub tabling_begun : List (List ℕ) → Option Command
tabling_begun [] = None
tabling_begun (leaves ∷ words) = tabling_by (leaves_of leaves) (begun_by words)

-- `LIB MAPPED`
abbrev pub timing_of : Option Two → Option Command
timing_of None = None
timing_of (Some files) = Some (timing files.first files.second)

abbrev pub network_simulation : Option Two → Option Command
network_simulation None = None
network_simulation (Some files) = Some (simulation files.first files.second)

abbrev pub netlist_simulation : Option Three → Option Command
netlist_simulation None = None
netlist_simulation (Some files) = Some (gate_simulation files.first files.second files.third)

-- `IN VECTORS`, or `-g LIB MAPPED VECTORS`
abbrev pub simulation_of : List (List ℕ) → Option Command
simulation_of [] = None
simulation_of (option ∷ words) = if bytes_eq option (codes "-g") then netlist_simulation
    (three_files words) else network_simulation (two_files (option ∷ words))

abbrev pub drawing_by : Option ℕ → Option ℕ → Option (List ℕ) → Option Command
drawing_by (Some seed) (Some count) (Some file) = Some (drawing seed count file)
drawing_by seed count file = None

-- `SEED N LIB`
abbrev pub drawing_of : List (List ℕ) → Option Command
drawing_of (seed ∷ count ∷ words) = drawing_by (seed_of seed) (count_of count) (one_file words)
drawing_of words = None

-- `LIB MAPPED`
abbrev pub to_verilog_of : Option Two → Option Command
to_verilog_of None = None
to_verilog_of (Some files) = Some (to_verilog files.first files.second)

-- `LIB VER`
abbrev pub from_verilog_of : Option Two → Option Command
from_verilog_of None = None
from_verilog_of (Some files) = Some (from_verilog files.first files.second)

abbrev pub time_read : Result Micro DecimalFault → Option (Option Micro)
time_read (Ok time) = Some (Some time)
time_read (Err fault) = None

-- `none`, or a decimal below 1000000
abbrev pub deadline_of : List ℕ → Option (Option Micro)
deadline_of word = if bytes_eq word (codes "none") then Some None else time_read (decimal_of word given_units)

abbrev pub trading_of : Options → Option (Option Micro) → Option Two → Option Command
trading_of options (Some deadline) (Some files) = Some (trading deadline options files.first files.second)
trading_of options deadline files = None

-- `T LIB IN`
abbrev pub traded_of : Options → List (List ℕ) → Option Command
traded_of options [] = None
traded_of options (time ∷ words) = trading_of options (deadline_of time) (two_files words)

abbrev pub trading_begun : Option Begun → Option Command
trading_begun None = None
trading_begun (Some begun) = traded_of begun.options begun.rest

abbrev pub named : List ℕ → List (List ℕ) → Option Command
named name words =
    if bytes_eq name (codes "map") then mapping_begun (begun_by words)
    else (if bytes_eq name (codes "check") then checking_begun (begun_by words)
    else (if bytes_eq name (codes "time") then timing_of (two_files words)
    else (if bytes_eq name (codes "sim") then simulation_of words
    else (if bytes_eq name (codes "graph") then counting_begun (begun_by words)
    else (if bytes_eq name (codes "big") then drawing_of words
    else (if bytes_eq name (codes "verilog") then to_verilog_of (two_files words)
    else (if bytes_eq name (codes "unverilog") then from_verilog_of (two_files words)
    else (if bytes_eq name (codes "lut") then tabling_begun words
    else (if bytes_eq name (codes "trade") then trading_begun (begun_by words) else None)))))))))

-- The command that the words are a written form of.
abbrev pub command_of : List (List ℕ) → Option Command
command_of [] = None
command_of (name ∷ words) = named name words

-- a network of so many nodes is drawn
pub record IsCount (count : ℕ) : Type 0 where
  pub least : 1 ≤ count
  pub most : count ≤ most_nodes

-- a command's numbers are those that words may say
abbrev pub IsInRange : Command → Type 0
IsInRange (mapping options certified library network) = IsWide options
IsInRange (checking options library network mapped) = IsWide options
IsInRange (counting options network) = IsWide options
IsInRange (tabling leaves options network) = AreLeaves leaves × IsWide options
IsInRange (drawing seed count library) = IsCount count
IsInRange (trading deadline options library network) = IfSome deadline IsSmall × IsWide options
IsInRange other = Unit {0}

-- the word of a file, and none where the command reads no such file
abbrev pub file_in : Command → Which → List ℕ
file_in (mapping options certified library network) which.Library = library
file_in (mapping options certified library network) which.Network = network
file_in (checking options library network mapped) which.Library = library
file_in (checking options library network mapped) which.Network = network
file_in (checking options library network mapped) which.Mapped = mapped
file_in (timing library mapped) which.Library = library
file_in (timing library mapped) which.Mapped = mapped
file_in (simulation network vectors) which.Network = network
file_in (simulation network vectors) which.Vectors = vectors
file_in (gate_simulation library mapped vectors) which.Library = library
file_in (gate_simulation library mapped vectors) which.Mapped = mapped
file_in (gate_simulation library mapped vectors) which.Vectors = vectors
file_in (counting options network) which.Network = network
file_in (tabling leaves options network) which.Network = network
file_in (drawing seed count library) which.Library = library
file_in (to_verilog library mapped) which.Library = library
file_in (to_verilog library mapped) which.Mapped = mapped
file_in (from_verilog library verilog) which.Library = library
file_in (from_verilog library verilog) which.Mapped = verilog
file_in (trading deadline options library network) which.Library = library
file_in (trading deadline options library network) which.Network = network
file_in other w = []

-- no file where there is no command
abbrev pub file_word : Option Command → Which → List ℕ
file_word None w = []
file_word (Some command) w = file_in command w
