-- The words of the command line.
use Rattle.std.specs.Prelude.{ℕ, ◌+◌, ◌*◌, ◌-◌, Bool, true, false, not, ◌&&◌, ◌==◌, nat_le, List, [], ◌∷◌, length, take}
use Rattle.std.specs.Prelude.{slice_get, zero, suc, Option, Some, None, Result, Ok, Err, if◌then◌else◌, codes}
use Rattle.std.specs.Str.{bytes_eq}
use Rattle.lw_fixed.specs.Decimals.{given_units, decimal_of}
use Rattle.lw_fixed.specs.declared.fault.DecimalFault.{DecimalFault}
use Rattle.lw_fixed.specs.declared.micro.Micro.{Micro}
use Rattle.lw_laws.specs.Modes.Mode.{plain, idempotent}
use Rattle.lw_map.specs.Options.{Options}
use Rattle.lw_recover.specs.declared.recovering.Effort.{Effort}
use Rattle.lw_recover.specs.declared.recovering.Effort.TheVariants.{Passes, Curves, Chance}
use Rattle.lw_top.specs.Words.{is_file_word, width_of}
use Rattle.lw_area.specs.declared.words.Deadline.{Deadline}
use Rattle.lw_area.specs.declared.words.Deadline.TheVariants.{Greatest, Each, Percent, At}
use Rattle.lw_area.specs.declared.words.Wrong.{Wrong}
use Rattle.lw_area.specs.declared.words.Wrong.TheVariants.{Missing, Unknown, Width, Trial, Time, Certified, Late}

-- what the options say
pub record Settings : Type 0 where
  pub options : Options
  -- whether forms of one value are linked
  pub linked : Bool
  pub certified : Bool
  -- whether it is said how many pairs were found
  pub counted : Bool
  -- none: the netlist that labels choose
  pub effort : Option Effort
  pub deadline : Deadline

-- what is asked for, with the words for the files: the library, the network, and further networks
pub record Task : Type 0 where
  pub settings : Settings
  pub library : List ℕ
  pub network : List ℕ
  pub more : List (List ℕ)

-- the word that is wrong, none where words are missing, and what is refused about it
pub record WrongWord : Type 0 where
  pub word : List ℕ
  pub why : Wrong

-- a netlist, the verdict on one in a file, or one of the pages
pub data Asked : Type 0 where
  usage : Asked
  version : Asked
  mapping : Task → Asked
  checking : Task → List ℕ → Asked

-- Values of options.

-- one of the words `0` to `3`
abbrev pub effort_of : List ℕ → Option (Option Effort)
effort_of word =
    if bytes_eq word (codes "0") then Some None
    else (if bytes_eq word (codes "1") then Some (Some Passes)
    else (if bytes_eq word (codes "2") then Some (Some Curves)
    else (if bytes_eq word (codes "3") then Some (Some Chance) else None)))

abbrev pub is_digit : ℕ → Bool
is_digit byte = nat_le 48 byte && nat_le byte 57

-- `N%`, for N of three digits, of which the first is not 0
abbrev pub percent_of : List ℕ → Option ℕ
percent_of (a ∷ b ∷ c ∷ sign ∷ []) =
    if is_digit a && (is_digit b && (is_digit c && (nat_le 49 a && sign == 37))) then Some ((a - 48) * 100 +
    ((b - 48) * 10 + (c - 48))) else None
percent_of word = None

abbrev pub time_read : Result Micro DecimalFault → Option Deadline
time_read (Ok time) = Some (At time)
time_read (Err fault) = None

abbrev pub part_or_time : List ℕ → Option ℕ → Option Deadline
part_or_time word (Some part) = Some (Percent part)
part_or_time word None = time_read (decimal_of word given_units)

-- `max`, `each`, `100%` to `999%`, or a decimal below 1000000
abbrev pub deadline_of : List ℕ → Option Deadline
deadline_of word =
    if bytes_eq word (codes "max") then Some Greatest
    else (if bytes_eq word (codes "each") then Some Each else part_or_time word (percent_of word))

-- Options.

-- width 6, the six laws, with links, no certificate, curves, all by the greatest least time
abbrev pub no_option : Settings
no_option =
    record {
      options = record { width = 6; mode = plain };
      linked = true;
      certified = false;
      counted = false;
      effort = Some Curves;
      deadline = Greatest;
    }

abbrev pub refused : {A : Type 0} → List ℕ → Wrong → Result A WrongWord
refused word why = Err (record { word = word; why = why })

abbrev pub with_width : Settings → List ℕ → Option ℕ → Result Settings WrongWord
with_width s word (Some width) =
    Ok (record {
      options = record { width = width; mode = s.options.mode };
      linked = s.linked;
      certified = s.certified;
      counted = s.counted;
      effort = s.effort;
      deadline = s.deadline;
    })
with_width s word None = refused word Width

abbrev pub with_effort : Settings → List ℕ → Option (Option Effort) → Result Settings WrongWord
with_effort s word (Some effort) =
    Ok (record {
      options = s.options;
      linked = s.linked;
      certified = s.certified;
      counted = s.counted;
      effort = effort;
      deadline = s.deadline;
    })
with_effort s word None = refused word Trial

abbrev pub with_deadline : Settings → List ℕ → Option Deadline → Result Settings WrongWord
with_deadline s word (Some deadline) =
    Ok (record {
      options = s.options;
      linked = s.linked;
      certified = s.certified;
      counted = s.counted;
      effort = s.effort;
      deadline = deadline;
    })
with_deadline s word None = refused word Time

-- an option with its value; where a netlist is checked there is one alone
abbrev pub set_by : Bool → Settings → List ℕ → List ℕ → Result Settings WrongWord
set_by checked s option value =
    if bytes_eq option (codes "-w") then with_width s value (width_of value)
    else (if bytes_eq option (codes "-e") && not checked then with_effort s value (effort_of value)
    else (if bytes_eq option (codes "-t") && not checked then with_deadline s value (deadline_of value)
    else refused option Unknown))

-- an option that wants a value
abbrev pub has_value : Bool → List ℕ → Bool
has_value checked option =
    if bytes_eq option (codes "-w") then true else (if bytes_eq option (codes "-e") then not checked
    else (if bytes_eq option (codes "-t") then not checked else false))

abbrev pub with_idempotence : Settings → Settings
with_idempotence s =
    record {
      options = record { width = s.options.width; mode = idempotent };
      linked = s.linked;
      certified = s.certified;
      counted = s.counted;
      effort = s.effort;
      deadline = s.deadline;
    }

abbrev pub without_links : Settings → Settings
without_links s =
    record {
      options = s.options;
      linked = false;
      certified = s.certified;
      counted = s.counted;
      effort = s.effort;
      deadline = s.deadline;
    }

abbrev pub with_certificate : Settings → Settings
with_certificate s =
    record {
      options = s.options;
      linked = s.linked;
      certified = true;
      counted = s.counted;
      effort = s.effort;
      deadline = s.deadline;
    }

abbrev pub with_counts : Settings → Settings
with_counts s =
    record {
      options = s.options;
      linked = s.linked;
      certified = s.certified;
      counted = true;
      effort = s.effort;
      deadline = s.deadline;
    }

-- options, and the words behind them
pub record Begun : Type 0 where
  pub settings : Settings
  pub rest : List (List ℕ)

abbrev pub before : List (List ℕ) → Settings → Begun
before rest s = record { settings = s; rest = rest }

abbrev pub begun : List (List ℕ) → Result Settings WrongWord → Result Begun WrongWord
begun rest (Ok s) = Ok (before rest s)
begun rest (Err wrong) = Err wrong

abbrev pub set_or_missing : Bool → Settings → List ℕ → List (List ℕ) → Result Begun WrongWord
set_or_missing checked s option [] = if has_value checked option then refused option Missing else refused option Unknown
set_or_missing checked s option (value ∷ rest) = begun rest (set_by checked s option value)

-- one option, which is the first of the words; where a netlist is checked there are fewer
abbrev pub option_of : Bool → Settings → List ℕ → List (List ℕ) → Result Begun WrongWord
option_of checked s option words =
    if bytes_eq option (codes "-i") then Ok (before words (with_idempotence s))
    else (if bytes_eq option (codes "-n") then Ok (before words (without_links s))
    else (if bytes_eq option (codes "-c") && not checked then Ok (before words (with_certificate s))
    else (if bytes_eq option (codes "-s") && not checked then Ok (before words (with_counts s))
    else set_or_missing checked s option words)))

abbrev pub is_each : Deadline → Bool
is_each Each = true
is_each other = false

-- the first word that is an option's
abbrev pub first_dashed : List (List ℕ) → Option (List ℕ)
first_dashed [] = None
first_dashed (word ∷ words) = if is_file_word word then first_dashed words else Some word

abbrev pub files_unless : Settings → List ℕ → List ℕ → List (List ℕ) → Option (List ℕ) → Result Task WrongWord
files_unless s library network more None =
    Ok (record { settings = s; library = library; network = network; more = more })
files_unless s library network more (Some word) = refused word Late

-- the network and further ones, behind the library
abbrev pub networks_of : Settings → List ℕ → List (List ℕ) → Result Task WrongWord
networks_of s library [] = refused [] Missing
networks_of s library (network ∷ more) = files_unless s library network more (first_dashed (network ∷ more))

-- the library, the network, and further networks, behind all options
abbrev pub files_of : Settings → List (List ℕ) → Result Task WrongWord
files_of s [] = refused [] Missing
files_of s (library ∷ words) = networks_of s library words

abbrev pub mapping_of : Result Task WrongWord → Result Asked WrongWord
mapping_of (Ok task) = Ok (mapping task)
mapping_of (Err wrong) = Err wrong

abbrev pub checking_of : List ℕ → Result Task WrongWord → Result Asked WrongWord
checking_of mapped (Ok task) = if is_file_word mapped then Ok (checking task mapped) else refused mapped Late
checking_of mapped (Err wrong) = Err wrong

-- The files, behind all options. A certificate says that each output arrives at its own least time.
abbrev pub task_of : Settings → List (List ℕ) → Result Asked WrongWord
task_of s words =
    if s.certified then (if is_each s.deadline then mapping_of (files_of s words) else refused (codes "-c") Certified)
    else mapping_of (files_of s words)

-- the same, and behind them the netlist that is checked
abbrev pub checked_from : Settings → List (List ℕ) → Option (List ℕ) → Result Asked WrongWord
checked_from s words None = refused [] Missing
checked_from s words (Some mapped) = checking_of mapped (files_of s (take (length words - 1) words))

abbrev pub checked_of : Settings → List (List ℕ) → Result Asked WrongWord
checked_of s words = checked_from s words (slice_get words (length words - 1))

abbrev pub files_behind : Bool → Settings → List (List ℕ) → Result Asked WrongWord
files_behind checked s words = if checked then checked_of s words else task_of s words

abbrev pub then_options : (Settings → List (List ℕ) → Result Asked WrongWord) → Result Begun WrongWord
    → Result Asked WrongWord
then_options next (Ok begun) = next begun.settings begun.rest
then_options next (Err wrong) = Err wrong

-- Options as long as there are some, and then the files; as many options as the number says at most.
abbrev pub options_of : ℕ → Bool → Settings → List (List ℕ) → Result Asked WrongWord
options_of n checked s [] = files_behind checked s []
options_of zero checked s (word ∷ words) = files_behind checked s (word ∷ words)
options_of (suc n) checked s (word ∷ words) =
    if is_file_word word then files_behind checked s (word ∷ words) else then_options (options_of n checked)
    (option_of checked s word words)

abbrev pub checking_first : List (List ℕ) → Result Asked WrongWord
checking_first [] = options_of 0 false no_option []
checking_first (word ∷ words) =
    if bytes_eq word (codes "-k") then options_of (length words) true no_option words else options_of
    (length (word ∷ words)) false no_option (word ∷ words)

-- there is this word alone
abbrev pub only_word : List (List ℕ) → List ℕ → Bool
only_word (word ∷ []) wanted = bytes_eq word wanted
only_word words wanted = false

-- What the words ask for: `-h` or `-v` alone a page, `-k` before all else a verdict, and else options and files.
abbrev pub asked_of : List (List ℕ) → Result Asked WrongWord
asked_of words =
    if only_word words (codes "-h") then Ok usage
    else (if only_word words (codes "-v") then Ok version else checking_first words)
