-- The words of a request.
use Rattle.std.specs.Prelude.{ℕ, ◌^◌, Bool, true, false, not, ◌&&◌, nat_le, nat_lt, nat_eq, List, [], ◌∷◌, length}
use Rattle.std.specs.Prelude.{Option, Some, None, Result, Ok, Err, if◌then◌else◌, codes}
use Rattle.std.specs.List.{list_all, starts_with}
use Rattle.std.specs.Char.{is_ascii_digit}
use Rattle.std.specs.Str.{bytes_eq}
use Rattle.std.specs.Str.Parse.{digits_value}

-- which networks are to be compared: the library of the mapped ones, the most conflicts of a search, whether counts are
-- wanted, and the files, of which the first two are compared
pub record Comparison : Type 0 where
  pub library : Option (List ℕ)
  pub tries : ℕ
  pub counted : Bool
  pub files : List (List ℕ)

-- what is asked for
pub data Request : Type 0 where
  help : Request
  version : Request
  comparing : Comparison → Request

-- what is wrong with words
pub data WordFault : Type 0 where
  -- they name fewer than two files
  few : WordFault
  -- this word begins with `-`, where no such option may stand
  dashed : List ℕ → WordFault
  -- this word is no number of conflicts
  numeral : List ℕ → WordFault

-- a file's word does not begin with `-`
abbrev pub is_file_word : List ℕ → Bool
is_file_word word = not (starts_with nat_eq word (codes "-"))

abbrev pub first_dashed : List (List ℕ) → Option (List ℕ)
first_dashed [] = None
first_dashed (word ∷ words) = if is_file_word word then first_dashed words else Some word

-- one digit or more, and nothing else
abbrev pub is_numeral : List ℕ → Bool
is_numeral word = nat_le 1 (length word) && list_all is_ascii_digit word

-- a decimal numeral below 2^32
abbrev pub number_of : List ℕ → Option ℕ
number_of word = if is_numeral word && nat_lt (digits_value 10 word) (2 ^ 32) then Some (digits_value 10 word) else None

-- the most conflicts of a search, where the words do not say
abbrev pub usual_tries : ℕ
usual_tries = 1000

-- two files or more
abbrev pub compared : Option (List ℕ) → ℕ → Bool → List (List ℕ) → Option (List ℕ) → Result Request WordFault
compared library tries counted words (Some word) = Err (dashed word)
compared library tries counted words None =
    if nat_le 2 (length words) then Ok (comparing (record {
      library = library;
      tries = tries;
      counted = counted;
      files = words;
    })) else Err few

abbrev pub of_files : Option (List ℕ) → ℕ → Bool → List (List ℕ) → Result Request WordFault
of_files library tries counted words = compared library tries counted words (first_dashed words)

-- `[-s] IN1 IN2 [MORE ..]`
abbrev pub with_counts : Option (List ℕ) → ℕ → List (List ℕ) → Result Request WordFault
with_counts library tries [] = of_files library tries false []
with_counts library tries (option ∷ words) =
    if bytes_eq option (codes "-s") then of_files library tries true words else of_files library tries false
    (option ∷ words)

abbrev pub by_number : Option (List ℕ) → List ℕ → Option ℕ → List (List ℕ) → Result Request WordFault
by_number library word None words = Err (numeral word)
by_number library word (Some tries) words = with_counts library tries words

-- `CONFLICTS [-s] IN1 IN2 [MORE ..]`
abbrev pub with_number : Option (List ℕ) → List (List ℕ) → Result Request WordFault
with_number library [] = Err few
with_number library (word ∷ words) = by_number library word (number_of word) words

-- `[-n CONFLICTS] [-s] IN1 IN2 [MORE ..]`
abbrev pub with_tries : Option (List ℕ) → List (List ℕ) → Result Request WordFault
with_tries library [] = with_counts library usual_tries []
with_tries library (option ∷ words) =
    if bytes_eq option (codes "-n") then with_number library words else with_counts library usual_tries (option ∷ words)

-- `LIB [-n CONFLICTS] [-s] IN1 IN2 [MORE ..]`
abbrev pub behind_library : List (List ℕ) → Result Request WordFault
behind_library [] = Err few
behind_library (word ∷ words) = if is_file_word word then with_tries (Some word) words else Err (dashed word)

-- `[-l LIB] [-n CONFLICTS] [-s] IN1 IN2 [MORE ..]`
abbrev pub with_library : List (List ℕ) → Result Request WordFault
with_library [] = with_tries None []
with_library (option ∷ words) =
    if bytes_eq option (codes "-l") then behind_library words else with_tries None (option ∷ words)

-- What the words ask for, or what is wrong with them: `-h`, `-v`, or a comparison.
abbrev pub request_of : List (List ℕ) → Result Request WordFault
request_of (option ∷ []) =
    if bytes_eq option (codes "-h") then Ok help
    else (if bytes_eq option (codes "-v") then Ok version else with_library (option ∷ []))
request_of words = with_library words
