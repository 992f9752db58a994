-- What the first word of a line asks for.
use Rattle.std.specs.Prelude.{ℕ, Bool, ◌||◌, List, [], ◌∷◌, if◌then◌else◌, codes}
use Rattle.std.specs.Str.{bytes_eq}
use Rattle.lw_blif.specs.declared.command.Command.{Command}
use Rattle.lw_blif.specs.declared.command.Command.TheVariants.{Model, Inputs, Outputs, Names, Latch, Arrival}
use Rattle.lw_blif.specs.declared.command.Command.TheVariants.{DefaultArrival, End, Ignored, Unsupported, Unknown, Row}
use Rattle.lw_words.specs.Words.{is_among, is_ignored_word, has_point}

abbrev pub unsupported_words : List (List ℕ)
unsupported_words =
    codes ".gate" ∷ codes ".mlatch" ∷ codes ".subckt" ∷ codes ".search" ∷ codes ".clock" ∷ codes ".start_kiss" ∷ []

unfoldable pub is_unsupported_word : List ℕ → Bool
is_unsupported_word word = is_among unsupported_words word

-- what a word that begins with `.` asks for, if it is none of a network's own lines
unfoldable pub other_command : List ℕ → Command
other_command word =
    if bytes_eq word (codes ".input_arrival") then Arrival
    else (if bytes_eq word (codes ".default_input_arrival") then DefaultArrival
    else (if is_ignored_word word then Ignored else (if is_unsupported_word word then Unsupported else Unknown)))

-- what a word that begins with `.` asks for
unfoldable pub point_command : List ℕ → Command
point_command word =
    if bytes_eq word (codes ".names") then Names
    else (if bytes_eq word (codes ".inputs") then Inputs
    else (if bytes_eq word (codes ".outputs") then Outputs
    else (if bytes_eq word (codes ".model") then Model
    else (if bytes_eq word (codes ".latch") then Latch
    else (if bytes_eq word (codes ".end") || bytes_eq word (codes ".exdc") then End else other_command word)))))

-- what a first word asks for
unfoldable pub command_of : List ℕ → Command
command_of word = if has_point word then point_command word else Row
