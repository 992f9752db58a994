-- What the first word of a line of a mapped text asks for.
use Rattle.std.specs.Prelude.{ℕ, ◌||◌, List, if◌then◌else◌, codes}
use Rattle.std.specs.Str.{bytes_eq}
use Rattle.lw_mapped.specs.declared.command.Command.{Command}
use Rattle.lw_mapped.specs.declared.command.Command.TheVariants.{Model, Inputs, Outputs, Gate, Names, Latch}
use Rattle.lw_mapped.specs.declared.command.Command.TheVariants.{InputArrival, DefaultArrival, Certificate, End}
use Rattle.lw_mapped.specs.declared.command.Command.TheVariants.{Ignored, Unknown, Plain}
use Rattle.lw_words.specs.Words.{is_ignored_word, has_point}

-- what a word that begins with `.` asks for, if it is none of a netlist's own lines
unfoldable pub other_command : List ℕ → Command
other_command word = if is_ignored_word word then Ignored else Unknown

-- what a word that begins with `.` asks for, if it is no line of gates, wires or latches
unfoldable pub port_command : List ℕ → Command
port_command word =
    if bytes_eq word (codes ".model") then Model
    else (if bytes_eq word (codes ".inputs") then Inputs
    else (if bytes_eq word (codes ".outputs") then Outputs
    else (if bytes_eq word (codes ".input_arrival") then InputArrival
    else (if bytes_eq word (codes ".default_input_arrival") then DefaultArrival else other_command word))))

-- what a word that begins with `.` asks for
unfoldable pub point_command : List ℕ → Command
point_command word =
    if bytes_eq word (codes ".gate") then Gate
    else (if bytes_eq word (codes ".names") then Names
    else (if bytes_eq word (codes ".latch") then Latch
    else (if bytes_eq word (codes ".end") || bytes_eq word (codes ".exdc") then End else port_command word)))

-- what a first word asks for
unfoldable pub command_of : List ℕ → Command
command_of word =
    if has_point word then point_command word else (if bytes_eq word (codes "#@") then Certificate else Plain)
