-- The lines for err.
use Rattle.std.specs.Prelude.{ℕ, ◌-◌, Bool, List, [], ◌∷◌, ◌++◌, Option, Some, None, unwrap_or, slice_index_or}
use Rattle.std.specs.Prelude.{if◌then◌else◌, codes, decimal}
use Rattle.lw_equal.specs.declared.answer.Counts.{Counts}
use Rattle.lw_equal.specs.declared.answer.PortFault.{PortFault}
use Rattle.lw_equal.specs.declared.answer.PortKind.{PortKind}
use Rattle.lw_equal.specs.declared.answer.PortKind.TheVariants.{Input, Output, Latch}
use Rattle.lw_equal_top.specs.declared.fault.Refusal.{Refusal}
use Rattle.lw_equal_top.specs.declared.fault.Refusal.TheVariants.{Library, File, Ports, Memory}
use Rattle.lw_equal_top.specs.declared.outcome.Ending.{Ending}
use Rattle.lw_equal_top.specs.declared.outcome.Ending.TheVariants.{Told, Answered, WriteFault, Refused}
use Rattle.lw_shown.specs.Faults.{named, shown_fault}
use Rattle.lw_equal_top.specs.Words.{Comparison, Request, help, version, comparing, WordFault, few, dashed, numeral}

-- Ports.

-- the word at a place, and nothing past the last
abbrev pub word_at : List (List ℕ) → ℕ → List ℕ
word_at words place = slice_index_or words place []

abbrev pub kind_name : PortKind → List ℕ
kind_name Input = codes " has no input "
kind_name Output = codes " has no output "
kind_name Latch = codes " has no latch "

-- the file of a network, whose number counts from 1
abbrev pub file_of : List (List ℕ) → ℕ → List ℕ
file_of files number = word_at files (number - 1)

abbrev pub port_text : List (List ℕ) → PortFault → List ℕ
port_text files fault = named (file_of files fault.lacks) (kind_name fault.kind) fault.name
    ++ (named [] (codes ", which ") (file_of files fault.has) ++ codes " has")

-- Lines.

abbrev pub refusal_text : Comparison → Refusal → List ℕ
refusal_text c (Library fault) = shown_fault (unwrap_or c.library []) fault
refusal_text c (File place fault) = shown_fault (word_at c.files place) fault
refusal_text c (Ports fault) = port_text c.files fault
refusal_text c Memory = codes "out of memory"

abbrev pub line : List ℕ → List ℕ
line text = codes "lwequal: " ++ (text ++ codes "\n")

abbrev pub count : List ℕ → ℕ → List ℕ
count before number = before ++ (decimal number ++ [])

-- at how many points the networks were compared, how large their graph is, and how its pairs of nodes were found
abbrev pub counts_text : Counts → List ℕ
counts_text c =
    count (codes "points ") c.points
    ++ (count (codes ", nodes ") c.nodes
    ++ (count (codes ", pairs equal ") c.equal
    ++ (count (codes ", apart ") c.apart
    ++ (count (codes ", left ") c.open
    ++ count (codes ", conflicts ") c.conflicts))))

-- the line where standard output failed
abbrev pub cannot_write : List ℕ
cannot_write = line (codes "cannot write")

abbrev pub comparison_line : Comparison → Ending → List ℕ
comparison_line c Told = []
comparison_line c (Answered compared) = if c.counted then line (counts_text compared.outcome.counts) else []
comparison_line c WriteFault = cannot_write
comparison_line c (Refused refusal) = line (refusal_text c refusal)

-- the line of an ending, if it has one
abbrev pub ending_line : Request → Ending → List ℕ
ending_line (comparing c) ending = comparison_line c ending
ending_line page WriteFault = cannot_write
ending_line page other = []

-- Words.

abbrev pub word_text : WordFault → List ℕ
word_text few = codes "two networks are needed"
word_text (dashed word) = named [] (codes "unexpected option ") word
word_text (numeral word) = named [] (codes "-n needs a number below 4294967296, not ") word

abbrev pub usage_text : List ℕ
usage_text = codes "; usage: lwequal [-l LIB] [-n CONFLICTS] [-s] IN1 IN2 [MORE ..] | lwequal -h | lwequal -v"

abbrev pub words_line : WordFault → List ℕ
words_line fault = line (word_text fault ++ usage_text)
