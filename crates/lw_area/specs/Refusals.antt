-- Why there is no netlist: the exit status and the text.
use Rattle.std.specs.Prelude.{ℕ, List, [], ◌++◌, slice_index_or, if◌then◌else◌, codes, decimal}
use Rattle.std.specs.List.{flat_map}
use Rattle.lw_files.specs.Faults.{fault_status}
use Rattle.lw_map.specs.declared.fault.MapFault.{MapFault}
use Rattle.lw_map.specs.declared.fault.MapFault.TheVariants.{Forms, Splits, NoCover, Points, Memory}
use Rattle.lw_top.specs.Reasons.{reason_text}
use Rattle.lw_joined.specs.declared.taking.Left.{Left}
use Rattle.lw_joined.specs.declared.taking.Limit.{Limit}
use Rattle.lw_joined.specs.declared.taking.Limit.TheVariants as limits
use Rattle.lw_area.specs.declared.mapping.Notes.{Notes}
use Rattle.lw_shown.specs.Shown.{shown}
use Rattle.lw_shown.specs.Faults.{named, shown_fault}
use Rattle.lw_area.specs.declared.refusal.Refusal.{Refusal}
use Rattle.lw_area.specs.declared.refusal.Refusal.TheVariants.{Library, Network, Further, Strange, Mapped, Unmapped, No}
use Rattle.lw_area.specs.declared.words.Wrong.{Wrong}
use Rattle.lw_area.specs.declared.words.Wrong.TheVariants.{Missing, Unknown, Width, Trial, Time, Certified, Late}
use Rattle.lw_area.specs.Words.{Task, WrongWord}

abbrev pub map_status : MapFault → ℕ
map_status Forms = 5
map_status Splits = 5
map_status Points = 5
map_status (NoCover name) = 6
map_status Memory = 8

abbrev pub status_of : Refusal → ℕ
status_of (Library fault) = fault_status fault
status_of (Network fault) = fault_status fault
status_of (Further place fault) = fault_status fault
status_of (Strange place name) = 3
status_of (Mapped fault) = fault_status fault
status_of (Unmapped fault) = map_status fault
status_of (No reason) = 9

-- Words.

abbrev pub why_text : Wrong → List ℕ
why_text Missing = codes "a word is missing"
why_text Unknown = codes "no option"
why_text Width = codes "no width from 2 to 8"
why_text Trial = codes "no effort from 0 to 3"
why_text Time = codes "no deadline: max, each, 100% to 999%, or a time"
why_text Certified = codes "a certificate wants -t each"
why_text Late = codes "options stand before LIB"

-- the word, where one is wrong
abbrev pub word_part : List ℕ → List ℕ
word_part [] = []
word_part word = shown word ++ codes ": "

abbrev pub line : List ℕ → List ℕ
line text = codes "lwarea: " ++ (text ++ codes "\n")

abbrev pub wrong_line : WrongWord → List ℕ
wrong_line wrong = line (word_part wrong.word ++ (why_text wrong.why ++ codes "; lwarea -h says more"))

-- Netlists.

abbrev pub map_text : MapFault → List ℕ
map_text Forms = codes "limit: more than 2097152 forms"
map_text Splits = codes "limit: more than 16777216 splits"
map_text Points = codes "limit: more than 8000000 points"
map_text (NoCover name) = named [] (codes "no cover for output ") name
map_text Memory = codes "out of memory"

-- the word for the file of a further network
abbrev pub word_at : Task → ℕ → List ℕ
word_at task place = slice_index_or task.more place []

-- why there is no answer, where a netlist that is checked has this word
abbrev pub refusal_text : Task → List ℕ → Refusal → List ℕ
refusal_text task mapped (Library fault) = shown_fault task.library fault
refusal_text task mapped (Network fault) = shown_fault task.network fault
refusal_text task mapped (Further place fault) = shown_fault (word_at task place) fault
refusal_text task mapped (Strange place name) =
    named (word_at task place) (codes ": no input of the first network: ") name
refusal_text task mapped (Mapped fault) = shown_fault mapped fault
refusal_text task mapped (Unmapped fault) = map_text fault
refusal_text task mapped (No reason) = codes "no: " ++ reason_text reason

abbrev pub refusal_line : Task → List ℕ → Refusal → List ℕ
refusal_line task mapped refusal = line (refusal_text task mapped refusal)

-- What is said beside a netlist.

abbrev pub limit_text : Limit → List ℕ
limit_text limits.Signals = codes " left out: more than 262144 signals\n"
limit_text limits.Forms = codes " left out: more than 2097152 forms\n"
limit_text limits.Splits = codes " left out: more than 16777216 splits\n"

abbrev pub left_line : Task → Left → List ℕ
left_line task left = codes "lwarea: " ++ (shown (word_at task left.place) ++ limit_text left.limit)

-- a line for each network that is left out
abbrev pub left_lines : Task → List Left → List ℕ
left_lines task left = flat_map (left_line task) left

abbrev pub counts_line : Notes → List ℕ
counts_line notes =
    codes "lwarea: networks " ++ (decimal notes.networks ++ (codes ", forms " ++ (decimal notes.forms
    ++ (codes ", pairs equal " ++ (decimal notes.counts.equal ++ (codes ", apart " ++ (decimal notes.counts.apart
    ++ (codes ", left " ++ (decimal notes.counts.open ++ (codes ", links " ++ (decimal notes.counts.links
    ++ (codes ", conflicts " ++ (decimal notes.counts.conflicts ++ (codes ", ms to read "
    ++ (decimal notes.times.read ++ (codes ", to join " ++ (decimal notes.times.joined ++ (codes ", to map "
    ++ (decimal notes.times.mapped ++ codes "\n")))))))))))))))))))

abbrev pub notes_lines : Task → Notes → List ℕ
notes_lines task notes =
    if task.settings.counted then left_lines task notes.left.items ++ counts_line notes
    else left_lines task notes.left.items

abbrev pub unwritten_line : List ℕ
unwritten_line = line (codes "cannot write")
