-- The exit status of each ending.
use Rattle.std.specs.Prelude.{ℕ}
use Rattle.lw_files.specs.declared.fault.FileFault.{FileFault}
use Rattle.lw_files.specs.declared.fault.FileFault.TheVariants as file
use Rattle.lw_files.specs.Faults.{fault_status}
use Rattle.lw_equal.specs.declared.answer.Fault.{Fault}
use Rattle.lw_equal.specs.declared.answer.Fault.TheVariants as fault
use Rattle.lw_equal.specs.declared.answer.Answer.{Answer}
use Rattle.lw_equal.specs.declared.answer.Answer.TheVariants.{Equal, Differ, Undecided}
use Rattle.lw_equal_top.specs.declared.outcome.Ending.{Ending}
use Rattle.lw_equal_top.specs.declared.outcome.Ending.TheVariants.{Told, Answered, WriteFault, Refused}
use Rattle.lw_equal_top.specs.declared.fault.Refusal.{Refusal}
use Rattle.lw_equal_top.specs.declared.fault.Refusal.TheVariants.{Library, File, Ports, Memory}

-- running out of memory is no fault of the library
abbrev pub library_refusal : FileFault → Refusal
library_refusal file.Memory = Memory
library_refusal other = Library other

-- nor of another file
abbrev pub file_refusal : ℕ → FileFault → Refusal
file_refusal place file.Memory = Memory
file_refusal place other = File place other

abbrev pub compare_refusal : Fault → Refusal
compare_refusal (fault.Ports p) = Ports p
compare_refusal fault.Memory = Memory

-- the status of a file's fault: that of `lwmap`, but for a file that was not read, since 2 is an answer here
abbrev pub file_status : FileFault → ℕ
file_status file.Unread = 12
file_status other = fault_status other

abbrev pub refusal_status : Refusal → ℕ
refusal_status (Library f) = file_status f
refusal_status (File place f) = file_status f
refusal_status (Ports p) = 9
refusal_status Memory = 8

-- as diff and cmp have it
abbrev pub answer_status : Answer → ℕ
answer_status Equal = 0
answer_status (Differ d) = 1
answer_status (Undecided points) = 2

-- the exit status
abbrev pub ending_status : Ending → ℕ
ending_status Told = 0
ending_status (Answered compared) = answer_status compared.outcome.answer
ending_status WriteFault = 7
ending_status (Refused refusal) = refusal_status refusal
