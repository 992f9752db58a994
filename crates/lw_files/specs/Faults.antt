-- The text and the exit status of each fault of a file.
use Rattle.std.specs.Prelude.{ℕ, List, ◌++◌, codes, decimal}
use Rattle.lw_files.specs.declared.fault.FileFault.{FileFault}
use Rattle.lw_files.specs.declared.fault.FileFault.TheVariants.{Unread, TooLong, Library, Network, Undefined, Cycle}
use Rattle.lw_files.specs.declared.fault.FileFault.TheVariants.{Mapped, Twice, Undriven, NetCycle, Memory}
use Rattle.lw_files.specs.Kinds.{blif_text, lib_text, mapped_kind_text}

-- a line of a file breaks the rule of this text
abbrev pub broken_text : List ℕ → ℕ → List ℕ → List ℕ
broken_text file number text = file ++ (codes " line " ++ (decimal number ++ (codes ": " ++ text)))

-- what is wrong with the file that this word names
abbrev pub fault_text : List ℕ → FileFault → List ℕ
fault_text file Unread = codes "cannot read " ++ file
fault_text file TooLong = codes "limit: " ++ (file ++ codes " has more than 67108864 bytes")
fault_text file (Library line kind) = broken_text file line (lib_text kind)
fault_text file (Network line kind) = broken_text file line (blif_text kind)
fault_text file (Undefined name) = file ++ (codes ": undefined signal " ++ name)
fault_text file (Cycle name) = file ++ (codes ": cycle through " ++ name)
fault_text file (Mapped line kind) = broken_text file line (mapped_kind_text kind)
fault_text file (Twice name) = file ++ (codes ": net " ++ (name ++ codes " driven twice"))
fault_text file (Undriven name) = file ++ (codes ": net " ++ (name ++ codes " not driven"))
fault_text file (NetCycle name) = file ++ (codes ": cycle through " ++ name)
fault_text file Memory = codes "out of memory"

abbrev pub fault_status : FileFault → ℕ
fault_status Unread = 2
fault_status (Network line kind) = 3
fault_status (Undefined name) = 3
fault_status (Cycle name) = 3
fault_status (Library line kind) = 4
fault_status TooLong = 5
fault_status Memory = 8
fault_status (Mapped line kind) = 10
fault_status (Twice name) = 10
fault_status (Undriven name) = 10
fault_status (NetCycle name) = 10
