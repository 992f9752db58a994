-- What is wrong with a file, with the control bytes and backslashes of names escaped.
use Rattle.std.specs.Prelude.{ℕ, List, [], ◌++◌, codes}
use Rattle.lw_files.specs.declared.fault.FileFault.{FileFault}
use Rattle.lw_files.specs.declared.fault.FileFault.TheVariants.{Unread, TooLong, Library, Network, Undefined, Cycle}
use Rattle.lw_files.specs.declared.fault.FileFault.TheVariants.{Mapped, Twice, Undriven, NetCycle, Memory}
use Rattle.lw_files.specs.Faults.{fault_text}
use Rattle.lw_shown.specs.Shown.{shown}

-- a name, what is said of it, and another name
abbrev pub named : List ℕ → List ℕ → List ℕ → List ℕ
named first what second = shown first ++ (what ++ shown second)

-- what is wrong with the file that this word names
abbrev pub shown_fault : List ℕ → FileFault → List ℕ
shown_fault word Unread = named [] (codes "cannot read ") word
shown_fault word TooLong = named [] (codes "limit: ") word ++ codes " has more than 67108864 bytes"
shown_fault word (Undefined name) = named word (codes ": undefined signal ") name
shown_fault word (Cycle name) = named word (codes ": cycle through ") name
shown_fault word (NetCycle name) = named word (codes ": cycle through ") name
shown_fault word (Twice name) = named word (codes ": net ") name ++ codes " driven twice"
shown_fault word (Undriven name) = named word (codes ": net ") name ++ codes " not driven"
shown_fault word (Library line kind) = shown word ++ fault_text [] (Library line kind)
shown_fault word (Network line kind) = shown word ++ fault_text [] (Network line kind)
shown_fault word (Mapped line kind) = shown word ++ fault_text [] (Mapped line kind)
shown_fault word Memory = fault_text [] Memory
