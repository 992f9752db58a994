-- A mapped text that is read as the netlist that it was written of.
use Rattle.std.specs.Prelude.{◌≡◌, ◌≤◌, ℕ, List, length, Option, Some, Ok}
use Rattle.lw_fixed.specs.declared.micro.Micro.{Micro}
use Rattle.lw_pool.specs.declared.latch.Frame.{Frame}
use Rattle.lw_genlib.specs.Cells.{CellParts}
use Rattle.lw_netlist.specs.Netlists.{NetlistParts}
use Rattle.lw_mapped.specs.declared.certificate.Certificate.{Certificate}
use Rattle.lw_mapped.specs.Readable.{read_of}
use Rattle.lw_files.specs.Steps.{Files}
use Rattle.lw_top.specs.Answers.{ReadsMapped}
use Rattle.lw_words.specs.Limits.{most_bytes}
use Rattle.lw_answers.specs.Checked.{AreApart}

-- Where no cell of the library has an output with the name of one of its pins, each file with this text is read as this
-- netlist, with its frame, its starts and its certificate. The text is not too long to be read.
abbrev pub ReadsBack : List CellParts → NetlistParts → Frame → List Micro → Option Certificate → List ℕ → Type 0
ReadsBack cells n frame starts certificate text =
    AreApart cells → length text ≤ most_bytes → (name : List ℕ) (files : Files) → files name ≡ Some text
    → ReadsMapped name cells files (Ok (read_of n frame starts certificate))
