-- What was written in Verilog is read back.
use Rattle.std.proofs.Common.{ℕ, ◌≤◌, ◌<◌, ◌^◌, inl, inr, List, length, Some, Ok, refl, ap, ◌∙◌, subst, arith}
use Rattle.lw_genlib.specs.Cells.{CellParts}
use Rattle.lw_mapped.specs.declared.closing.Mapped.{Mapped}
use Rattle.lw_mapped.specs.Readable.{IsNamed}
use Rattle.lw_mapped.proofs.SaidNames.{read-named}
use Rattle.lw_verilog.specs.Texts.{verilog_text}
use Rattle.lw_verilog.proofs.ReadBack.{outputs_few, reads_back}
use Rattle.lw_files.specs.Steps.{Files}
use Rattle.lw_top.specs.Words.{to_verilog, from_verilog}
use Rattle.lw_top.specs.Answers.{ReadsLibrary, ReadsMapped, IsToVerilogAnswer, asked_for, IsAnswer}
use Rattle.lw_top.specs.Verilogs.{SaysVerilog}
use Rattle.lw_answers.specs.Backs.{IsBackOf, ComesBack}
use Rattle.lw_answers.proofs.Accepted.{library_again, text_there}
use Rattle.lw_top.proofs.Asked.{asked_text}
use Rattle.lw_files.proofs.Kept.{cells_kept, mapped_kept}
use Rattle.lw_answers.proofs.Writable.{writable}

-- the cells, the netlist and the text
record IsSaid (library mapped : List ℕ) (files : Files) (text : List ℕ) : Type 0 where
  cells : List CellParts
  netlist : Mapped
  library_read : ReadsLibrary library files (Ok cells)
  mapped_read : ReadsMapped mapped cells files (Ok netlist)
  says : SaysVerilog cells netlist files (Ok text)

said : (library mapped : List ℕ) (files : Files) (text : List ℕ) → IsToVerilogAnswer library mapped files (Ok text) → IsSaid library mapped files text
said library mapped files text (inl (cells, lib, inl (m, read, says))) = record { cells = cells; netlist = m; library_read = lib; mapped_read = read; says = says }
said library mapped files text (inl (cells, lib, inr (e, refused, is))) = cc
said library mapped files text (inr (e, refused, is)) = cc

names_of_read : (name : List ℕ) (cells : List CellParts) (files : Files) (m : Mapped) → ReadsMapped name cells files (Ok m) → IsNamed m.netlist
names_of_read name cells files m (inl (bytes, text, is)) = read-named cells bytes m is
names_of_read name cells files m (inr (e, refused, is)) = cc

pub comes_back : (words backs : List (List ℕ)) (files others : Files) (text : List ℕ) → IsBackOf words files text backs others → IsAnswer words files (Ok text) → ComesBack words files backs others
comes_back words backs files others text b answer =
    let s = said b.library b.mapped files text (asked_text words files (to_verilog b.library b.mapped) text b.there answer) in
    let lib = cells_kept b.library files s.cells s.library_read in
    let kept = mapped_kept b.mapped s.cells files s.netlist s.mapped_read in
    let own = verilog_text s.cells s.netlist.netlist in
    let short : length own ≤ 67108864 = subst (λ t. length t ≤ 67108864) s.says.1 b.few in
    let outputs = outputs_few s.cells s.netlist.netlist in
    let few : length s.netlist.netlist.outputs < 2 ^ 62 = omega arith in
    let can = writable s.cells s.netlist.netlist s.netlist.frame lib kept.netlist kept.over (names_of_read b.mapped s.cells files s.netlist s.mapped_read) few s.says.0 in
    let text_read = text_there b.verilog own others (b.written ∙ ap Some s.says.1) short in
    let library = library_again b.library b.other_library files others s.cells b.same_library s.library_read in
    record {
      library = b.library;
      mapped = b.mapped;
      there = b.there;
      cells = s.cells;
      netlist = s.netlist;
      library_read = s.library_read;
      mapped_read = s.mapped_read;
      back = inl (from_verilog b.other_library b.verilog, ap asked_for b.back, inl (s.cells, library, inl (s.netlist.netlist, inl (own, text_read, reads_back s.cells s.netlist.netlist can), refl)));
    }
