-- What is known of the cells, the network and the netlist that were read.
use Rattle.std.proofs.Common.{◌≡◌, inl, inr, ℕ, ◌<◌, ◌≤◌, ◌-◌, ◌^◌, Bool, true, false, nat_le, List, length, Option, Some, None, Result, Ok, Err, if◌then◌else◌, refl, subst, arith}
use Rattle.std.proofs.lemmas.Bool.{leb-true}
use Rattle.std.specs.List.{IsDistinct}
use Rattle.std.specs.Str.{bytes_eq}
use Rattle.lw_words.proofs.Weights.{weights_fit}
use Rattle.lw_net.specs.Networks.{IsNetwork}
use Rattle.lw_blif.specs.declared.parsed.Parsed.{Parsed}
use Rattle.lw_blif.specs.BlifNetworks.{IsModel}
use Rattle.lw_blif.proofs.Models.{lines_network, lines_names, lines_model}
use Rattle.lw_genlib.specs.Cells.{CellParts, IsLibrary}
use Rattle.lw_genlib.proofs.LibraryKept.{library-kept}
use Rattle.lw_netlist.specs.Netlists.{IsNetlist}
use Rattle.lw_netlist.specs.Plain.{IsOver}
use Rattle.lw_mapped.specs.declared.closing.Mapped.{Mapped as MappedParts}
use Rattle.lw_mapped.specs.Standing.{word_count}
use Rattle.lw_mapped.proofs.ReadKept.{read-netlist, read-over, read-certificate}
use Rattle.lw_mapped.proofs.Weights.{words-weigh}
use Rattle.lw_files.specs.declared.fault.FileFault.{FileFault}
use Rattle.lw_files.specs.declared.fault.FileFault.TheVariants.{TooLong}
use Rattle.lw_files.specs.Steps.{Files}
use Rattle.lw_files.specs.Sources.{within_limit, text_of, lines_in, marked_lines_in, ReadsLibrary, ReadsModel, ReadsMapped}
use Rattle.lw_files.proofs.WordLines.{lines_have_words}

-- a text that is read has at most 67,108,864 bytes
by_length : (b : Bool) (bytes text : List ℕ) → nat_le (length bytes) 67108864 ≡ b → ◌≡◌ {A = Result (List ℕ) FileFault} (if b then Ok bytes else Err TooLong) (Ok text) → length text ≤ 67108864
by_length true bytes text short is = let same : bytes ≡ text = cc in subst (λ (t : List ℕ). length t ≤ 67108864) same (leb-true _ _ short)
by_length false bytes text short is = cc

text_within : (o : Option (List ℕ)) (text : List ℕ) → within_limit o ≡ Ok text → length text ≤ 67108864
text_within None text is = cc
text_within (Some bytes) text is = by_length (nat_le (length bytes) 67108864) bytes text refl is

pub text_short : (name : List ℕ) (files : Files) (text : List ℕ) → text_of name files ≡ Ok text → length text ≤ 67108864
unfolding text_of
text_short name files text is = text_within (files name) text is

-- the cells that were read are what each library keeps
pub cells_kept : (name : List ℕ) (files : Files) (cells : List CellParts) → ReadsLibrary name files (Ok cells) → IsLibrary cells
cells_kept name files cells (inl (bytes, text, has)) = library-kept (lines_in bytes) cells (lines_have_words bytes) has
cells_kept name files cells (inr (e, refused, is)) = cc

-- The network of a model is one whose names differ, and the frame and the starts fit it.
pub record AreKept (model : Parsed) : Type 0 where
  pub network : IsNetwork model.network
  pub fits : IsModel model
  pub names_differ : IsDistinct bytes_eq model.network.names

pub model_kept : (name : List ℕ) (files : Files) (model : Parsed) → ReadsModel name files (Ok model) → AreKept model
model_kept name files model (inl (bytes, text, is)) = record {
  network = lines_network (lines_in bytes) model is;
  fits = lines_model (lines_in bytes) model is;
  names_differ = lines_names (lines_in bytes) model is;
}
model_kept name files model (inr (e, refused, is)) = cc

-- The netlist of a mapped text is one of the cells, with a place for each gate in its certificate.
pub record IsReadBy (cells : List CellParts) (m : MappedParts) : Type 0 where
  pub netlist : IsNetlist m.netlist
  pub over : IsOver cells m.netlist
  pub one_class : length m.cert.nets ≡ length m.netlist.gates

-- a text's lines have few words
pub few_words : (bytes : List ℕ) → length bytes ≤ 67108864 → word_count (marked_lines_in bytes) < 2 ^ 32 - 1
few_words bytes short =
    let words = words-weigh (marked_lines_in bytes) in
    let weight = weights_fit true bytes in
    omega (arith, words, weight, short)

pub mapped_kept : (name : List ℕ) (cells : List CellParts) → (files : Files) (m : MappedParts) → ReadsMapped name cells files (Ok m) → IsReadBy cells m
mapped_kept name cells files m (inl (bytes, text, is)) = record {
  netlist = read-netlist cells (marked_lines_in bytes) m is (few_words bytes (text_short name files bytes text));
  over = read-over cells (marked_lines_in bytes) m is;
  one_class = (read-certificate cells (marked_lines_in bytes) m is).one_each;
}
mapped_kept name cells files m (inr (e, refused, is)) = cc
