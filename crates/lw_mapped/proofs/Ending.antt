-- The end of a reading.
use Rattle.std.proofs.Common.{ℕ, ◌≡◌, ◌≤◌, Bool, true, false, cond, not, List, [], ◌∷◌, length, filter, None, Result, Ok, Err, arith}
use Rattle.std.specs.Prelude.{IfOk}
use Rattle.std.specs.List.{flat_map}
use Rattle.std.specs.Str.{bytes_eq}
use Rattle.lw_frame.specs.Frames.{each_once}
use Rattle.lw_genlib.specs.Cells.{CellParts}
use Rattle.lw_mapped.specs.declared.closing.Mapped.{Mapped}
use Rattle.lw_mapped.specs.declared.contents.Contents.{Contents}
use Rattle.lw_mapped.specs.declared.fault.MappedFault.{MappedFault}
use Rattle.lw_mapped.specs.declared.reader.MappedReader.{MappedReader}
use Rattle.lw_mapped.specs.Closings.{IsClosingOf, IsReadOver}
use Rattle.lw_mapped.specs.Keeping.{IsOfFew}
use Rattle.lw_mapped.specs.LineFaults.{lines_read, lines_say}
use Rattle.lw_mapped.specs.Said.{outputs_in}
use Rattle.lw_mapped.specs.Standing.{IsGivenFew}
use Rattle.lw_mapped.proofs.CellGates.{lines-of-cells}
use Rattle.lw_mapped.proofs.Sizes.{lines-fit, read-fits}

filter-few : {A : Type 0} (p : A → Bool) (xs : List A) → length (filter p xs) ≤ length xs
filter-few p [] = omega arith
filter-few p (x ∷ xs) = by_case (p x) (filter-few p xs)
  where
    by_case : (b : Bool) → length (filter p xs) ≤ length xs → length (cond b (x ∷ filter p xs) (filter p xs)) ≤ length (x ∷ xs)
    by_case true e = omega (arith, e)
    by_case false e = omega (arith, e)

once-few : (names : List (List ℕ)) → length (each_once names) ≤ length names
once-few [] = omega arith
once-few (name ∷ names) = omega (arith, filter-few (λ other. not (bytes_eq name other)) (each_once names), once-few names)

pub few-lines : (reader : MappedReader) (cells : List CellParts) → reader.stop ≡ None → IsGivenFew reader cells → IsOfFew reader.parts.contents cells
few-lines reader cells open_one given =
    let read = lines_read given.lines in
    let kept = given.stands.kept open_one in
    let fit = lines-fit cells read in
    let within = read-fits given.lines in
    record {
      said = lines_say cells read;
      keeps = kept.said;
      gates = lines-of-cells cells read;
      few = omega (arith, fit, within, given.few);
      outputs = omega (arith, fit, within, given.few, once-few (flat_map outputs_in (lines_say cells read)));
    }

-- what is read is of these cells and fits
pub read-over : (cells : List CellParts) (kept : Contents) (r : Result Mapped MappedFault) → IsClosingOf kept cells r → IfOk r (IsReadOver cells)
read-over cells kept (Ok mapped) is = record { over = is.over; fits = is.fits }
read-over cells kept (Err f) is = tt
