-- What is so of all that a line of one kind can say is so of what it says.
use Rattle.std.proofs.Common.{ℕ, ◌≡◌, Bool, true, false, cond, nat_lt, List, [], ◌∷◌, length, drop, Option, Some, None, Result, Ok, Err, refl}
use Rattle.std.specs.Prelude.{codes, position, slice_get}
use Rattle.std.specs.List.{AllByRecursion as Each}
use Rattle.std.specs.Str.{bytes_eq}
use Rattle.lw_fixed.specs.declared.micro.Micro.{Micro}
use Rattle.lw_fixed.specs.declared.fault.DecimalFault.{DecimalFault}
use Rattle.lw_fixed.specs.Decimals.{decimal_of}
use Rattle.lw_frame.specs.Starts.{start_said}
use Rattle.lw_genlib.specs.Cells.{CellParts, names_of}
use Rattle.lw_mapped.specs.declared.fault.MappedKind.{MappedKind}
use Rattle.lw_mapped.specs.declared.fault.MappedKind.TheVariants as kind
use Rattle.lw_mapped.specs.declared.saying.Saying.{Saying}
use Rattle.lw_mapped.specs.declared.saying.Saying.TheVariants as saying
use Rattle.lw_mapped.specs.GateLines.{gate_of, ties_fault}
use Rattle.lw_mapped.specs.LineFaults.{what_is_said}
use Rattle.lw_mapped.specs.Sayings.{arrival_says, certificate_says, class_said, default_arrival, default_says, gate_says, gate_says_at, gate_says_in, label_of, named_arrival, net_of, said}
use Rattle.lw_mapped.specs.Limits.{label_units}
use Rattle.lw_words.specs.Words.{first_word, is_name}

module _ (P : Saying → Type 0) where
  abbrev AllSaid : Result Saying MappedKind → Type 0
  AllSaid result = Each P (what_is_said result)

  pub said-all : (o : Option MappedKind) (s : Saying) → (o ≡ None → P s) → AllSaid (said o s)
  said-all None s own = (own refl, tt)
  said-all (Some k) s own = tt

  -- a gate of a cell of the library, whose words break no rule
  pub gate-all : (cells : List CellParts) (words : List (List ℕ)) →
      ((number : ℕ) (cell : CellParts) → slice_get cells number ≡ Some cell → ties_fault cell (drop 1 words) ≡ None → P (saying.Gate (gate_of number cell (drop 1 words)))) → AllSaid (gate_says cells words)
  gate-all cells words own = by_length (nat_lt (length words) 2)
    where
      by_cell : (number : ℕ) (o : Option CellParts) → slice_get cells number ≡ o → AllSaid (gate_says_at cells number (drop 1 words) o)
      by_cell number None at = tt
      by_cell number (Some cell) at = said-all (ties_fault cell (drop 1 words)) (saying.Gate (gate_of number cell (drop 1 words))) (own number cell at)

      by_name : (o : Option ℕ) → AllSaid (gate_says_in cells (drop 1 words) o)
      by_name None = tt
      by_name (Some number) = by_cell number (slice_get cells number) refl

      by_length : (b : Bool) → AllSaid (cond b (Err kind.Shape) (gate_says_in cells (drop 1 words) (position (bytes_eq (first_word words)) (names_of cells))))
      by_length true = tt
      by_length false = by_name (position (bytes_eq (first_word words)) (names_of cells))

  pub arrival-all : ((name rise fall : List ℕ) (start : Micro) → start_said rise fall ≡ Ok start → P (saying.Arrival name start)) → (words : List (List ℕ)) → AllSaid (arrival_says words)
  arrival-all own [] = tt
  arrival-all own (a ∷ []) = tt
  arrival-all own (a ∷ b ∷ []) = tt
  arrival-all own (name ∷ rise ∷ fall ∷ words) = by_name (is_name name) (start_said rise fall) refl
    where
      by_name : (b : Bool) (start : Result Micro DecimalFault) → start_said rise fall ≡ start → AllSaid (cond b (named_arrival name start) (Err kind.BadName))
      by_name true (Ok s) e = (own name rise fall s e, tt)
      by_name true (Err f) e = tt
      by_name false start e = tt

  pub default-all : ((rise fall : List ℕ) (start : Micro) → start_said rise fall ≡ Ok start → P (saying.DefaultArrival start)) → (words : List (List ℕ)) → AllSaid (default_says words)
  default-all own [] = tt
  default-all own (a ∷ []) = tt
  default-all own (rise ∷ fall ∷ words) = by_start (start_said rise fall) refl
    where
      by_start : (start : Result Micro DecimalFault) → start_said rise fall ≡ start → AllSaid (default_arrival start)
      by_start (Ok s) e = (own rise fall s e, tt)
      by_start (Err f) e = tt

  -- the label of a class, or the class of a net
  pub certificate-all : ((first second : List ℕ) (class : ℕ) (label : Micro) → class_said first ≡ Some class → decimal_of second label_units ≡ Ok label → P (saying.Label (record { 0 = class }) label)) →
      ((first second : List ℕ) (class : ℕ) → class_said second ≡ Some class → P (saying.Net first (record { 0 = class }))) → (words : List (List ℕ)) → AllSaid (certificate_says words)
  certificate-all own net [] = tt
  certificate-all own net (a ∷ []) = tt
  certificate-all own net (a ∷ b ∷ []) = tt
  certificate-all own net (what ∷ first ∷ second ∷ []) = by_what (bytes_eq what (codes "label")) (bytes_eq what (codes "net")) (class_said first) refl (class_said second) refl (decimal_of second label_units) refl
    where
      by_what : (l n : Bool) (c : Option ℕ) → class_said first ≡ c → (d : Option ℕ) → class_said second ≡ d → (r : Result Micro DecimalFault) → decimal_of second label_units ≡ r →
          AllSaid (cond l (label_of c r) (cond n (net_of first d) (Err kind.Certificate)))
      by_what true n (Some c) ec d ed (Ok r) er = (own first second c r ec er, tt)
      by_what true n (Some c) ec d ed (Err f) er = tt
      by_what true n None ec d ed r er = tt
      by_what false true c ec (Some d) ed r er = (net first second d ed, tt)
      by_what false true c ec None ed r er = tt
      by_what false false c ec d ed r er = tt
  certificate-all own net (a ∷ b ∷ c ∷ d ∷ words) = tt
