-- The netlist of a mapped text, or a fault of it, cannot fail to be there.
use Rattle.std.proofs.Common.{ℕ, suc, ◌<◌, ◌≤◌, ◌≡◌, inl, inr, if◌then◌else◌, max, List, [], ◌∷◌, length, Option, Some, None, Result, Ok, Err, slice_get, slice_index_or, refl, ap, sym, ◌∙◌, subst, arith}
use Rattle.std.specs.List.{flat_map}
use Rattle.std.proofs.lemmas.List.{get_or_past}
use Rattle.std.proofs.lemmas.Option.{get_or_from_slice_get}
use native.Mathlib.Decide.{dec_lt}
use Rattle.lw_facts.proofs.Tests.{eq_lower}
use Rattle.lw_laws.proofs.Lists.{slice_get_some}
use Rattle.lw_words.specs.Lines.{LogicalLine}
use Rattle.lw_fixed.specs.declared.micro.Micro.{Micro}
use Rattle.lw_genlib.specs.Cells.{CellParts}
use Rattle.lw_netlist.specs.Netlists.{NetlistParts}
use Rattle.lw_named_netlist.specs.declared.fault.NetlistFault.TheVariants as netlist
use Rattle.lw_named_netlist.specs.Closing.{IsClosed}
use Rattle.lw_mapped.specs.declared.closing.Mapped.{Mapped as MappedParts}
use Rattle.lw_mapped.specs.declared.fault.MappedFault.{MappedFault}
use Rattle.lw_mapped.specs.declared.fault.MappedFault.TheVariants as fault
use Rattle.lw_mapped.specs.declared.saying.Saying.{Saying}
use Rattle.lw_mapped.specs.LineFaults.{FaultAt, text_fault, lines_read, lines_say}
use Rattle.lw_mapped.specs.Said.{Labelled, labels_in, label_among}
use Rattle.lw_mapped.specs.Unmapped.{draft_said, frame_said, starts_said, classes_said, IsSaid, ComesTo, IsUnmapped}
use Rattle.lw_files.specs.declared.fault.FileFault.{FileFault}
use Rattle.lw_files.specs.declared.fault.FileFault.TheVariants.{Mapped, Twice, Undriven, NetCycle}
use Rattle.lw_files.specs.Steps.{Files}
use Rattle.lw_files.specs.Sources.{text_of, marked_lines_in, HasMapped, ReadsMapped}
use Rattle.lw_exists.specs.Weakly.{Weakly}
use Rattle.lw_exists.proofs.Weak.{sure, weaker, some_list}
use Rattle.lw_exists.proofs.SomeClosed.{Closes, some_closed}

-- one more than the greatest class of these labels
abbrev past : List Labelled → ℕ
past [] = 0
past (l ∷ labels) = max (suc l.class) (past labels)

no_label : (labels : List Labelled) (class : ℕ) → past labels ≤ class → label_among labels class ≡ None
no_label [] class le = refl
no_label (l ∷ labels) class le =
    ap (λ b. if b then Some l.label else label_among labels class) (eq_lower l.class class (omega arith)) ∙ no_label labels class (omega arith)

-- the label of each class in a list
some_labels : (labels : List Labelled) → (xs : List (Option Micro)) × ((class : ℕ) → slice_index_or xs class None ≡ label_among labels class)
some_labels labels =
    let (xs, count, are) = some_list (λ class o. o ≡ label_among labels class) (past labels) (λ class lt. (label_among labels class, refl)) in
    (xs, λ class. by_place xs count are class (dec_lt class (past labels)))
  where
    by_place : (xs : List (Option Micro)) → length xs ≡ past labels → ((class : ℕ) (o : Option Micro) → slice_get xs class ≡ Some o → o ≡ label_among labels class) → (class : ℕ) → Dec (class < past labels) → slice_index_or xs class None ≡ label_among labels class
    by_place xs count are class (yes lt) =
        let (o, at) = slice_get_some xs class (omega arith) in
        get_or_from_slice_get xs class o None at ∙ are class o at
    by_place xs count are class (no ge) = get_or_past xs class None (omega arith) ∙ sym (no_label labels class (omega arith))

some_said : (said : List Saying) (n : NetlistParts) → IsClosed (draft_said said) n → (m : MappedParts) × IsSaid said m
some_said said n is =
    let (xs, are) = some_labels (flat_map labels_in said) in (
      record { netlist = n; frame = frame_said said; starts = starts_said said; cert = record { labels = xs; nets = classes_said said n } },
      record { netlist = is; frame = refl; starts = refl; labels = are; nets = refl },
    )

module _ (cells : List CellParts) (bytes : List ℕ) (files : Files) where
  abbrev lines : List LogicalLine
  lines = marked_lines_in bytes

  abbrev said : List Saying
  said = lines_say cells (lines_read lines)

  abbrev HasSome : Type 0
  HasSome = (r : Result MappedParts FileFault) × HasMapped cells bytes files r

  at_fault : (o : Option FaultAt) → text_fault cells lines ≡ o → (r : Result MappedParts MappedFault) → ComesTo o said r → IsUnmapped cells lines r
  at_fault o e r is = subst (λ (p : Option FaultAt). ComesTo p said r) (sym e) is

  by_closing : text_fault cells lines ≡ None → Closes (draft_said said) → HasSome
  by_closing e (inl (n, is)) = let (m, s) = some_said said n is in (Ok m, at_fault None e (Ok m) s)
  by_closing e (inr (name, inl h)) = (Err (Twice name), at_fault None e (Err (fault.Whole (netlist.Twice name))) h)
  by_closing e (inr (name, inr (inl h))) = (Err (Undriven name), at_fault None e (Err (fault.Whole (netlist.Undriven name))) h)
  by_closing e (inr (name, inr (inr h))) = (Err (NetCycle name), at_fault None e (Err (fault.Whole (netlist.Cycle name))) h)

  by_fault : (o : Option FaultAt) → text_fault cells lines ≡ o → Weakly HasSome
  by_fault (Some first) e =
      sure (Err (Mapped first.number first.kind), at_fault (Some first) e (Err (fault.Line first.number first.kind)) refl)
  by_fault None e = weaker (by_closing e) (some_closed (draft_said said))

pub some_mapped : (name : List ℕ) (cells : List CellParts) (files : Files) → Weakly ((r : Result MappedParts FileFault) × ReadsMapped name cells files r)
some_mapped name cells files = by_text (text_of name files) refl
  where
    by_text : (r : Result (List ℕ) FileFault) → text_of name files ≡ r → Weakly ((r : Result MappedParts FileFault) × ReadsMapped name cells files r)
    by_text (Ok bytes) e = weaker (λ (r, is). (r, inl (bytes, e, is))) (by_fault cells bytes files (text_fault cells (marked_lines_in bytes)) refl)
    by_text (Err f) e = sure (Err f, inr (f, e, refl))
