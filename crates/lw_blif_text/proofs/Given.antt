-- One more line is given.
use Rattle.std.proofs.Common.{◌≡◌, Bool, true, false, List, [], ◌∷◌, ◌++◌, Option, Some, None, refl, ap, sym, ◌∙◌}
use Rattle.lw_words.specs.Lines.{LogicalLine}
use Rattle.lw_frame.specs.Ending.{lines_until, has_end, is_first}
use Rattle.lw_frame.proofs.Ending.{end-more, until-all, until-end, until-ended}
use Rattle.lw_blif_text.specs.declared.stop.Stop.{Stop}
use Rattle.lw_blif_text.specs.declared.stop.Stop.TheVariants as stop
use Rattle.lw_blif_text.specs.FirstFaults.{FaultAt, fault_or, first_fault_by}
use Rattle.lw_blif_text.specs.Standing.{Stops}
use Rattle.lw_blif_text.proofs.Appending.{first_fault-next, first_fault-earlier}

module _ {K : Type 0} (ends : Bool → LogicalLine → Bool) (fault : List LogicalLine → LogicalLine → Option K) where
  -- a fault stays the first, whatever line follows
  fault-stays : (lines : List LogicalLine) (line : LogicalLine) (f : FaultAt K) → first_fault_by fault [] (lines_until ends lines) ≡ Some f → first_fault_by fault [] (lines_until ends (lines ++ line ∷ [])) ≡ Some f
  fault-stays lines line f e = by_end (has_end ends lines) refl
    where
      by_end : (b : Bool) → has_end ends lines ≡ b → first_fault_by fault [] (lines_until ends (lines ++ line ∷ [])) ≡ Some f
      by_end true h = ap (first_fault_by fault []) (until-ended ends lines (line ∷ []) h) ∙ e
      by_end false h = by_line (ends (is_first lines) line) refl
        where
          here : first_fault_by fault [] lines ≡ Some f
          here = ap (first_fault_by fault []) (sym (until-all ends lines h)) ∙ e

          by_line : (t : Bool) → ends (is_first lines) line ≡ t → first_fault_by fault [] (lines_until ends (lines ++ line ∷ [])) ≡ Some f
          by_line true g = ap (first_fault_by fault []) (until-end ends lines line h g) ∙ here
          by_line false g = ap (first_fault_by fault []) (until-all ends (lines ++ line ∷ []) (end-more ends lines line h ∙ g)) ∙ first_fault-earlier fault [] lines (line ∷ []) f here

  pub stops-stay : (s : Stop K) (lines : List LogicalLine) (line : LogicalLine) → Stops (Some s) (first_fault_by fault [] (lines_until ends lines)) → Stops (Some s) (first_fault_by fault [] (lines_until ends (lines ++ line ∷ [])))
  stops-stay (stop.Broken number kind) lines line h = fault-stays lines line (record { number = number; kind = kind }) h
  stops-stay stop.Memory lines line h = h

  -- a line that is read
  pub read-next : (lines : List LogicalLine) (line : LogicalLine) (o : Option K) → has_end ends lines ≡ false → ends (is_first lines) line ≡ false → first_fault_by fault [] (lines_until ends lines) ≡ None → o ≡ fault lines line →
      first_fault_by fault [] (lines_until ends (lines ++ line ∷ [])) ≡ fault_or line.number o None
  read-next lines line o still goes none is =
      ap (first_fault_by fault []) (until-all ends (lines ++ line ∷ []) (end-more ends lines line still ∙ goes))
      ∙ (first_fault-next fault lines line (ap (first_fault_by fault []) (sym (until-all ends lines still)) ∙ none)
      ∙ ap (λ f. fault_or line.number f None) (sym is))
