-- What a reader keeps of the lines that it was given, line by line.
use Rattle.std.proofs.Common.{ℕ, ◌≡◌, Bool, true, false, not, List, [], ◌∷◌, ◌++◌, Option, Some, None, refl, ap, sym, ◌∙◌, subst}
use Rattle.std.proofs.Math.Bool.{not-not}
use Rattle.lw_words.specs.Lines.{LogicalLine}
use Rattle.lw_frame.specs.Ending.{has_end, is_first, lines_until}
use Rattle.lw_frame.proofs.Ending.{end-more, end-some, end-stays, first-more, until-all, until-end, until-ended}
use Rattle.lw_blif_text.specs.declared.stop.Stop.{Stop}
use Rattle.lw_blif_text.specs.declared.stop.Stop.TheVariants as stop
use Rattle.lw_blif_text.specs.FirstFaults.{FaultAt, fault_or, first_fault_by}
use Rattle.lw_blif_text.specs.Standing.{IsKeptBy, Stops}
use Rattle.lw_blif_text.proofs.Given.{stops-stay, read-next}

-- Lines that have not ended.
pub record IsOpen {K P : Type 0} (ends : Bool → LogicalLine → Bool) (fault : List LogicalLine → LogicalLine → Option K) (keeps : P → List LogicalLine → Type 0) (begun : Bool) (parts : P) (lines : List LogicalLine) : Type 0 where
  pub still : has_end ends lines ≡ false
  pub first : not begun ≡ is_first lines
  pub none : first_fault_by fault [] (lines_until ends lines) ≡ None
  pub kept : keeps parts lines

none-stops : {K : Type 0} (o : Option (Stop K)) (first : Option (FaultAt K)) → o ≡ None → first ≡ None → Stops o first
none-stops {K = K} o first e none = subst (λ (p : Option (Stop K)). Stops p first) (sym e) none

module _ {K P : Type 0} {ends : Bool → LogicalLine → Bool} {fault : List LogicalLine → LogicalLine → Option K} {keeps : P → List LogicalLine → Type 0} where
  -- Behind a fault.

  pub stopped-kept : (begun ended : Bool) (o : Option (Stop K)) (parts : P) (s : Stop K) (lines : List LogicalLine) → o ≡ Some s → Stops (Some s) (first_fault_by fault [] (lines_until ends lines)) → IsKeptBy ends fault keeps begun ended o parts lines
  stopped-kept begun ended o parts s lines e stops = record {
    stop = subst (λ (p : Option (Stop K)). Stops p (first_fault_by fault [] (lines_until ends lines))) (sym e) stops;
    begun = λ none. let wrong : None ≡ Some s = sym none ∙ e in cc;
    ended = λ none. let wrong : None ≡ Some s = sym none ∙ e in cc;
    kept = λ none. let wrong : None ≡ Some s = sym none ∙ e in cc;
  }

  -- the reader stays where it stopped
  pub stops-on : (begun ended : Bool) (o : Option (Stop K)) (parts : P) (s : Stop K) (lines : List LogicalLine) (line : LogicalLine) → o ≡ Some s → IsKeptBy ends fault keeps begun ended o parts lines → Stops (Some s) (first_fault_by fault [] (lines_until ends (lines ++ line ∷ [])))
  stops-on begun ended o parts s lines line e h = stops-stay ends fault s lines line (subst (λ (p : Option (Stop K)). Stops p (first_fault_by fault [] (lines_until ends lines))) e h.stop)

  pub stands-stopped : (begun ended : Bool) (o : Option (Stop K)) (parts : P) (s : Stop K) (lines : List LogicalLine) (line : LogicalLine) → o ≡ Some s → IsKeptBy ends fault keeps begun ended o parts lines → IsKeptBy ends fault keeps begun ended o parts (lines ++ line ∷ [])
  stands-stopped begun ended o parts s lines line e h = stopped-kept begun ended o parts s (lines ++ line ∷ []) e (stops-on begun ended o parts s lines line e h)

  -- Behind the end.

  pub no_fault : (begun ended : Bool) (o : Option (Stop K)) (parts : P) (lines : List LogicalLine) → o ≡ None → IsKeptBy ends fault keeps begun ended o parts lines → first_fault_by fault [] (lines_until ends lines) ≡ None
  no_fault begun ended o parts lines e h = subst (λ (p : Option (Stop K)). Stops p (first_fault_by fault [] (lines_until ends lines))) e h.stop

  pub answer-ended : (begun ended : Bool) (o : Option (Stop K)) (parts : P) (lines : List LogicalLine) (line : LogicalLine) → o ≡ None → ended ≡ true → IsKeptBy ends fault keeps begun ended o parts lines → first_fault_by fault [] (lines_until ends (lines ++ line ∷ [])) ≡ None
  answer-ended begun ended o parts lines line e is h =
      ap (first_fault_by fault []) (until-ended ends lines (line ∷ []) (sym (h.ended e) ∙ is)) ∙ no_fault begun ended o parts lines e h

  pub stands-ended : (begun ended : Bool) (o : Option (Stop K)) (parts : P) (lines : List LogicalLine) (line : LogicalLine) → o ≡ None → ended ≡ true → IsKeptBy ends fault keeps begun ended o parts lines → IsKeptBy ends fault keeps begun ended o parts (lines ++ line ∷ [])
  stands-ended begun ended o parts lines line e is h =
      let has = sym (h.ended e) ∙ is in
      record {
        stop = none-stops o _ e (answer-ended begun ended o parts lines line e is h);
        begun = λ none. h.begun e ∙ (ap not (end-some ends lines has) ∙ sym (ap not (first-more lines line)));
        ended = λ none. is ∙ sym (end-stays ends lines line has);
        kept = λ none. subst (λ (ls : List LogicalLine). keeps parts ls) (sym (until-ended ends lines (line ∷ []) has)) (h.kept e);
      }

  -- Lines that have not ended.

  pub is-open : (begun ended : Bool) (o : Option (Stop K)) (parts : P) (lines : List LogicalLine) → o ≡ None → ended ≡ false → IsKeptBy ends fault keeps begun ended o parts lines → IsOpen ends fault keeps begun parts lines
  is-open begun ended o parts lines e is h =
      let still = sym (h.ended e) ∙ is in
      record {
        still = still;
        first = ap not (h.begun e) ∙ not-not (is_first lines);
        none = no_fault begun ended o parts lines e h;
        kept = subst (λ (ls : List LogicalLine). keeps parts ls) (until-all ends lines still) (h.kept e);
      }

  -- The line ends the reading.

  pub answer-end : (begun : Bool) (parts : P) (lines : List LogicalLine) (line : LogicalLine) → IsOpen ends fault keeps begun parts lines → ends (not begun) line ≡ true → first_fault_by fault [] (lines_until ends (lines ++ line ∷ [])) ≡ None
  answer-end begun parts lines line o e =
      ap (first_fault_by fault []) (until-end ends lines line o.still (ap (λ b. ends b line) (sym o.first) ∙ e))
      ∙ (ap (first_fault_by fault []) (sym (until-all ends lines o.still)) ∙ o.none)

  pub stands-end : (begun : Bool) (parts : P) (s : Option (Stop K)) (lines : List LogicalLine) (line : LogicalLine) → IsOpen ends fault keeps begun parts lines → s ≡ None → ends (not begun) line ≡ true → IsKeptBy ends fault keeps true true s parts (lines ++ line ∷ [])
  stands-end begun parts s lines line o none e =
      let goes = ap (λ b. ends b line) (sym o.first) ∙ e in
      record {
        stop = none-stops s _ none (answer-end begun parts lines line o e);
        begun = λ n. sym (ap not (first-more lines line));
        ended = λ n. sym (end-more ends lines line o.still ∙ goes);
        kept = λ n. subst (λ (ls : List LogicalLine). keeps parts ls) (sym (until-end ends lines line o.still goes)) o.kept;
      }

  -- The line is read.

  pub answer-read : (begun : Bool) (parts : P) (lines : List LogicalLine) (line : LogicalLine) (broken : Option K) → IsOpen ends fault keeps begun parts lines → ends (not begun) line ≡ false → broken ≡ fault lines line → first_fault_by fault [] (lines_until ends (lines ++ line ∷ [])) ≡ fault_or line.number broken None
  answer-read begun parts lines line broken o e is =
      read-next ends fault lines line broken o.still (ap (λ b. ends b line) (sym o.first) ∙ e) o.none is

  pub stands-read : (begun ended : Bool) (parts new : P) (s : Option (Stop K)) (lines : List LogicalLine) (line : LogicalLine) → IsOpen ends fault keeps begun parts lines → s ≡ None → ended ≡ false → ends (not begun) line ≡ false → None ≡ fault lines line →
      keeps new (lines ++ line ∷ []) → IsKeptBy ends fault keeps true ended s new (lines ++ line ∷ [])
  stands-read begun ended parts new s lines line o none is_ended e is now =
      let goes = ap (λ b. ends b line) (sym o.first) ∙ e in
      let still = end-more ends lines line o.still ∙ goes in
      let whole = until-all ends (lines ++ line ∷ []) still in
      let answer = answer-read begun parts lines line None o e is in
      record {
        stop = none-stops s _ none answer;
        begun = λ n. sym (ap not (first-more lines line));
        ended = λ n. is_ended ∙ sym still;
        kept = λ n. subst (λ (ls : List LogicalLine). keeps new ls) (sym whole) now;
      }

  pub stands-broken : (begun ended : Bool) (parts new : P) (lines : List LogicalLine) (line : LogicalLine) (kind : K) (number : ℕ) → IsOpen ends fault keeps begun parts lines → number ≡ line.number → ends (not begun) line ≡ false → Some kind ≡ fault lines line →
      IsKeptBy ends fault keeps true ended (Some (stop.Broken number kind)) new (lines ++ line ∷ [])
  stands-broken begun ended parts new lines line kind number o same e is =
      stopped-kept true ended (Some (stop.Broken number kind)) new (stop.Broken number kind) (lines ++ line ∷ []) refl
      (answer-read begun parts lines line (Some kind) o e is ∙ ap (λ n. Some (record { number = n; kind = kind })) (sym same))

-- No line was given.
module _ {K P : Type 0} (ends : Bool → LogicalLine → Bool) (fault : List LogicalLine → LogicalLine → Option K) (keeps : P → List LogicalLine → Type 0) where
  none-first : first_fault_by fault [] (lines_until ends []) ≡ None
  unfolding first_fault_by lines_until
  none-first = refl

  none-ended : has_end ends [] ≡ false
  unfolding has_end
  none-ended = refl

  none-read : lines_until ends [] ≡ []
  unfolding lines_until
  none-read = refl

  pub stands-new : (parts : P) → keeps parts [] → IsKeptBy ends fault keeps false false None parts []
  stands-new parts now = record {
    stop = none-first;
    begun = λ n. refl;
    ended = λ n. sym none-ended;
    kept = λ n. subst (λ (ls : List LogicalLine). keeps parts ls) (sym none-read) now;
  }
