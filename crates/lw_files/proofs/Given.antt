-- What a reader was given, call by call.
use Rattle.std.proofs.Common.{◌≡◌, ℕ, zero, suc, ◌+◌, ◌-◌, ◌<◌, ◌≤◌, Bool, true, false, cond, List, [], ◌∷◌, ◌++◌, length, take, drop, All, Option, Some, None, refl, sym, ap, ◌∙◌, subst, arith, length-drop}
use Rattle.std.specs.Prelude.{slice_get, slice_range, option_to_list}
use Rattle.std.proofs.Math.Seq.{take-add}
use Rattle.std.proofs.lemmas.Option.{slice_get_within, get_or_from_slice_get}
use Rattle.std.proofs.lemmas.List.{take_all, take-append-drop, append-nil}
use Rattle.lw_facts.proofs.Lists.{get_left}
use Rattle.lw_words.specs.declared.lines.Lines.{Lines}
use Rattle.lw_words.specs.Lines.{LogicalLine, logical_lines, finished_lines}
use Rattle.lw_words.specs.Standing.{StandsFor, is_marked, is_finished, lines_so_far}
use Rattle.lw_words.proofs.Behind.{logical_lines-behind}
use Rattle.lw_files.specs.Texts.{IsGiven, IsGivenAll, IsGivenSome}

-- the lines so far, by what they depend on
abbrev lines_by : Bool → Bool → List ℕ → List LogicalLine
lines_by finished marked fed = cond finished (logical_lines marked fed) (finished_lines marked fed)

same-lines : (old new : Lines) (fed : List ℕ) → is_marked new ≡ is_marked old → is_finished new ≡ is_finished old → lines_so_far new fed ≡ lines_so_far old fed
same-lines old new fed marked finished = ap (λ m. lines_by new.finished m fed) marked ∙ ap (λ f. lines_by f old.marked fed) finished

-- Places in lists

take-next : {X : Type 0} (xs : List X) (k : ℕ) (x : X) → slice_get xs k ≡ Some x → take (suc k) xs ≡ take k xs ++ x ∷ []
take-next [] k x is = cc
take-next (y ∷ xs) zero x is = let same : y ≡ x = cc in ap (λ z. z ∷ []) same
take-next (y ∷ xs) (suc k) x is = ap (λ zs. y ∷ zs) (take-next xs k x is)

none-left : {X : Type 0} (xs : List X) (k : ℕ) → slice_get xs k ≡ None → length xs ≤ k
none-left [] k is = omega arith
none-left (y ∷ xs) zero is = cc
none-left (y ∷ xs) (suc k) is = let le = none-left xs k is in omega (arith, le)

module _ {R : Type 0} (given : R → List LogicalLine → Type 0) (accepts : LogicalLine → Type 0) (marked : Bool) where
  -- what is taken
  abbrev pub TakesAt : Lines → Option LogicalLine → Type 0
  TakesAt old result = (fed : List ℕ) (taken : ℕ) → StandsFor old fed taken → result ≡ slice_get (lines_so_far old fed) taken

  abbrev pub StandsBehind : Lines → Lines → ℕ → Type 0
  StandsBehind old new count = (fed : List ℕ) (taken : ℕ) → StandsFor old fed taken → StandsFor new fed (taken + count)

  -- a line that is taken may be given
  pub line-accepted : (old : Lines) (reader : R) (line : LogicalLine) → IsGivenSome given accepts marked old reader → TakesAt old (Some line) → accepts line
  line-accepted old reader line (all, fed, g) takes =
      let at = takes fed g.taken g.stands in
      let here : slice_get all g.taken ≡ Some line = ap (λ (ls : List LogicalLine). slice_get ls g.taken) g.whole ∙ get_left (lines_so_far old fed) g.rest g.taken line (sym at) in
      subst accepts (get_or_from_slice_get all g.taken line line here) (g.accepted g.taken line (slice_get_within all g.taken line here))

  -- a line is taken and given
  pub line-given : (old new : Lines) (reader next : R) (line : LogicalLine) (all : List LogicalLine) (fed : List ℕ) → IsGiven given accepts marked old reader all fed → is_marked new ≡ is_marked old → is_finished new ≡ is_finished old → TakesAt old (Some line) → StandsBehind old new 1 → ((lines : List LogicalLine) → given reader lines → given next (lines ++ line ∷ [])) → IsGiven given accepts marked new next all fed
  line-given old new reader next line all fed g same finished takes stands gives =
      let at : slice_get (lines_so_far old fed) g.taken ≡ Some line = sym (takes fed g.taken g.stands) in
      let here : slice_get all g.taken ≡ Some line = ap (λ (ls : List LogicalLine). slice_get ls g.taken) g.whole ∙ get_left (lines_so_far old fed) g.rest g.taken line at in
      let next_place : g.taken + 1 ≡ suc g.taken = omega arith in
      let more : take (g.taken + 1) all ≡ take g.taken all ++ line ∷ [] = ap (λ k. take k all) next_place ∙ take-next all g.taken line here in
      record {
        taken = g.taken + 1;
        reading = same ∙ g.reading;
        stands = stands fed g.taken g.stands;
        given = subst (given next) (sym more) (gives (take g.taken all) g.given);
        rest = g.rest;
        whole = g.whole ∙ ap (λ (ls : List LogicalLine). ls ++ g.rest) (sym (same-lines old new fed same finished));
        accepted = g.accepted;
      }

  -- fewer are left
  pub fewer-left : (old new : Lines) (reader : R) (line : LogicalLine) → IsGivenSome given accepts marked old reader → is_marked new ≡ is_marked old → is_finished new ≡ is_finished old → TakesAt old (Some line) → StandsBehind old new 1 → length new.ready.items < length old.ready.items
  fewer-left old new reader line (all, fed, g) same finished takes stands =
      let at : slice_get (lines_so_far old fed) g.taken ≡ Some line = sym (takes fed g.taken g.stands) in
      let within = slice_get_within (lines_so_far old fed) g.taken line at in
      let before : length old.ready.items ≡ length (drop g.taken (lines_so_far old fed)) = ap (λ (ls : List LogicalLine). length ls) g.stands.left in
      let after : length new.ready.items ≡ length (drop (g.taken + 1) (lines_so_far old fed)) = ap (λ (ls : List LogicalLine). length ls) ((stands fed g.taken g.stands).left ∙ ap (drop (g.taken + 1)) (same-lines old new fed same finished)) in
      let b = length-drop g.taken (lines_so_far old fed) in
      let a = length-drop (g.taken + 1) (lines_so_far old fed) in
      omega (arith, within, before, after, a, b)

  -- no line is left
  pub no-line : (old new : Lines) (reader : R) (all : List LogicalLine) (fed : List ℕ) → IsGiven given accepts marked old reader all fed → is_marked new ≡ is_marked old → is_finished new ≡ is_finished old → TakesAt old None → StandsBehind old new 0 → IsGivenAll given accepts marked new reader all fed
  no-line old new reader all fed g same_marks finished takes stands =
      let same = same-lines old new fed same_marks finished in
      record {
        is_given = record {
          taken = g.taken;
          reading = same_marks ∙ g.reading;
          stands = subst (λ (k : ℕ). StandsFor new fed k) (omega arith) (stands fed g.taken g.stands);
          given = g.given;
          rest = g.rest;
          whole = g.whole ∙ ap (λ (ls : List LogicalLine). ls ++ g.rest) (sym same);
          accepted = g.accepted;
        };
        no_more = subst (λ (ls : List LogicalLine). length ls ≤ g.taken) (sym same) (none-left (lines_so_far old fed) g.taken (sym (takes fed g.taken g.stands)));
      }

  pub none-left-over : (old new : Lines) (reader : R) (all : List LogicalLine) (fed : List ℕ) (result : Option LogicalLine) → ((line : LogicalLine) → result ≡ Some line → ⊥) → IsGiven given accepts marked old reader all fed → is_marked new ≡ is_marked old → is_finished new ≡ is_finished old → TakesAt old result → StandsBehind old new (length (option_to_list result)) → IsGivenAll given accepts marked new reader all fed
  none-left-over old new reader all fed None none g same finished takes stands = no-line old new reader all fed g same finished takes stands
  none-left-over old new reader all fed (Some line) none g same finished takes stands = absurd (none line refl)

  -- Texts

  begun-with : (bytes : List ℕ) (at : ℕ) → (rest : List LogicalLine) × (logical_lines marked bytes ≡ finished_lines marked (take at bytes) ++ rest)
  begun-with bytes at =
      let b = logical_lines-behind marked (take at bytes) (drop at bytes) in
      (b.0, ap (logical_lines marked) (sym (take-append-drop at bytes)) ∙ b.1)

  open-lines : (lines : Lines) (fed : List ℕ) → is_marked lines ≡ marked → is_finished lines ≡ false → lines_so_far lines fed ≡ finished_lines marked fed
  open-lines lines fed reading finished = ap (λ m. lines_by lines.finished m fed) reading ∙ ap (λ f. lines_by f marked fed) finished

  -- nothing was fed
  pub nothing-fed : (lines : Lines) (reader : R) (bytes : List ℕ) → is_marked lines ≡ marked → is_finished lines ≡ false → StandsFor lines [] 0 → given reader [] → All accepts (logical_lines marked bytes) → IsGiven given accepts marked lines reader (logical_lines marked bytes) (take 0 bytes)
  nothing-fed lines reader bytes reading finished stands unread accepted =
      let b = begun-with bytes 0 in
      record {
        taken = 0;
        reading = reading;
        stands = stands;
        given = unread;
        rest = b.0;
        whole = b.1 ∙ ap (λ (ls : List LogicalLine). ls ++ b.0) (sym (open-lines lines [] reading finished));
        accepted = accepted;
      }

  -- more was fed
  pub more-fed : (old new : Lines) (reader : R) (bytes : List ℕ) (at end : ℕ) → IsGiven given accepts marked old reader (logical_lines marked bytes) (take at bytes) → at ≤ end → end ≤ length bytes → is_marked new ≡ is_marked old → is_finished new ≡ false → ((fed : List ℕ) (taken : ℕ) → StandsFor old fed taken → StandsFor new (fed ++ slice_range bytes at end) taken) → IsGiven given accepts marked new reader (logical_lines marked bytes) (take end bytes)
  more-fed old new reader bytes at end g le within same finished stands =
      let b = begun-with bytes end in
      let ends : at + (end - at) ≡ end = omega arith in
      let joined : take at bytes ++ slice_range bytes at end ≡ take end bytes = sym (take-add at (end - at) bytes) ∙ ap (λ k. take k bytes) ends in
      record {
        taken = g.taken;
        reading = same ∙ g.reading;
        stands = subst (λ (fed : List ℕ). StandsFor new fed g.taken) joined (stands (take at bytes) g.taken g.stands);
        given = g.given;
        rest = b.0;
        whole = b.1 ∙ ap (λ (ls : List LogicalLine). ls ++ b.0) (sym (open-lines new (take end bytes) (same ∙ g.reading) finished));
        accepted = g.accepted;
      }

  -- all was fed
  pub all-fed : (old new : Lines) (reader : R) (bytes : List ℕ) (at : ℕ) → IsGiven given accepts marked old reader (logical_lines marked bytes) (take at bytes) → length bytes ≤ at → is_marked new ≡ is_marked old → is_finished new ≡ true → ((fed : List ℕ) (taken : ℕ) → StandsFor old fed taken → StandsFor new fed taken) → IsGiven given accepts marked new reader (logical_lines marked bytes) bytes
  all-fed old new reader bytes at g le same finished stands =
      let reading = same ∙ g.reading in
      record {
        taken = g.taken;
        reading = reading;
        stands = stands bytes g.taken (subst (λ (fed : List ℕ). StandsFor old fed g.taken) (take_all at bytes le) g.stands);
        given = g.given;
        rest = [];
        whole = sym (append-nil (lines_so_far new bytes) ∙ (ap (λ m. lines_by new.finished m bytes) reading ∙ ap (λ f. lines_by f marked bytes) finished));
        accepted = g.accepted;
      }

  -- all lines were given
  pub all-given : (lines : Lines) (reader : R) (bytes : List ℕ) → IsGivenAll given accepts marked lines reader (logical_lines marked bytes) bytes → is_finished lines ≡ true → given reader (logical_lines marked bytes)
  all-given lines reader bytes g finished =
      let same : lines_so_far lines bytes ≡ logical_lines marked bytes = ap (λ m. lines_by lines.finished m bytes) g.is_given.reading ∙ ap (λ f. lines_by f marked bytes) finished in
      subst (given reader) (take_all g.is_given.taken (logical_lines marked bytes) (subst (λ (ls : List LogicalLine). length ls ≤ g.is_given.taken) same g.no_more)) g.is_given.given
