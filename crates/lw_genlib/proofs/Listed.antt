-- The cell of an entry, and where it is put.
use Rattle.std.proofs.Common.{ℕ, zero, suc, ◌+◌, ◌≡◌, ◌≤◌, Bool, true, false, not, nat_lt, ◌||◌, cond, List, [], ◌∷◌, length, map, Option, Some, None, Result, Ok, Err, refl, ap, ap₂, sym, ◌∙◌, subst, arith}
use Rattle.std.specs.Prelude.{All, Contains, MatchOption}
use Rattle.std.specs.List.{list_any, position, position_or_len}
use Rattle.std.proofs.lemmas.List.{length-map}
use Rattle.std.proofs.lemmas.Bool.{or_parts, le-ltb, ltb-false}
use Rattle.lw_fixed.specs.declared.micro.Micro.{Micro}
use Rattle.lw_laws.specs.Expressions.{Expr, expr_value}
use Rattle.lw_genlib.specs.declared.token.Token.{Token}
use Rattle.lw_genlib.specs.declared.fault.LibFault.{LibFault}
use Rattle.lw_genlib.specs.declared.fault.LibFault.TheVariants.{Line, Memory}
use Rattle.lw_genlib.specs.declared.fault.LibKind.TheVariants.{PinMissing}
use Rattle.lw_genlib.specs.Cells.{CellParts, IsForm, IsSmall, IsListed, HaveOneTruth}
use Rattle.lw_genlib.specs.Spelled.{expression_of}
use Rattle.lw_genlib.specs.Entries.{Entry, pins_of}
use Rattle.lw_genlib.specs.Kept.{IsFunction, IsEntry, IsSmallDelay}
use Rattle.lw_genlib.specs.Merging.{name_first, output_of, own_or, delay_by, delays_of, form_over, cell_of, lacks_delay, delays_or_fault, is_missing, merged, merged_at, place_of}
use Rattle.lw_genlib.specs.Libraries.{CellsSoFar, with_open, with_cells, entry_ended}
use Rattle.lw_genlib.specs.Tells.{TellsErr}
use Rattle.lw_genlib.proofs.Agreeing.{inner-is}

-- One form alone.

one-form : (n : ℕ) (form : Expr) → IsForm n form → All (IsForm n) (form ∷ [])
one-form n form h zero d below = h
one-form n form h (suc k) d below = absurd (omega arith)

one-truth : (form e f : Expr) → Contains (form ∷ []) e → Contains (form ∷ []) f → HaveOneTruth e f
one-truth form e f (zero, be, ie) (zero, bf, jf) y = ap (λ (x : Expr). expr_value y x) (sym ie ∙ jf)
one-truth form e f (suc k, be, ie) g y = absurd (omega arith)
one-truth form e f (zero, be, ie) (suc k, bf, jf) y = absurd (omega arith)

-- Small delays.

small-own : (every own : Option Micro) → IsSmallDelay every → IsSmallDelay own → IsSmall (delay_by every own)
small-own every (Some delay) h g = g
small-own (Some delay) None h g = h
small-own None None h g = omega arith

small-delays : (every : Option Micro) (named : List (Option Micro)) → IsSmallDelay every → All IsSmallDelay named → All IsSmall (map (delay_by every) named)
small-delays every [] h g k d below = absurd (omega arith)
small-delays every (own ∷ named) h g zero d below = small-own every own h (g 0 None (omega arith))
small-delays every (own ∷ named) h g (suc k) d below = small-delays every named h (λ j e lt. g (suc j) e (omega arith)) k d (omega arith)

abbrev parts : Entry → List ℕ → List (List ℕ) → Expr → CellParts
parts entry output pins form = record { name = entry.name; area = entry.area; output = output; pins = pins; delays = delays_of entry; forms = form ∷ [] }

listed-parts : (entry : Entry) (output : List ℕ) (pins : List (List ℕ)) (form : Expr) → IsEntry entry.name entry.area entry.tokens output pins form entry.named entry.every → IsListed (parts entry output pins form)
listed-parts entry output pins form h = record {
  kept = record {
    few_pins = h.function.few_pins;
    delays = length-map entry.named (delay_by entry.every) ∙ h.delays.one_each;
    some_form = omega arith;
    forms = one-form (length pins) form h.function.is_form;
    one_truth = one-truth form;
  };
  name = h.word;
  area = h.small;
  delays = small-delays entry.every entry.named h.delays.every_small h.delays.small;
  output = h.function.output_name;
  pins = h.function.pin_names;
  pins_differ = h.function.pins_differ;
}

pub listed-cell : (entry : Entry) (output : List ℕ) (pins : List (List ℕ)) (form : Expr) → IsEntry entry.name entry.area entry.tokens output pins form entry.named entry.every → IsListed (cell_of entry)
listed-cell entry output pins form h =
    let f : IsFunction entry.tokens output pins form = h.function in
    let out : output_of entry ≡ output = ap name_first f.whole in
    let named : pins_of entry ≡ pins = sym f.pins_are in
    let read : form_over (pins_of entry) entry ≡ form = ap₂ (λ (ps : List (List ℕ)) (s : List Token). expression_of ps s) named (inner-is entry.tokens output pins form f) ∙ sym f.form_is in
    subst IsListed (sym (ap (λ (o : List ℕ). parts entry o (pins_of entry) (form_over (pins_of entry) entry)) out ∙ ap₂ (λ (ps : List (List ℕ)) (e : Expr). parts entry output ps e) named read))
    (listed-parts entry output pins form h)

-- Places.

module _ {X : Type 0} where
  all-before : (p : X → Bool) (xs : List X) → list_any p xs ≡ false → length xs ≤ position_or_len p xs
  all-before p [] h = omega arith
  all-before p (x ∷ xs) h = at (p x) (or_parts (p x) (list_any p xs) h).0 (all-before p xs (or_parts (p x) (list_any p xs) h).1)
    where
      at : (b : Bool) → b ≡ false → length xs ≤ position_or_len p xs → length (x ∷ xs) ≤ cond (not b) (1 + position_or_len p xs) 0
      at true e le = cc
      at false e le = omega arith

  position-list_any : (p : X → Bool) (xs : List X) → list_any p xs ≡ false → position p xs ≡ None
  position-list_any p xs h = ap (λ b. cond b (Some (position_or_len p xs)) None) (le-ltb (position_or_len p xs) (length xs) (all-before p xs h))

  none-passes : (p : X → Bool) (xs : List X) → length xs ≤ position_or_len p xs → list_any p xs ≡ false
  none-passes p [] le = refl
  none-passes p (x ∷ xs) le = at (p x) (none-passes p xs) le
    where
      at : (b : Bool) → (length xs ≤ position_or_len p xs → list_any p xs ≡ false) → length (x ∷ xs) ≤ cond (not b) (1 + position_or_len p xs) 0 → (b || list_any p xs) ≡ false
      at true others h = absurd (omega arith)
      at false others h = others (omega arith)

  pub no-place : (p : X → Bool) (xs : List X) → position p xs ≡ None → list_any p xs ≡ false
  no-place p xs is = none-passes p xs (ltb-false (position_or_len p xs) (length xs) (at (nat_lt (position_or_len p xs) (length xs)) is))
    where
      at : (b : Bool) → cond b (Some (position_or_len p xs)) None ≡ None → b ≡ false
      at true h = cc
      at false h = refl

  -- the place of the first that passes
  pub first-place : (p : X → Bool) (xs : List X) (i : ℕ) → Some i ≡ position p xs → position_or_len p xs ≡ i
  first-place p xs i is = at (nat_lt (position_or_len p xs) (length xs)) is
    where
      at : (b : Bool) → Some i ≡ cond b (Some (position_or_len p xs)) None → position_or_len p xs ≡ i
      at true h = cc
      at false h = cc

  pub some-passes : (p : X → Bool) (xs : List X) (i : ℕ) → Some i ≡ position p xs → list_any p xs ≡ true
  some-passes p xs i is = at (list_any p xs) refl (position-list_any p xs)
    where
      at : (b : Bool) → list_any p xs ≡ b → (list_any p xs ≡ false → position p xs ≡ None) → b ≡ true
      at true e none = refl
      at false e none = let wrong : Some i ≡ None = is ∙ none e in cc

-- The tests at an entry's end.

pub missing : (cells : List CellParts) (entry : Entry) → lacks_delay entry ≡ true → merged cells entry ≡ Err (Line entry.line PinMissing)
unfolding merged
missing cells entry h = ap (λ b. cond b (Err (Line entry.line PinMissing)) (merged_at cells entry (place_of cells entry))) h

pub none-missing : (cells : List CellParts) (entry : Entry) → lacks_delay entry ≡ false → merged cells entry ≡ merged_at cells entry (place_of cells entry)
unfolding merged
none-missing cells entry h = ap (λ b. cond b (Err (Line entry.line PinMissing)) (merged_at cells entry (place_of cells entry))) h

pub lacks-by : (entry : Entry) (named : List (Option Micro)) (every : Option Micro) (b : Bool) → named ≡ entry.named → every ≡ entry.every → list_any (λ (own : Option Micro). is_missing (own_or every own)) named ≡ b → lacks_delay entry ≡ b
lacks-by entry named every b named_is every_is h =
    ap₂ (λ (e : Option Micro) (ns : List (Option Micro)). list_any (λ (own : Option Micro). is_missing (own_or e own)) ns) (sym every_is) (sym named_is) ∙ h

pub of-some : {A : Type 0} (o : Option A) (x : A) (P : Type 0) (Q : A → Type 0) → o ≡ Some x → MatchOption o P Q → Q x
of-some o x P Q is h = subst (λ p. MatchOption p P Q) is h

pub of-none : {A : Type 0} (o : Option A) (P : Type 0) (Q : A → Type 0) → o ≡ None → MatchOption o P Q → P
of-none o P Q is h = subst (λ p. MatchOption p P Q) is h

-- the delays of an entry that lacks none
pub delays-said : (entry : Entry) (delays : List Micro) → delays_or_fault entry ≡ Ok delays → (lacks_delay entry ≡ false) × (delays ≡ delays_of entry)
delays-said entry delays said = at (lacks_delay entry) refl said
  where
    at : (b : Bool) → lacks_delay entry ≡ b → cond b (Err (Line entry.line PinMissing)) (Ok (delays_of entry)) ≡ Ok delays → (lacks_delay entry ≡ false) × (delays ≡ delays_of entry)
    at true lacks h = cc
    at false has h = (has, cc)

pub delays-fault : (cells : List CellParts) (entry : Entry) (fault : LibFault) → TellsErr (delays_or_fault entry) fault → TellsErr (merged cells entry) fault
delays-fault cells entry (Line line kind) said = at (lacks_delay entry) refl said
  where
    at : (b : Bool) → lacks_delay entry ≡ b → cond b (Err (Line entry.line PinMissing)) (Ok (delays_of entry)) ≡ Err (Line line kind) → merged cells entry ≡ Err (Line line kind)
    at true lacks h = let same : Line entry.line PinMissing ≡ Line line kind = cc in missing cells entry lacks ∙ ap (λ (f : LibFault). Err f) same
    at false has h = cc
delays-fault cells entry Memory said = tt

-- The cells so far where an entry is at its end.

abbrev as_ok : CellsSoFar → Result CellsSoFar LibFault
as_ok so_far = Ok so_far

pub ended-none : (so_far : CellsSoFar) → so_far.entry ≡ None → entry_ended (with_open so_far None) ≡ Ok so_far
ended-none so_far none = ap (λ (e : Option Entry). as_ok (with_open so_far e)) (sym none)

pub cells-fault : (said : Result (List CellParts) LibFault) (fault : LibFault) → TellsErr said fault → TellsErr (with_cells said) fault
cells-fault said (Line line kind) is = ap with_cells is
cells-fault said Memory is = tt
