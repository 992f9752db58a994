-- An entry that agrees with a cell.
use Rattle.std.proofs.Common.{ℕ, ◌+◌, ◌≡◌, ◌<◌, ◌≤◌, Bool, true, false, ◌&&◌, ◌||◌, List, [], ◌∷◌, length, get_or, Option, refl, ap, ap₂, sym, ◌∙◌, subst, arith, inl, inr}
use Rattle.std.specs.Prelude.{◌⊎◌, ◌==◌}
use Rattle.std.specs.List.{list_all, zip, IsDistinct}
use Rattle.std.specs.Str.{bytes_eq}
use Rattle.std.proofs.lemmas.Bool.{false≢true, and_parts}
use Rattle.std.proofs.lemmas.List.{length-map}
use Rattle.lw_facts.proofs.Lists.{bytes_eq_is}
use Rattle.lw_fixed.specs.declared.micro.Micro.{Micro}
use Rattle.lw_laws.specs.Expressions.{Expr}
use Rattle.lw_genlib.specs.declared.token.Token.{Token}
use Rattle.lw_genlib.specs.Cells.{CellParts, IsCell, IsForm, HaveOneTruth}
use Rattle.lw_genlib.specs.Postfix.{postfix, tree_of, literals, IsWide, first_expr}
use Rattle.lw_genlib.specs.Codes.{tree_of-postfix}
use Rattle.lw_genlib.specs.Grammar.{SpellsSum}
use Rattle.lw_genlib.specs.Functions.{pins_in}
use Rattle.lw_genlib.specs.Spelled.{expression_of, inner_of}
use Rattle.lw_genlib.specs.Entries.{Entry, pins_of}
use Rattle.lw_genlib.specs.Kept.{IsFunction, AreDelays}
use Rattle.lw_genlib.specs.Merging.{is_same_pin, is_pin_among, have_same_pins, is_alike, agrees, have_same_table, output_of, delays_of, delay_by, form_over}
use Rattle.lw_genlib.proofs.Faultless.{inner_at}
use Rattle.lw_genlib.proofs.Grammars.{spelled_postfix}
use Rattle.lw_genlib.proofs.Spelled.{spelled_is_read}
use Rattle.lw_genlib.proofs.Pins.{Named, In, pins_from, pins-have, pins-are, over_pins}
use Rattle.lw_genlib.proofs.Tables.{table-of_truth, table-test}
use Rattle.lw_genlib.proofs.Begun.{pins-end}

-- a pin among pins with their delays is a pin among them
pin-in : (qs : List (List ℕ)) (es : List Micro) (p : List ℕ) (d : Micro) → is_pin_among (zip qs es) (p, d) ≡ true → In qs p
pin-in [] es p d h = absurd (false≢true h)
pin-in (q ∷ qs) [] p d h = absurd (false≢true h)
pin-in (q ∷ qs) (e ∷ es) p d h = at (is_same_pin (p, d) (q, e)) refl h (λ g. pin-in qs es p d g)
  where
    at : (b : Bool) → is_same_pin (p, d) (q, e) ≡ b → (b || is_pin_among (zip qs es) (p, d)) ≡ true → (is_pin_among (zip qs es) (p, d) ≡ true → In qs p) → In (q ∷ qs) p
    at true is g others = inl (sym (bytes_eq_is p q (and_parts (bytes_eq p q) _ is).0))
    at false is g others = inr (others g)

pins-in : (ps qs : List (List ℕ)) (ds es : List Micro) (n : List ℕ) → length ds ≡ length ps → list_all (is_pin_among (zip qs es)) (zip ps ds) ≡ true → In ps n → In qs n
pins-in [] qs ds es n size h g = absurd g
pins-in (p ∷ ps) qs [] es n size h g = absurd (omega arith)
pins-in (p ∷ ps) qs (d ∷ ds) es n size h (inl e) = subst (In qs) e (pin-in qs es p d (and_parts (is_pin_among (zip qs es) (p, d)) _ h).0)
pins-in (p ∷ ps) qs (d ∷ ds) es n size h (inr g) = pins-in ps qs ds es n (omega arith) (and_parts (is_pin_among (zip qs es) (p, d)) _ h).1 g

module _ (tokens : List Token) (output : List ℕ) (pins : List (List ℕ)) (form : Expr) (f : IsFunction tokens output pins form) where
  pub inner-is : inner_of tokens ≡ f.inner
  inner-is = (inner_at tokens f.inner output f.whole).1

  pins-from : pins ≡ pins_from [] f.inner
  pins-from = f.pins_are ∙ (ap pins_in f.whole ∙ pins-end [] f.inner)

  known : (n : List ℕ) → Named f.inner n → In pins n
  known n h = subst (λ (ps : List (List ℕ)). In ps n) (sym pins-from) (pins-have [] f.inner n h)

  stand : (n : List ℕ) → In pins n → Named f.inner n
  stand n h = at (pins-are [] f.inner n (subst (λ (ps : List (List ℕ)). In ps n) pins-from h))
    where
      at : In [] n ⊎ Named f.inner n → Named f.inner n
      at (inl g) = absurd g
      at (inr g) = g

  -- the form over the pins of a cell with the same pins
  pub other-form : (cell : CellParts) (delays : List Micro) (other : Expr) → IsCell cell → IsDistinct bytes_eq cell.pins → length delays ≡ length pins → have_same_pins (zip pins delays) (zip cell.pins cell.delays) ≡ true
      → SpellsSum cell.pins f.inner other → IsForm (length cell.pins) other
  other-form cell delays other kept differ one_each same spelled =
      let whole = spelled_postfix cell.pins f.inner other spelled f.names in
      let back : tree_of (postfix other) ≡ other = tree_of-postfix other in
      let to_cell = (and_parts (list_all (is_pin_among (zip cell.pins cell.delays)) (zip pins delays)) _ same).0 in
      let from_cell = (and_parts (list_all (is_pin_among (zip cell.pins cell.delays)) (zip pins delays)) _ same).1 in
      record {
        few = subst (λ (t : Expr). literals t ≤ 64) back whole.few;
        wide = subst IsWide back whole.wide;
        over = over_pins cell.pins f.inner other spelled differ
            (λ n h. pins-in pins cell.pins delays cell.delays n one_each to_cell (known n h))
            (λ n h. stand n (pins-in cell.pins pins cell.delays delays n kept.delays from_cell h));
      }

  pub other-spelled : (cell : CellParts) (between : List Token) (other : Expr) → between ≡ inner_of tokens → SpellsSum cell.pins between other → SpellsSum cell.pins f.inner other
  other-spelled cell between other is spelled = subst (λ (s : List Token). SpellsSum cell.pins s other) (is ∙ inner-is) spelled

  pub other-read : (cell : CellParts) (other : Expr) → SpellsSum cell.pins f.inner other → expression_of cell.pins (inner_of tokens) ≡ other
  other-read cell other spelled = ap (expression_of cell.pins) inner-is ∙ spelled_is_read cell.pins f.inner other spelled

-- the test of agreement, by its two parts
pub agrees-by : (cell : CellParts) (entry : Entry) (a b : Bool) → is_alike cell (output_of entry) entry.area (zip (pins_of entry) (delays_of entry)) ≡ a → have_same_table (length cell.pins) (first_expr cell.forms) (form_over cell.pins entry) ≡ b → agrees cell entry ≡ (a && b)
unfolding agrees
agrees-by cell entry a b ea eb = ap₂ (λ x y. x && y) ea eb

pub alike-pins : (cell : CellParts) (output : List ℕ) (entry : Entry) (pins : List (List ℕ × Micro)) → is_alike cell output entry.area pins ≡ true → have_same_pins pins (zip cell.pins cell.delays) ≡ true
alike-pins cell output entry pins h = at (bytes_eq cell.output output) (cell.area.0 == entry.area.0) (have_same_pins pins (zip cell.pins cell.delays)) h
  where
    at : (x y z : Bool) → (x && y && z) ≡ true → z ≡ true
    at true true z e = e
    at true false z e = absurd (false≢true e)
    at false y z e = absurd (false≢true e)

pub first-form : (forms : List Expr) (e : Expr) → 0 < length forms → e ≡ get_or forms 0 e → e ≡ first_expr forms
first-form [] e some is = absurd (omega arith)
first-form (x ∷ forms) e some is = is

pub table-true : (cell : CellParts) (entry : Entry) (first other : Expr) → first ≡ first_expr cell.forms → form_over cell.pins entry ≡ other → HaveOneTruth first other → have_same_table (length cell.pins) (first_expr cell.forms) (form_over cell.pins entry) ≡ true
table-true cell entry first other is read h = ap₂ (λ e f. have_same_table (length cell.pins) e f) (sym is) read ∙ table-of_truth (length cell.pins) first other h

pub table-false : (cell : CellParts) (entry : Entry) (first other : Expr) → first ≡ first_expr cell.forms → form_over cell.pins entry ≡ other → IsForm (length cell.pins) first → IsForm (length cell.pins) other → (HaveOneTruth first other → ⊥) → have_same_table (length cell.pins) (first_expr cell.forms) (form_over cell.pins entry) ≡ false
table-false cell entry first other is read f g h =
    ap₂ (λ e x. have_same_table (length cell.pins) e x) (sym is) read
    ∙ table-test (length cell.pins) first other (λ k m. (f.over k).0 m) (λ k m. (g.over k).0 m) h

-- what is known of an entry whose pins are those of a cell, once its expression over them is read
pub record Mergeable (cell : CellParts) (entry : Entry) (other : Expr) : Type 0 where
  pub is_form : IsForm (length cell.pins) other
  pub read : form_over cell.pins entry ≡ other
  pub alike : is_alike cell (output_of entry) entry.area (zip (pins_of entry) (delays_of entry)) ≡ true

pub mergeable : (cell : CellParts) (entry : Entry) (tokens : List Token) (output : List ℕ) (pins : List (List ℕ)) (form : Expr) (named : List (Option Micro)) (every : Option Micro) (slice : List Micro) (between text : List Token) (cell_pins : List (List ℕ)) (other : Expr)
    → IsFunction tokens output pins form → AreDelays named every pins → tokens ≡ entry.tokens → named ≡ entry.named → slice ≡ delays_of entry → IsCell cell → IsDistinct bytes_eq cell.pins
    → true ≡ is_alike cell (output_of entry) entry.area (zip (pins_of entry) slice) → between ≡ inner_of text → text ≡ tokens → cell_pins ≡ cell.pins → SpellsSum cell_pins between other → Mergeable cell entry other
mergeable cell entry tokens output pins form named every slice between text cell_pins other f ds tokens_is named_is slice_is kept differ alike between_is text_is pins_is spelled =
    let entry_pins : pins_of entry ≡ pins = ap pins_in (sym tokens_is) ∙ sym f.pins_are in
    let now : is_alike cell (output_of entry) entry.area (zip (pins_of entry) (delays_of entry)) ≡ true =
    sym (alike ∙ ap (λ (d : List Micro). is_alike cell (output_of entry) entry.area (zip (pins_of entry) d)) slice_is) in
    let same : have_same_pins (zip pins (delays_of entry)) (zip cell.pins cell.delays) ≡ true =
    subst (λ (ps : List (List ℕ)). have_same_pins (zip ps (delays_of entry)) (zip cell.pins cell.delays) ≡ true) entry_pins (alike-pins cell (output_of entry) entry (zip (pins_of entry) (delays_of entry)) now) in
    let one_each : length (delays_of entry) ≡ length pins = length-map entry.named (delay_by entry.every) ∙ (ap length (sym named_is) ∙ ds.one_each) in
    let spelled_here : SpellsSum cell.pins f.inner other =
    other-spelled tokens output pins form f cell between other (between_is ∙ ap inner_of text_is) (subst (λ (ps : List (List ℕ)). SpellsSum ps between other) pins_is spelled) in
    record {
      is_form = other-form tokens output pins form f cell (delays_of entry) other kept differ one_each same spelled_here;
      read = ap (λ (s : List Token). expression_of cell.pins (inner_of s)) (sym tokens_is) ∙ other-read tokens output pins form f cell other spelled_here;
      alike = now;
    }
