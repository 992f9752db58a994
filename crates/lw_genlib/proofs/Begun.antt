-- What is kept of the function of an entry, once its tokens break no rule.
use Rattle.std.proofs.Common.{ℕ, zero, suc, ◌+◌, ◌≡◌, ◌<◌, ◌≤◌, true, false, not, List, [], ◌∷◌, ◌++◌, length, get_or, None, refl, ap, sym, ◌∙◌, subst, arith, inl, inr, length-append}
use Rattle.std.specs.Prelude.{◌⊎◌, IsTrue}
use Rattle.std.specs.List.{list_all, IsDistinct}
use Rattle.std.specs.Str.{bytes_eq}
use Rattle.lw_laws.specs.Expressions.{Expr}
use Rattle.lw_genlib.specs.declared.token.Token.{Token}
use Rattle.lw_genlib.specs.declared.token.Token.TheVariants.{Name, Punct}
use Rattle.lw_genlib.specs.Cells.{IsWord, IsPinName, IsForm, ends_in_stroke, is_punct_byte}
use Rattle.lw_genlib.specs.Postfix.{postfix, tree_of, literals, IsWide}
use Rattle.lw_genlib.specs.Codes.{tree_of-postfix}
use Rattle.lw_genlib.specs.Grammar.{names_in, go_on, SpellsSum}
use Rattle.lw_genlib.specs.Functions.{IsText, Says, first_fault, with_pin, pins_in}
use Rattle.lw_genlib.specs.Kept.{AreRuns, IsOpenText, IsFunction}
use Rattle.lw_genlib.proofs.Faultless.{first_none, faultless, inner_at, IsFaultless}
use Rattle.lw_genlib.proofs.Grammars.{spelled_postfix}
use Rattle.lw_genlib.proofs.Spelled.{spelled_is_read}
use Rattle.lw_genlib.proofs.Pins.{Named, In, pins_from, pins-have, pins-are, pins-distinct, over_pins}

-- no name ends in `\`
abbrev NoStrokes : List Token → Type 0
NoStrokes [] = Unit {0}
NoStrokes (Name name ∷ tokens) = (ends_in_stroke name ≡ false) × NoStrokes tokens
NoStrokes (Punct b ∷ tokens) = NoStrokes tokens

no_strokes : (before : List Token) (lines : List ℕ) (tokens : List Token) → length lines ≡ length tokens → first_fault before lines tokens ≡ None → NoStrokes tokens
no_strokes before lines [] size none = tt
no_strokes before [] (token ∷ tokens) size none = absurd (omega arith)
no_strokes before (line ∷ lines) (Name name ∷ tokens) size none =
    let parts = first_none before line lines (Name name) tokens none in
    (parts.0.bad, no_strokes (before ++ Name name ∷ []) lines tokens (omega arith) parts.1)
no_strokes before (line ∷ lines) (Punct b ∷ tokens) size none =
    let parts = first_none before line lines (Punct b) tokens none in
    no_strokes (before ++ Punct b ∷ []) lines tokens (omega arith) parts.1

runs-end : (tokens : List Token) → AreRuns tokens → AreRuns (tokens ++ Punct 59 ∷ [])
runs-end [] h = tt
runs-end (Name m ∷ tokens) h = (h.0, h.1, runs-end tokens h.2)
runs-end (Punct b ∷ tokens) h = runs-end tokens h

pin_name : (name : List ℕ) → IsWord 2048 name → IsTrue (list_all (λ b. not (is_punct_byte b)) name) → ends_in_stroke name ≡ false → IsPinName name
pin_name name word puncts stroke = record { word = word; no_mark = puncts; no_stroke = ap not stroke }

-- a name that stands among the tokens is a name of a pin
named-fine : (tokens : List Token) (n : List ℕ) → AreRuns tokens → NoStrokes tokens → Named tokens n → IsPinName n
named-fine [] n runs strokes h = absurd h
named-fine (Punct b ∷ tokens) n runs strokes h = named-fine tokens n runs strokes h
named-fine (Name m ∷ tokens) n runs strokes (inl (e, plain)) = subst IsPinName e (pin_name m runs.0 runs.1 strokes.0)
named-fine (Name m ∷ tokens) n runs strokes (inr h) = named-fine tokens n runs.2 strokes.1 h

-- what stands before an end
runs-front : (tokens behind : List Token) → AreRuns (tokens ++ behind) → AreRuns tokens
runs-front [] behind h = tt
runs-front (Name m ∷ tokens) behind h = (h.0, h.1, runs-front tokens behind h.2)
runs-front (Punct b ∷ tokens) behind h = runs-front tokens behind h

strokes-front : (tokens behind : List Token) → NoStrokes (tokens ++ behind) → NoStrokes tokens
strokes-front [] behind h = tt
strokes-front (Name m ∷ tokens) behind h = (h.0, strokes-front tokens behind h.1)
strokes-front (Punct b ∷ tokens) behind h = strokes-front tokens behind h

pub pins-end : (pins : List (List ℕ)) (tokens : List Token) → pins_from pins (tokens ++ Punct 59 ∷ []) ≡ pins_from pins tokens
pins-end pins [] = refl
pins-end pins (token ∷ tokens) = pins-end (with_pin pins token) tokens

none-distinct : IsDistinct bytes_eq []
unfolding IsDistinct
none-distinct = tt

at-place : (pins : List (List ℕ)) (k : ℕ) (d : List ℕ) → k < length pins → In pins (get_or pins k d)
at-place [] k d below = absurd (omega arith)
at-place (x ∷ xs) zero d below = inl refl
at-place (x ∷ xs) (suc k) d below = inr (at-place xs k d (omega arith))

-- what follows of the tokens, once they are whole
module _ (output : List ℕ) (inner : List Token) (pins : List (List ℕ)) (form : Expr) (pins_is : pins ≡ pins_from [] inner) where
  known : (n : List ℕ) → Named inner n → In pins n
  known n h = subst (λ (ps : List (List ℕ)). In ps n) (sym pins_is) (pins-have [] inner n h)

  stand : (n : List ℕ) → In pins n → Named inner n
  stand n h = at (pins-are [] inner n (subst (λ (ps : List (List ℕ)). In ps n) pins_is h))
    where
      at : In [] n ⊎ Named inner n → Named inner n
      at (inl g) = absurd g
      at (inr g) = g

  distinct : IsDistinct bytes_eq pins
  distinct = subst (IsDistinct bytes_eq) (sym pins_is) (pins-distinct [] inner none-distinct)

  form_is_one : SpellsSum pins inner form → names_in inner ≤ 64 → IsForm (length pins) form
  form_is_one spelled few =
      let whole = spelled_postfix pins inner form spelled few in
      let back : tree_of (postfix form) ≡ form = tree_of-postfix form in
      record {
        few = subst (λ (t : Expr). literals t ≤ 64) back whole.few;
        wide = subst IsWide back whole.wide;
        over = over_pins pins inner form spelled distinct known stand;
      }

pub function-kept : (tokens0 tokens : List Token) (lines0 lines : List ℕ) (room line : ℕ) (output : List ℕ) (pins : List (List ℕ)) (form : Expr) → IsOpenText tokens0 lines0 room
    → tokens ≡ tokens0 ++ Punct 59 ∷ [] → lines ≡ lines0 ++ line ∷ [] → Says tokens output pins form → first_fault [] lines tokens ≡ None → IsFunction tokens output pins form
function-kept tokens0 tokens lines0 lines room line output pins form kept tokens_are lines_are says none =
    let text : IsText tokens = record { before = tokens0; whole = tokens_are; no_end = kept.no_end } in
    let long : length tokens ≡ length tokens0 + 1 = ap length tokens_are ∙ length-append tokens0 (Punct 59 ∷ []) in
    let long_lines : length lines ≡ length lines0 + 1 = ap length lines_are ∙ length-append lines0 (line ∷ []) in
    let same : length lines0 ≡ length tokens0 = kept.paired in
    let few : length tokens0 + room ≤ 2049 = kept.few in
    let paired : length lines ≡ length tokens = omega arith in
    let f : IsFaultless tokens = faultless tokens lines text paired none in
    let here = inner_at tokens says.inner output says.whole in
    let inner_same : f.inner ≡ says.inner = sym (inner_at tokens f.inner f.output f.whole).1 ∙ here.1 in
    let size : length tokens ≡ length says.inner + 3 = here.0 in
    let runs : AreRuns (Name output ∷ Punct 61 ∷ (says.inner ++ Punct 59 ∷ [])) = subst AreRuns (sym tokens_are ∙ says.whole) (runs-end tokens0 kept.runs) in
    let strokes : NoStrokes (Name output ∷ Punct 61 ∷ (says.inner ++ Punct 59 ∷ [])) = subst NoStrokes says.whole (no_strokes [] lines tokens paired none) in
    let pins_is : pins ≡ pins_from [] says.inner = says.named ∙ (ap pins_in says.whole ∙ pins-end [] says.inner) in
    let names : names_in says.inner ≤ 64 = subst (λ (s : List Token). names_in s ≤ 64) inner_same f.names in
    record {
      inner = says.inner;
      whole = says.whole;
      goes_on = subst (λ (s : List Token). go_on true 0 s ≡ true) inner_same f.goes_on;
      names = names;
      short = omega arith;
      few_pins = says.few;
      pins_are = says.named;
      form_is = sym (spelled_is_read pins says.inner form says.spelled);
      is_form = form_is_one output says.inner pins form pins_is says.spelled names;
      output_name = pin_name output runs.0 runs.1 strokes.0;
      pin_names = λ k d below. named-fine says.inner (get_or pins k d) (runs-front says.inner (Punct 59 ∷ []) runs.2) (strokes-front says.inner (Punct 59 ∷ []) strokes.1) (stand output says.inner pins form pins_is (get_or pins k d) (at-place pins k d below));
      pins_differ = distinct output says.inner pins form pins_is;
    }
