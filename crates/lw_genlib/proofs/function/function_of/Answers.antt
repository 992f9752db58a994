use Rattle.std.proofs.Common.{ℕ, ◌≡◌, ◌≤◌, ◌+◌, ◌^◌, [], ◌∷◌, ◌++◌, List, true, length, refl, sym, ap, ◌∙◌, subst, arith}
use Rattle.lw_genlib.specs.declared.token.Token.{Token}
use Rattle.lw_genlib.specs.declared.token.Token.TheVariants.{Name, Punct}
use Rattle.lw_genlib.specs.Grammar.{begins_with, is_name, go_on, names_in, SpellsSum}
use Rattle.lw_genlib.specs.Functions.{Says}
use Rattle.lw_genlib.proofs.Faultless.{faultless, inner_at, same_output}
use Rattle.lw_genlib.proofs.function.function_of.Goals as goal

pub first_name-requires : goal.first_name-requires
first_name-requires c =
    let f = faultless c.args.tokens.now c.args.lines.now c.requires.text c.requires.lined.paired c.in_ok-pins.ensures.1 in
    subst (λ (s : List Token). begins_with is_name s ≡ true) (sym f.whole) refl

pub expression-requires-clause-fits : goal.expression-requires-clause-fits
expression-requires-clause-fits c =
    let f = faultless c.args.tokens.now c.args.lines.now c.requires.text c.requires.lined.paired c.in_ok-pins.ensures.1 in
    subst (λ (s : List Token). go_on true 0 s ≡ true) (sym (c.between.ensures ∙ (inner_at c.args.tokens.now f.inner f.output f.whole).1)) f.goes_on

pub expression-requires-clause-few : goal.expression-requires-clause-few
expression-requires-clause-few c =
    let f = faultless c.args.tokens.now c.args.lines.now c.requires.text c.requires.lined.paired c.in_ok-pins.ensures.1 in
    subst (λ (s : List Token). names_in s ≤ 64) (sym (c.between.ensures ∙ (inner_at c.args.tokens.now f.inner f.output f.whole).1)) f.names

pub expression-requires-clause-short : goal.expression-requires-clause-short
expression-requires-clause-short c =
    let f = faultless c.args.tokens.now c.args.lines.now c.requires.text c.requires.lined.paired c.in_ok-pins.ensures.1 in
    let long : length c.args.tokens.now ≡ length f.inner + 3 = (inner_at c.args.tokens.now f.inner f.output f.whole).0 in
    subst (λ (s : List Token). length s ≤ 2 ^ 32) (sym (c.between.ensures ∙ (inner_at c.args.tokens.now f.inner f.output f.whole).1)) (omega arith)

pub expression-requires-clause-pins : goal.expression-requires-clause-pins
expression-requires-clause-pins c =
    let f = faultless c.args.tokens.now c.args.lines.now c.requires.text c.requires.lined.paired c.in_ok-pins.ensures.1 in
    subst (λ (pins : List (List ℕ)). length pins ≤ 16) (sym (c.as_slice.ensures ∙ c.in_ok-pins.ensures.0)) f.pins

pub returns : goal.returns
returns c =
    let f = faultless c.args.tokens.now c.args.lines.now c.requires.text c.requires.lined.paired c.in_ok-pins.ensures.1 in
    let name : c.in-Ok.output ≡ c.first_name.result.0.now = c.in-Ok.ensures ∙ c.as_bytes.ensures.bytes in
    let output : f.output ≡ c.in-Ok.output = same_output c.args.tokens.now f.inner c.first_name.result.1.now f.output c.first_name.result.0.now f.whole c.first_name.ensures ∙ sym name in
    let says : Says c.args.tokens.now c.in-Ok.output c.in_ok-pins.pins c.in-Ok-expression.form = record {
      inner = f.inner;
      whole = f.whole ∙ ap (λ n. Name n ∷ Punct 61 ∷ (f.inner ++ Punct 59 ∷ [])) output;
      named = c.in_ok-pins.ensures.0;
      few = subst (λ (pins : List (List ℕ)). length pins ≤ 16) (sym c.in_ok-pins.ensures.0) f.pins;
      spelled = subst (λ (pins : List (List ℕ)). SpellsSum pins f.inner c.in-Ok-expression.form) c.as_slice.ensures
          (subst (λ (s : List Token). SpellsSum c.as_slice.result.now s c.in-Ok-expression.form) (c.between.ensures ∙ (inner_at c.args.tokens.now f.inner f.output f.whole).1) c.in-Ok-expression.ensures);
    } in
    (says, c.in_ok-pins.ensures.1)
