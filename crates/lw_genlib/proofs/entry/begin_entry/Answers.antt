use Rattle.std.proofs.Common.{◌≡◌, List, [], None, sym, ◌∙◌, subst, ap₂}
use Rattle.lw_genlib.specs.declared.token.Token.{Token}
use Rattle.lw_genlib.specs.Functions.{Says, first_fault}
use Rattle.lw_genlib.proofs.Begun.{function-kept}
use Rattle.lw_genlib.proofs.Delays.{no-delays}
use Rattle.lw_genlib.proofs.entry.begin_entry.Goals as goal

pub invariant_of-result : goal.invariant_of-result
invariant_of-result c =
    let says : Says c.in_ok-tokens.tokens.items c.in_ok-function.function.output c.in_ok-function.function.pins c.in_ok-function.function.form =
    subst (λ (s : List Token). Says s c.in_ok-function.function.output c.in_ok-function.function.pins c.in_ok-function.function.form) c.deref.ensures.value c.in_ok-function.ensures.0 in
    let none : first_fault [] c.in_ok-tokens.lines.items c.in_ok-tokens.tokens.items ≡ None =
    ap₂ (λ ls ss. first_fault [] ls ss) (sym c.deref-2.ensures.value) (sym c.deref.ensures.value) ∙ c.in_ok-function.ensures.1 in
    record {
      word = c.args.header.word;
      small = c.args.header.small;
      function = function-kept c.args.text.tokens c.in_ok-tokens.tokens.items c.args.text.lines c.in_ok-tokens.lines.items c.args.text.room c.args.line
          c.in_ok-function.function.output c.in_ok-function.function.pins c.in_ok-function.function.form
          c.with_end.ensures.kept c.in_ok-tokens.ensures.tokens c.in_ok-tokens.ensures.lines says none;
      delays = no-delays c.in_ok-named.named.items c.in_ok-function.function.pins c.len.result c.in_ok-named.ensures c.len.ensures;
    }
