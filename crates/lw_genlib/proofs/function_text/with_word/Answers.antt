use Rattle.std.proofs.Common.{◌≡◌, ◌+◌, ◌-◌, ◌≤◌, length, ap, ap₂, ◌∙◌, arith}
use Rattle.lw_genlib.specs.Entries.{FunctionText}
use Rattle.lw_genlib.specs.Functions.{tokens_in}
use Rattle.lw_genlib.proofs.Texts.{word-kept-at, lines-wanting}
use Rattle.lw_genlib.proofs.function_text.with_word.Goals as goal

pub invariant_of-result : goal.invariant_of-result
invariant_of-result c =
    let room : c.text.inside.room ≡ c.args.text.room = ap (λ (t : FunctionText). t.room) c.text.view_is in
    let counted : c.len.result - c.len-2.result ≡ length (tokens_in c.args.given.now.word.now) = lines-wanting c.text.inside.tokens.items c.push_tokens.new.tokens.items c.text.inside.lines.items c.args.given.now.word.now c.text.inside.room (c.len.result - c.len-2.result) c.text.invariant c.in_ok-push_tokens.ensures (ap₂ (λ a b. a - b) (c.len.ensures ∙ c.push_tokens.new.tokens.ok.0) (c.len-2.ensures ∙ c.text.inside.lines.ok.0)) in
    word-kept-at c.text.inside.tokens.items c.push_tokens.new.tokens.items c.text.inside.lines.items c.push_often.new.lines.items c.text.inside.room c.args.given.now.line (c.len.result - c.len-2.result) c.args.given.now.word.now
    c.text.invariant c.requires.part c.requires.no_end (let fits : 1 + length c.args.given.now.word.now ≤ c.args.text.room = c.requires.room in omega arith)
    c.in_ok-push_tokens.ensures c.in_ok-push_often.ensures counted
